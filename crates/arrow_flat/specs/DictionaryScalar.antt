-- A dictionary's scalar as contracts see it: its type, and the type and slot of its value, if it is not null.
use Rattle.std.specs.Prelude.{◌≡◌, ℕ, zero, suc, Option, Some, None, refl}
use Rattle.std.specs.Coded.{Coded, code_by, coded×, coded_option}
use Rattle.arrow_types.specs.declared.error.Error.{Error}
use Rattle.arrow_types.specs.declared.error.Error.TheVariants.{OutOfSpec}
use Rattle.arrow_types.specs.declared.error.SpecPart.TheVariants.{Kind, Child}
use Rattle.arrow_types.specs.ArrowType.{ArrowType, dictionary, extension, logical}
use Rattle.arrow_types.specs.Slot.{Slot, Null, Dict}
use Rattle.arrow_types.specs.StoredSlot.{slot_code}
use Rattle.arrow_types.specs.StoredType.{type_code}

pub record DictionaryParts : Type 0 where
  pub arrow_type : ArrowType
  pub value : Option (ArrowType × Slot)

-- the code that the logic asks for
abbrev pub dictionary_code : Coded DictionaryParts
dictionary_code =
    code_by (ArrowType × Option (ArrowType × Slot)) (coded× type_code (coded_option (coded× type_code slot_code))) (λ p. (p.arrow_type, p.value)) (λ t. record { arrow_type = t.0; value = t.1 }) (λ _. refl)

-- the slot: the entry that holds that of the value
abbrev pub dict_by : Option (ArrowType × Slot) → Slot
dict_by None = Null
dict_by (Some inner) = Dict inner.1

abbrev pub dict_slot : DictionaryParts → Slot
dict_slot p = dict_by p.value

-- a dictionary's type, extensions around it apart
abbrev pub HasDictionary : ArrowType → Type 0
HasDictionary (dictionary keys ordered t) = Unit {0}
HasDictionary (extension name metadata t) = HasDictionary t
HasDictionary _ = ⊥

-- the type of a dictionary's values
abbrev pub values_in : ArrowType → ArrowType
values_in (dictionary keys ordered t) = t
values_in (extension name metadata t) = values_in t
values_in t = t

-- a value, if there is one, is of a type, extensions around both apart
abbrev pub IsOf : ArrowType → Option (ArrowType × Slot) → Type 0
IsOf t None = Unit {0}
IsOf t (Some inner) = logical inner.0 ≡ logical t

-- the type is a dictionary's, and the value is of the type of its values
pub record IsDictionary (p : DictionaryParts) : Type 0 where
  pub kind : HasDictionary p.arrow_type
  pub child : IsOf (values_in p.arrow_type) p.value

-- the error names the first of the two that does not hold
abbrev pub NamesKindOrChild : Type 0 → Type 0 → Error → Type 0
NamesKindOrChild kind child (OutOfSpec Kind) = kind → ⊥
NamesKindOrChild kind child (OutOfSpec Child) = kind × (child → ⊥)
NamesKindOrChild kind child _ = ⊥

-- how many entries lie one in the other: the measure of every recursion over scalars
abbrev pub slot_depth : Slot → ℕ
slot_depth (Dict s) = suc (slot_depth s)
slot_depth _ = zero

abbrev pub dict_depth : DictionaryParts → ℕ
dict_depth p = slot_depth (dict_slot p)
