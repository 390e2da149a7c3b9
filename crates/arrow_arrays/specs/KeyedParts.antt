-- A dictionary as contracts see it ("Dictionary-encoded Layout").
use Rattle.std.specs.Prelude.{◌≡◌, ℕ, ◌<◌, pos, Bool, Option, Some, None, List, map, length, refl}
use Rattle.std.specs.Coded.{Coded, code_by, coded×, coded_ℕ, coded_list, coded_bool, coded_option}
use Rattle.std.specs.List.{All}
use Rattle.arrow_types.specs.declared.error.Error.{Error}
use Rattle.arrow_types.specs.declared.datatypes.IntegerType.{IntegerType}
use Rattle.arrow_types.specs.declared.datatypes.physical_type.PhysicalType.TheVariants as physical
use Rattle.arrow_types.specs.ArrowType.{ArrowType}
use Rattle.arrow_types.specs.Slot.{Slot, Null, Number}
use Rattle.arrow_types.specs.StoredType.{type_code}
use Rattle.arrow_memory.specs.Sliced.{sliced}
use Rattle.arrow_flat.specs.DictionaryScalar.{values_in}
use Rattle.arrow_flat.specs.Faults.{IsCarriedAs}
use Rattle.arrow_arrays.specs.Faults.{NamesFirstNested}
use Rattle.arrow_arrays.specs.Layout.{Layout, keyed, rows, type_of_layout}
use Rattle.arrow_arrays.specs.SliceOf.{validity_of_slice}
use Rattle.arrow_arrays.specs.StoredLayout.{layout_code}

-- the type, the validity of the keys, if there is one, a key a row, None where it is null, and the values
pub record KeyedParts : Type 0 where
  pub arrow_type : ArrowType
  pub validity : Option (List Bool)
  pub keys : List (Option ℕ)
  pub child : Layout

-- the code that the logic asks for
abbrev pub keyed_parts_code : Coded KeyedParts
keyed_parts_code =
    code_by (ArrowType × (Option (List Bool) × (List (Option ℕ) × Layout))) (coded× type_code (coded× (coded_option (coded_list coded_bool)) (coded× (coded_list (coded_option coded_ℕ)) layout_code))) (λ p. (p.arrow_type, (p.validity, (p.keys, p.child)))) (λ t. record { arrow_type = t.0; validity = t.1.0; keys = t.1.1.0; child = t.1.1.1 }) (λ _. refl)

abbrev pub keyed_layout : KeyedParts → Layout
keyed_layout p = keyed p.arrow_type p.keys p.child

-- the rows
abbrev pub keyed_rows : KeyedParts → List Slot
keyed_rows p = rows (keyed_layout p)

-- what an array means: its type and its rows
abbrev pub keyed_meaning : KeyedParts → ArrowType × List Slot
keyed_meaning p = (p.arrow_type, keyed_rows p)

-- the parts of a slice: its keys with their validity, and all values
abbrev pub keyed_slice : KeyedParts → ℕ → ℕ → KeyedParts
keyed_slice p offset len =
    record { arrow_type = p.arrow_type; validity = validity_of_slice p.validity offset len; keys = sliced p.keys offset len; child = p.child }

-- the key that a row of an array of keys is
abbrev pub key_in : Slot → Option ℕ
key_in (Number (pos n)) = Some n
key_in _ = None

-- the keys of all rows
abbrev pub keys_in : List Slot → List (Option ℕ)
keys_in = map key_in

-- a row of an array of keys that is null, whatever lies beneath, or names one of so many values
abbrev pub IsKey : ℕ → Slot → Type 0
IsKey count Null = Unit {0}
IsKey count (Number (pos n)) = n < count
IsKey count _ = ⊥

-- a row that is null or a number that is not negative
abbrev pub IsKeyIn : Slot → Type 0
IsKeyIn Null = Unit {0}
IsKeyIn (Number (pos n)) = Unit {0}
IsKeyIn _ = ⊥

abbrev pub AreKeys : ℕ → List Slot → Type 0
AreKeys count = All (IsKey count)

-- the parts of an array, by the rows of its keys and their type: a carried type with such keys, values of the type that it names, and each valid key inside the values
pub record IsKeyed (keys : List Slot) (key_type : IntegerType) (p : KeyedParts) : Type 0 where
  pub kind : IsCarriedAs (physical.Dictionary key_type) p.arrow_type
  pub child : type_of_layout p.child ≡ values_in p.arrow_type
  pub seen : p.keys ≡ keys_in keys
  pub within : AreKeys (length (rows p.child)) keys

-- what a test of the parts finds to hold
abbrev pub HoldsKeyed : ArrowType → List Slot → IntegerType → Layout → Type 0
HoldsKeyed t keys key_type child =
    IsCarriedAs (physical.Dictionary key_type) t × (type_of_layout child ≡ values_in t) × AreKeys (length (rows child)) keys

-- the error names the first part that does not hold
abbrev pub IsKeyedFault : ArrowType → List Slot → IntegerType → Layout → Error → Type 0
IsKeyedFault t keys key_type child =
    NamesFirstNested (IsCarriedAs (physical.Dictionary key_type) t) (type_of_layout child ≡ values_in t) (Unit {0}) (Unit {0}) (Unit {0}) (AreKeys (length (rows child)) keys)
