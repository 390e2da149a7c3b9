-- What the definitions say, on examples.
use Rattle.std.specs.Prelude.{◌≡◌, ◌⊎◌, pos, true, false, None, [], ◌∷◌, map, refl}
use Rattle.arrow_types.specs.declared.datatypes.IntegerType.TheVariants as key
use Rattle.arrow_types.specs.declared.datatypes.IntervalUnit.TheVariants as unit
use Rattle.arrow_types.specs.ArrowType.{dictionary, extension, plain, decimal256, interval, utf8}
use Rattle.arrow_types.specs.Relation.{lt, eq, related, through}
use Rattle.arrow_types.specs.Slot.{Null, Boolean, Number, Text, Dict}
use Rattle.arrow_compare.specs.Can.{CanEqual, CanEqualScalar, CanOrder, CanOrderScalar}
use Rattle.arrow_compare.specs.Compared.{HasEqualityThrough, HasOrderThrough, type_through}
use Rattle.arrow_compare.specs.Filled.{known_or}

-- a decimal of 256 bits compares, but none of the calls that list types has it
not_wide : CanOrder (plain (decimal256 40 2)) ≡ ⊥
not_wide = refl

wide : HasOrderThrough (plain (decimal256 40 2)) ≡ Unit {0}
wide = refl

-- an interval of days and milliseconds is equal or not, also inside an extension, but in no order
interval_alone : CanEqual (extension (104 ∷ []) None (plain (interval unit.DayTime))) ≡ (⊥ ⊎ Unit {0})
interval_alone = refl

no_order : CanOrder (plain (interval unit.DayTime)) ≡ ⊥
no_order = refl

-- nor is it listed inside a dictionary, though it compares there
interval_inside : CanEqualScalar (dictionary key.Int8 false (plain (interval unit.DayTime))) ≡ (⊥ ⊎ ⊥)
interval_inside = refl

compares_inside : HasEqualityThrough (dictionary key.Int8 false (plain (interval unit.DayTime))) ≡ Unit {0}
compares_inside = refl

-- an extension around a dictionary is looked through, one around a text is not
around_dictionary : CanEqualScalar (extension (104 ∷ []) None (dictionary key.Int8 false (plain utf8))) ≡ (Unit {0} ⊎ ⊥)
around_dictionary = refl

around_text : CanOrderScalar (extension (104 ∷ []) None (plain utf8)) ≡ ⊥
around_text = refl

inside_dictionary : CanOrderScalar (dictionary key.Int8 false (extension (104 ∷ []) None (plain utf8))) ≡ ⊥
inside_dictionary = refl

-- texts in two dictionaries, one in the other, each in an extension
two_deep : type_through (dictionary key.Int8 false (extension (104 ∷ []) None (dictionary key.UInt8 true (plain utf8)))) ≡ plain utf8
two_deep = refl

-- a row of a dictionary is compared by its value, and is null where that is
by_value : map (λ s. related lt (through s) (through (Dict (Number (pos 3))))) (Dict (Number (pos 2)) ∷ Dict (Dict (Number (pos 4))) ∷ Dict Null ∷ Null ∷ []) ≡ Boolean true ∷ Boolean false ∷ Null ∷ Null ∷ []
by_value = refl

-- with a null scalar all are null
by_null : map (λ s. related eq (through s) (through (Dict Null))) (Dict (Text (97 ∷ [])) ∷ Dict Null ∷ Null ∷ []) ≡ Null ∷ Null ∷ Null ∷ []
by_null = refl

-- nulls that become false, or true
become_false : map (known_or false) (Boolean true ∷ Null ∷ Boolean false ∷ []) ≡ Boolean true ∷ Boolean false ∷ Boolean false ∷ []
become_false = refl

become_true : map (known_or true) (Boolean true ∷ Null ∷ Boolean false ∷ []) ≡ Boolean true ∷ Boolean true ∷ Boolean false ∷ []
become_true = refl
