-- Keys of any type as contracts see them: an array of integers.
use Rattle.std.specs.Prelude.{ℕ, pos, Bool, Option, List}
use Rattle.arrow_types.specs.declared.datatypes.IntegerType.{IntegerType}
use Rattle.arrow_types.specs.declared.datatypes.IntegerType.TheVariants as integer
use Rattle.arrow_types.specs.ArrowType.{ArrowType}
use Rattle.arrow_types.specs.Slot.{Slot, Number}
use Rattle.arrow_flat.specs.AnyPrimitive.{seen_by}
use Rattle.arrow_flat.specs.Parts.{Parts, rows_by}
use Rattle.arrow_arrays.specs.KeyedParts.{KeyedParts, keys_in}
use Rattle.arrow_arrays.specs.Layout.{Layout}
use Rattle.arrow_arrays.specs.declared.array.dictionary.keys.AnyKeys.{AnyKeys}
use Rattle.arrow_arrays.specs.declared.array.dictionary.keys.AnyKeys.TheVariants.{Int8, Int16, Int32, Int64, UInt8, UInt16, UInt32, UInt64}

-- the parts of the array of keys, each key by its slot
abbrev pub key_parts : AnyKeys → Parts (List Slot)
key_parts (Int8 p) = seen_by Number p
key_parts (Int16 p) = seen_by Number p
key_parts (Int32 p) = seen_by Number p
key_parts (Int64 p) = seen_by Number p
key_parts (UInt8 p) = seen_by (λ n. Number (pos n)) p
key_parts (UInt16 p) = seen_by (λ n. Number (pos n)) p
key_parts (UInt32 p) = seen_by (λ n. Number (pos n)) p
key_parts (UInt64 p) = seen_by (λ n. Number (pos n)) p

-- its rows, null where a key is
abbrev pub key_rows : AnyKeys → List Slot
key_rows keys = rows_by (λ slots. slots) (key_parts keys)

-- its validity, if there is one
abbrev pub key_validity : AnyKeys → Option (List Bool)
key_validity keys = (key_parts keys).validity

-- the key of each row, None where it is null
abbrev pub keys_of : AnyKeys → List (Option ℕ)
keys_of keys = keys_in (key_rows keys)

-- the type of the keys, as a dictionary's type names it
abbrev pub key_type_of : AnyKeys → IntegerType
key_type_of (Int8 p) = integer.Int8
key_type_of (Int16 p) = integer.Int16
key_type_of (Int32 p) = integer.Int32
key_type_of (Int64 p) = integer.Int64
key_type_of (UInt8 p) = integer.UInt8
key_type_of (UInt16 p) = integer.UInt16
key_type_of (UInt32 p) = integer.UInt32
key_type_of (UInt64 p) = integer.UInt64

-- the parts of a dictionary of these keys and values
abbrev pub keyed_of : ArrowType → AnyKeys → Layout → KeyedParts
keyed_of t keys child = record { arrow_type = t; validity = key_validity keys; keys = keys_of keys; child = child }
