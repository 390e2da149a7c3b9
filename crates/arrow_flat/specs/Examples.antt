-- Worked rows of flat arrays and scalars, computed from the definitions.
use Rattle.std.specs.Prelude.{◌≡◌, pos, true, false, None, Some, List, [], ◌∷◌, map, refl}
use Rattle.arrow_types.specs.declared.datatypes.IntegerType.TheVariants.{Int8, Int32}
use Rattle.arrow_types.specs.ArrowType.{plain, integer, utf8, large_utf8, dictionary, extension, fixed_size_binary}
use Rattle.arrow_types.specs.Slot.{Slot, Null, Number, Text, Bytes, Dict}
use Rattle.arrow_flat.specs.ByteRows.{ByteParts, byte_slots, byte_slice}
use Rattle.arrow_flat.specs.DictionaryScalar.{dict_by, values_in, slot_depth}
use Rattle.arrow_flat.specs.FixedRows.{fixed_slots, fixed_slice, fixed_size_in}
use Rattle.arrow_flat.specs.Parts.{Parts, rows_by}

-- texts "ab", "", "c", whose first offset is not 0, behind and before bytes that no row names
abbrev texts : ByteParts
texts = record { offsets = 1 ∷ 3 ∷ 3 ∷ 4 ∷ []; bytes = 255 ∷ 97 ∷ 98 ∷ 99 ∷ 254 ∷ [] }

three_texts : byte_slots Text texts ≡ Text (97 ∷ 98 ∷ []) ∷ Text [] ∷ Text (99 ∷ []) ∷ []
three_texts = refl

-- the last two of them
two_texts : byte_slots Text (byte_slice texts 1 2) ≡ Text [] ∷ Text (99 ∷ []) ∷ []
two_texts = refl

-- two rows of two bytes, and the second
rows_of_a_size : fixed_slots (record { size = 2; count = 2; bytes = 1 ∷ 2 ∷ 3 ∷ 4 ∷ [] }) ≡ Bytes (1 ∷ 2 ∷ []) ∷ Bytes (3 ∷ 4 ∷ []) ∷ []
rows_of_a_size = refl

second_of_a_size : fixed_slots (fixed_slice (record { size = 2; count = 2; bytes = 1 ∷ 2 ∷ 3 ∷ 4 ∷ [] }) 1 1) ≡ Bytes (3 ∷ 4 ∷ []) ∷ []
second_of_a_size = refl

-- what is stored beneath a null is no row's
abbrev numbers : Parts (List Slot)
numbers =
    record { arrow_type = plain (integer Int32); values = map (λ n. Number (pos n)) (1 ∷ 7 ∷ 3 ∷ []); validity = Some (true ∷ false ∷ true ∷ []) }

beneath_a_null : rows_by (λ slots. slots) numbers ≡ Number (pos 1) ∷ Null ∷ Number (pos 3) ∷ []
beneath_a_null = refl

-- the size of a type, also inside an extension, and of one that has none
size_inside : fixed_size_in (extension [] None (plain (fixed_size_binary 3))) ≡ 3
size_inside = refl

size_of_none : fixed_size_in (plain utf8) ≡ 0
size_of_none = refl

-- a null of a dictionary, and a null value in one
null_key : dict_by None ≡ Null
null_key = refl

null_value : dict_by (Some (plain utf8, Null)) ≡ Dict Null
null_value = refl

values_inside : values_in (extension [] None (dictionary Int8 false (plain large_utf8))) ≡ plain large_utf8
values_inside = refl

nested : slot_depth (Dict (Dict Null)) ≡ 2
nested = refl
