-- Worked rows of nested arrays, computed from the definitions.
use Rattle.std.specs.Prelude.{◌≡◌, ℕ, pos, true, false, None, Some, List, [], ◌∷◌, map, refl}
use Rattle.arrow_types.specs.declared.datatypes.IntegerType.TheVariants.{Int8, Int32}
use Rattle.arrow_types.specs.declared.datatypes.UnionMode.TheVariants.{Sparse, Dense}
use Rattle.arrow_types.specs.ArrowType.{ArrowType, ArrowFields, plain, integer, utf8, list, small, fixed_size, struct, union, dictionary, field, no_fields, more_fields}
use Rattle.arrow_types.specs.Slot.{Slot, Null, Number, Text, Items, Parts, Dict, Variant, to_slots}
use Rattle.arrow_arrays.specs.Layout.{Layout, flat, listed, fixed, fielded, sparse, dense, keyed, no_layouts, more_layouts, rows, depth}
use Rattle.arrow_arrays.specs.SliceOf.{slice_of}

abbrev int32 : ArrowType
int32 = plain (integer Int32)

abbrev ints : List ℕ → Layout
ints ns = flat int32 (map (λ n. Number (pos n)) ns)

abbrev one : ℕ → Slot
one n = Number (pos n)

abbrev two_texts : Layout
two_texts = flat (plain utf8) (Text (97 ∷ []) ∷ Text (98 ∷ []) ∷ [])

-- lists [4], [], null over [7], behind and before items that no row names
abbrev lists : Layout
lists = listed (list small (field [] int32 true)) (Some (true ∷ true ∷ false ∷ [])) (1 ∷ 2 ∷ 2 ∷ 3 ∷ []) (ints (9 ∷ 4 ∷ 7 ∷ 8 ∷ []))

rows_of_lists : rows lists ≡ Items (to_slots (one 4 ∷ [])) ∷ Items (to_slots []) ∷ Null ∷ []
rows_of_lists = refl

-- the last two of them
rows_of_last_lists : rows (slice_of lists 1 2) ≡ Items (to_slots []) ∷ Null ∷ []
rows_of_last_lists = refl

-- pairs [1,2], null over [3,4], [5,6], and all but the first
abbrev pairs : Layout
pairs = fixed (list (fixed_size 2) (field [] int32 true)) (Some (true ∷ false ∷ true ∷ [])) 2 (ints (1 ∷ 2 ∷ 3 ∷ 4 ∷ 5 ∷ 6 ∷ []))

rows_of_pairs : rows pairs ≡ Items (to_slots (one 1 ∷ one 2 ∷ [])) ∷ Null ∷ Items (to_slots (one 5 ∷ one 6 ∷ [])) ∷ []
rows_of_pairs = refl

rows_of_last_pairs : rows (slice_of pairs 1 2) ≡ Null ∷ Items (to_slots (one 5 ∷ one 6 ∷ [])) ∷ []
rows_of_last_pairs = refl

-- a struct of numbers and texts, its second row null over values
abbrev number_and_text : ArrowFields
number_and_text = more_fields (field [] int32 true) (more_fields (field [] (plain utf8) true) no_fields)

rows_of_struct : rows (fielded (struct number_and_text) (Some (true ∷ false ∷ [])) (more_layouts (ints (1 ∷ 2 ∷ [])) (more_layouts two_texts no_layouts))) ≡ Parts (to_slots (one 1 ∷ Text (97 ∷ []) ∷ [])) ∷ Null ∷ []
rows_of_struct = refl

-- a sparse union with the type ids 5 and 7, read from row 1 of its children
rows_of_sparse : rows (sparse (union Sparse (Some (pos 5 ∷ pos 7 ∷ [])) number_and_text) (pos 7 ∷ []) 1 (more_layouts (ints (1 ∷ 2 ∷ [])) (more_layouts two_texts no_layouts))) ≡ Variant (pos 7) (Text (98 ∷ [])) ∷ []
rows_of_sparse = refl

-- a dense union, its last row first in its child
rows_of_dense : rows (dense (union Dense None number_and_text) (pos 1 ∷ pos 0 ∷ pos 1 ∷ []) (1 ∷ 0 ∷ 0 ∷ []) (more_layouts (ints (4 ∷ [])) (more_layouts two_texts no_layouts))) ≡ Variant (pos 1) (Text (98 ∷ [])) ∷ Variant (pos 0) (one 4) ∷ Variant (pos 1) (Text (97 ∷ [])) ∷ []
rows_of_dense = refl

-- a dictionary: a null key is null, and a key that names a null is not
rows_of_dictionary : rows (keyed (dictionary Int8 false int32) (Some 1 ∷ None ∷ Some 0 ∷ []) (flat int32 (one 3 ∷ Null ∷ []))) ≡ Dict Null ∷ Null ∷ Dict (one 3) ∷ []
rows_of_dictionary = refl

-- a list of dictionaries is two deep
depth_of_nested : depth (listed (list small (field [] (dictionary Int8 false int32) true)) None (0 ∷ 1 ∷ []) (keyed (dictionary Int8 false int32) (Some 0 ∷ []) (ints (3 ∷ [])))) ≡ 2
depth_of_nested = refl
