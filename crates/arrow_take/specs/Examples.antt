-- Worked rows by index, and types that `can_take` lists, computed from the definitions.
use Rattle.std.specs.Prelude.{◌≡◌, true, false, Some, None, refl, pos, [], ◌∷◌, map}
use Rattle.arrow_types.specs.declared.datatypes.IntegerType.TheVariants.{Int32}
use Rattle.arrow_types.specs.declared.datatypes.UnionMode.{UnionMode}
use Rattle.arrow_types.specs.declared.datatypes.UnionMode.TheVariants.{Dense, Sparse}
use Rattle.arrow_types.specs.ArrowType.{ArrowType, decimal256, extension, field, fixed_size_binary, integer, list, mapped, more_fields, no_fields, plain, small, struct, union, utf8}
use Rattle.arrow_types.specs.Rows.{gather}
use Rattle.arrow_types.specs.Slot.{Bytes, Items, Null, Number, Parts as fields, Text, Variant, more_slots, no_slots}
use Rattle.arrow_take.specs.DenseUnions.{kept, ranks}
use Rattle.arrow_take.specs.Taken.{IsTaken, taken_row}

-- maps are listed, also in a struct and in a union, and whatever is inside a list
abbrev maps : ArrowType
maps = list (mapped false) (field [] (plain utf8) true)

structs_of_maps_are_listed : IsTaken (struct (more_fields (field [] maps true) no_fields))
structs_of_maps_are_listed = (tt, tt)

unions_of_maps_are_listed : IsTaken (union Dense None (more_fields (field [] maps true) no_fields))
unions_of_maps_are_listed = (tt, tt)

-- decimals of 256 bits are not, and no struct or union of them, but lists of them are
abbrev wide : ArrowType
wide = plain (decimal256 76 0)

wide_is_not_listed : IsTaken wide → ⊥
wide_is_not_listed is = is

structs_of_wide_are_not_listed : IsTaken (struct (more_fields (field [] wide true) no_fields)) → ⊥
structs_of_wide_are_not_listed are = are.0

unions_of_wide_are_not_listed : IsTaken (union Sparse None (more_fields (field [] wide true) no_fields)) → ⊥
unions_of_wide_are_not_listed are = are.0

lists_of_wide_are_listed : IsTaken (list small (field [] wide true))
lists_of_wide_are_listed = tt

extensions_are_not_listed : IsTaken (extension [] None (plain utf8)) → ⊥
extensions_are_not_listed is = is

-- the rows [5, null] by the indices [1, null, 0]
three_taken : gather (Number (pos 5) ∷ Null ∷ []) (Number (pos 1) ∷ Null ∷ Number (pos 0) ∷ []) (plain utf8) ≡ Null ∷ Null ∷ Number (pos 5) ∷ []
three_taken = refl

-- a union of Int32 under the id 5 and Utf8 under the id 7, with the rows [1, "a"], by the indices [1, null, 0]
abbrev five_seven : UnionMode → ArrowType
five_seven mode =
    union mode (Some (pos 5 ∷ pos 7 ∷ [])) (more_fields (field [] (plain (integer Int32)) true) (more_fields (field [] (plain utf8) true) no_fields))

union_taken : gather (Variant (pos 5) (Number (pos 1)) ∷ Variant (pos 7) (Text (97 ∷ [])) ∷ []) (Number (pos 1) ∷ Null ∷ Number (pos 0) ∷ []) (five_seven Sparse) ≡ Variant (pos 7) (Text (97 ∷ [])) ∷ Variant (pos 5) Null ∷ Variant (pos 5) (Number (pos 1)) ∷ []
union_taken = refl

-- a row of a struct with such a union is null where the index is, and the union's null slot stays inside
struct_of_union_taken : gather (fields (more_slots (Variant (pos 7) (Text (97 ∷ []))) no_slots) ∷ []) (Null ∷ Number (pos 0) ∷ []) (struct (more_fields (field [] (five_seven Sparse) true) no_fields)) ≡ Null ∷ fields (more_slots (Variant (pos 7) (Text (97 ∷ []))) no_slots) ∷ []
struct_of_union_taken = refl

-- the dense union [1, "b"], [0, 4], [1, "a"], whose fields have the ids 0 and 1, by [2, 0, 0, null]
dense_taken : gather (Variant (pos 1) (Text (98 ∷ [])) ∷ Variant (pos 0) (Number (pos 4)) ∷ Variant (pos 1) (Text (97 ∷ [])) ∷ []) (Number (pos 2) ∷ Number (pos 0) ∷ Number (pos 0) ∷ Null ∷ []) (union Dense None (more_fields (field [] (plain (integer Int32)) true) (more_fields (field [] (plain utf8) true) no_fields))) ≡ Variant (pos 1) (Text (97 ∷ [])) ∷ Variant (pos 1) (Text (98 ∷ [])) ∷ Variant (pos 1) (Text (98 ∷ [])) ∷ Variant (pos 0) Null ∷ []
dense_taken = refl

-- its offsets and type ids, and the places by which its second field is taken
dense_ranks : ranks (pos 1 ∷ pos 1 ∷ pos 1 ∷ pos 0 ∷ []) ≡ 0 ∷ 1 ∷ 2 ∷ 0 ∷ []
dense_ranks = refl

own_places_kept : kept (true ∷ true ∷ true ∷ false ∷ []) (Number (pos 0) ∷ Number (pos 1) ∷ Number (pos 1) ∷ Null ∷ []) ≡ Number (pos 0) ∷ Number (pos 1) ∷ Number (pos 1) ∷ []
own_places_kept = refl

-- bytes of size 2, "ab", null and "cd", by [2, 1, null, 0]
fixed_taken : gather (Bytes (97 ∷ 98 ∷ []) ∷ Null ∷ Bytes (99 ∷ 100 ∷ []) ∷ []) (Number (pos 2) ∷ Number (pos 1) ∷ Null ∷ Number (pos 0) ∷ []) (plain (fixed_size_binary 2)) ≡ Bytes (99 ∷ 100 ∷ []) ∷ Null ∷ Null ∷ Bytes (97 ∷ 98 ∷ []) ∷ []
fixed_taken = refl

-- what is stored of it, with zeros beneath the null index
fixed_rows_stored : map (taken_row 2 (97 ∷ 98 ∷ 1 ∷ 2 ∷ 99 ∷ 100 ∷ [])) (Number (pos 2) ∷ Null ∷ Number (pos 0) ∷ []) ≡ (99 ∷ 100 ∷ []) ∷ (0 ∷ 0 ∷ []) ∷ (97 ∷ 98 ∷ []) ∷ []
fixed_rows_stored = refl

-- maps [1, "x"], null and none, by [2, 0, 1]
maps_taken : gather (Items (more_slots (fields (more_slots (Number (pos 1)) (more_slots (Text (120 ∷ [])) no_slots))) no_slots) ∷ Null ∷ Items no_slots ∷ []) (Number (pos 2) ∷ Number (pos 0) ∷ Number (pos 1) ∷ []) maps ≡ Items no_slots ∷ Items (more_slots (fields (more_slots (Number (pos 1)) (more_slots (Text (120 ∷ [])) no_slots))) no_slots) ∷ Null ∷ []
maps_taken = refl
