-- Worked growables, computed from the definitions.
use Rattle.std.specs.Prelude.{◌≡◌, ℕ, pos, true, None, Some, [], ◌∷◌, refl}
use Rattle.arrow_types.specs.declared.datatypes.IntegerType.TheVariants.{Int32}
use Rattle.arrow_types.specs.declared.datatypes.UnionMode.TheVariants.{Sparse}
use Rattle.arrow_types.specs.ArrowType.{ArrowType, plain, integer, null, union, field, no_fields, more_fields}
use Rattle.arrow_types.specs.Slot.{Slot, Null, Number, Variant}
use Rattle.arrow_arrays.specs.Layout.{flat}
use Rattle.arrow_flat_growable.specs.Grown.{Grown, appended, bound_to, empty_over, named_rows, null_rows_of}
use Rattle.arrow_flat_growable.specs.Keys.{StoresKeys}
use Rattle.arrow_flat_growable.specs.Waiting.{with_waiting}
use Rattle.arrow_flat_growable.specs.declared.growable.waiting.Waiting.TheVariants.{Of, Under}

abbrev int32 : ArrowType
int32 = plain (integer Int32)

abbrev one : ℕ → Slot
one n = Number (pos n)

-- over the rows 4, 5, null and 7
abbrev over_two : Grown
over_two = bound_to (flat int32 (one 4 ∷ one 5 ∷ []) ∷ flat int32 (Null ∷ one 7 ∷ []) ∷ [])

rows_of_the_second : named_rows over_two 1 0 2 ≡ Null ∷ one 7 ∷ []
rows_of_the_second = refl

-- one row of the first, and then all of the second
abbrev three_rows : Grown
three_rows = appended (appended over_two (named_rows over_two 0 1 1)) (named_rows over_two 1 0 2)

rows_of_three : three_rows.rows ≡ one 5 ∷ Null ∷ one 7 ∷ []
rows_of_three = refl

count_of_three : three_rows.count ≡ 3
count_of_three = refl

-- a growable without arrays takes nulls, whatever is named
nulls_of_none : named_rows (empty_over (plain null) None) 7 9 2 ≡ Null ∷ Null ∷ []
nulls_of_none = refl

-- a null slot of a union is one of its first field
abbrev pair_of_ints : ArrowType
pair_of_ints = union Sparse (Some (pos 5 ∷ pos 7 ∷ [])) (more_fields (field [] int32 true) (more_fields (field [] int32 true) no_fields))

null_of_union : null_rows_of (empty_over pair_of_ints (Some [])) 1 ≡ Variant (pos 5) Null ∷ []
null_of_union = refl

-- the keys null and 9 of an array that stores 7 beneath the null
keys_stored : StoresKeys (one 7 ∷ one 9 ∷ []) (None ∷ Some 9 ∷ [])
keys_stored = (tt, (refl, tt))

-- a row x, behind which two calls wait: rows 1 and 2 of the array with the rows a, bc and an empty one, and all three of which row 1 alone has bytes
two_calls_wait : with_waiting (record { offsets = 0 ∷ 1 ∷ 3 ∷ 3 ∷ []; bytes = 97 ∷ 98 ∷ 99 ∷ [] } ∷ []) ((120 ∷ []) ∷ []) (Of 0 1 2 ∷ Under 0 0 3 2 ∷ []) ≡ (120 ∷ []) ∷ (98 ∷ 99 ∷ []) ∷ [] ∷ [] ∷ (98 ∷ 99 ∷ []) ∷ [] ∷ []
two_calls_wait = refl
