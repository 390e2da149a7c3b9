-- Worked rows of the kernels and of their refusals, computed from the definitions.
use Rattle.std.specs.Prelude.{◌≡◌, Bool, true, false, Some, refl, ◌+◌, ◌<◌, ◌^◌, pos, negsuc, List, [], ◌∷◌, ◌++◌, length, map, sum_by}
use Rattle.std.proofs.Common.{arith, inl, inr}
use Rattle.std.proofs.lemmas.Int.{ints}
use Rattle.std.proofs.lemmas.List.{append-nil}
use Rattle.std.proofs.lemmas.List.Sums.{sum_by-append}
use Rattle.arrow_types.specs.declared.datatypes.IntegerType.TheVariants.{Int32}
use Rattle.arrow_types.specs.ArrowType.{boolean, integer, plain, utf8}
use Rattle.arrow_types.specs.Fits.{Fits, byte_count}
use Rattle.arrow_types.specs.Ranges.{named, true_rows}
use Rattle.arrow_types.specs.Rows.{joined, mask_of, select}
use Rattle.arrow_types.specs.Slot.{Slot, Boolean, Null, Number}
use Rattle.arrow_flat.specs.Parts.{Parts, boolean_rows}
use Rattle.arrow_arrays.specs.Layout.{flat}
use Rattle.arrow_select.specs.Batches.{GathersByParts, KeepsByBatch, ShiftsByEdge, met_behind}
use Rattle.arrow_select.specs.Laws.{true_places}
use Rattle.arrow_select.specs.Ranges.{mask_at}
use Rattle.arrow_select.specs.Refusals.{PassesLength}
use Rattle.arrow_select.specs.Selected.{selected_rows}

-- of three rows, an offset of 3 passes none, and one of 4 or -4 does
three_is_within : PassesLength (pos 3) 3 → ⊥
three_is_within (inl passes) = omega (arith, passes)
three_is_within (inr least) = omega (arith, ints, least)

four_passes : PassesLength (pos 4) 3
four_passes = inl (omega arith)

four_back_passes : PassesLength (negsuc 3) 3
four_back_passes = inl (omega arith)

-- texts of two arrays fit where they have 2 ^ 31 - 1 bytes in all, and not with one byte more
texts_fit : (xs ys : List Slot) → length (xs ++ ys) < 2 ^ 64 → sum_by byte_count xs + sum_by byte_count ys ≡ 2147483647 → Fits (plain utf8) (joined (xs ∷ ys ∷ []))
texts_fit xs ys counted bytes =
    rw (append-nil ys) (counted, omega (arith, bytes, sum_by-append byte_count xs ys))

texts_pass : (xs ys : List Slot) → sum_by byte_count xs + sum_by byte_count ys ≡ 2147483648 → Fits (plain utf8) (joined (xs ∷ ys ∷ [])) → ⊥
texts_pass xs ys bytes fits =
    let all = rw (append-nil ys) at fits.1 in
    omega (arith, bytes, all, sum_by-append byte_count xs ys)

-- of [f, t, t], places 1 and 2 are true
two_places : true_places (false ∷ true ∷ true ∷ []) ≡ Number (pos 1) ∷ Number (pos 2) ∷ []
two_places = refl

-- the predicate [t, null over true, f] keeps the first of [1, 2, 3]
abbrev nulls_over_trues : Parts (List Bool)
nulls_over_trues =
    record { arrow_type = plain boolean; values = true ∷ true ∷ false ∷ []; validity = Some (true ∷ false ∷ true ∷ []) }

one_is_kept : mask_of (boolean_rows nulls_over_trues) ≡ true ∷ false ∷ false ∷ []
one_is_kept = refl

first_is_kept : select (mask_of (boolean_rows nulls_over_trues)) (Number (pos 1) ∷ Number (pos 2) ∷ Number (pos 3) ∷ []) ≡ Number (pos 1) ∷ []
first_is_kept = refl

-- the columns [1, 2, 3] and [true, null, false] by [null, t, t]
columns_kept : map (selected_rows (mask_of (Null ∷ Boolean true ∷ Boolean true ∷ []))) (flat (plain (integer Int32)) (Number (pos 1) ∷ Number (pos 2) ∷ Number (pos 3) ∷ []) ∷ flat (plain boolean) (Boolean true ∷ Null ∷ Boolean false ∷ []) ∷ []) ≡ (Number (pos 2) ∷ Number (pos 3) ∷ []) ∷ (Null ∷ Boolean false ∷ []) ∷ []
columns_kept = refl

-- of the mask [t, t, f, t] the ranges from row 0 on, two, and from row 3 on, one, name the rows, and give it back
three_named : named ((0, 2) ∷ (3, 1) ∷ []) ≡ true_rows 0 (true ∷ true ∷ false ∷ true ∷ [])
three_named = refl

mask_again : mask_at 0 4 (named ((0, 2) ∷ (3, 1) ∷ [])) ≡ true ∷ true ∷ false ∷ true ∷ []
mask_again = refl

-- of the mask [t, t] and then [t, f, t] the first ranges of both are one: they touch
ranges_met : met_behind ((0, 2) ∷ []) 2 ((0, 1) ∷ (2, 1) ∷ []) ≡ (0, 3) ∷ (4, 1) ∷ []
ranges_met = refl

-- the batches [1] and [2, 3] by [f] and [f, t], by the indices [0] and [1, null], and shifted by one
abbrev one_row : List Slot
one_row = Number (pos 1) ∷ []

abbrev two_rows : List Slot
two_rows = Number (pos 2) ∷ Number (pos 3) ∷ []

batches_kept : KeepsByBatch ((Boolean false ∷ []) ∷ (Boolean false ∷ Boolean true ∷ []) ∷ []) (one_row ∷ two_rows ∷ [])
batches_kept = refl

batches_taken : GathersByParts (one_row ∷ two_rows ∷ []) ((Number (pos 0) ∷ []) ∷ (Number (pos 1) ∷ Null ∷ []) ∷ []) (plain (integer Int32))
batches_taken = refl

batches_shifted : ShiftsByEdge one_row two_rows (pos 1) (plain (integer Int32))
batches_shifted = refl
