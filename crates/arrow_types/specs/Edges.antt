-- Worked rows at the edges of the definitions: what just fits, and what passes by one.
use Rattle.std.specs.Prelude.{◌≡◌, ◌+◌, ◌^◌, ℕ, zero, suc, pos, true, None, List, [], ◌∷◌, length, replicate, refl}
use Rattle.std.proofs.Common.{ap, arith}
use Rattle.std.proofs.lemmas.List.{length-replicate}
use Rattle.arrow_types.specs.declared.datatypes.UnionMode.TheVariants.{Dense}
use Rattle.arrow_types.specs.ArrowType.{ArrowType, plain, null, float32, list, small, large, fixed_size, struct, union, extension, field, no_fields, more_fields}
use Rattle.arrow_types.specs.Carried.{IsCarried, AreTypeIds}
use Rattle.arrow_types.specs.Fits.{Fits, FitsForm, all_items, dense_part}
use Rattle.arrow_types.specs.Slot.{Slot, Null, Variant}

-- a dense union has 2 ^ 31 rows of one id, and not one more
abbrev nulls : ArrowType
nulls = union Dense None (more_fields (field [] (plain null) true) no_fields)

of_first : (n : ℕ) → dense_part (pos 0) (replicate n (Variant (pos 0) Null)) ≡ replicate n Null
of_first zero = refl
of_first (suc n) = ap (λ rows. Null ∷ rows) (of_first n)

dense_fits : (n : ℕ) → n ≡ 2 ^ 31 → Fits nulls (replicate n (Variant (pos 0) Null))
dense_fits n is =
    let rows = length-replicate n (Variant (pos 0) Null) in
    let nulls = length-replicate n Null in
    rw (of_first n) (omega arith, (omega arith, (omega arith, tt), tt))

dense_passes : (n : ℕ) → n ≡ 2 ^ 31 + 1 → Fits nulls (replicate n (Variant (pos 0) Null)) → ⊥
dense_passes n is fits =
    let nulls = length-replicate n Null in
    let few = rw (of_first n) at fits.1.0 in
    omega arith

-- the greatest offset of a list is 2 ^ 31 - 1, and 2 ^ 63 - 1 in the large form
lists_fit : (rows : List Slot) → length (all_items rows) ≡ 2147483647 → FitsForm small rows
lists_fit rows is = omega arith

lists_pass : (rows : List Slot) → length (all_items rows) ≡ 2147483648 → FitsForm small rows → ⊥
lists_pass rows is fits = omega arith

large_lists_fit : (rows : List Slot) → length (all_items rows) ≡ 9223372036854775807 → FitsForm large rows
large_lists_fit rows is = omega arith

large_lists_pass : (rows : List Slot) → length (all_items rows) ≡ 9223372036854775808 → FitsForm large rows → ⊥
large_lists_pass rows is fits = omega arith

-- lists of two items each: 2 ^ 63 of them have 2 ^ 64 items, one more than can be counted
pairs_fit : (rows : List Slot) → length rows ≡ 9223372036854775807 → FitsForm (fixed_size 2) rows
pairs_fit rows is = omega arith

pairs_pass : (rows : List Slot) → length rows ≡ 9223372036854775808 → FitsForm (fixed_size 2) rows → ⊥
pairs_pass rows is fits = omega arith

-- a union without ids has at most 128 fields
fields_of_128 : AreTypeIds None 128
fields_of_128 = omega arith

fields_of_129 : AreTypeIds None 129 → ⊥
fields_of_129 few = omega arith

-- no array is of a float, of a struct without fields, or of lists of no item, in whatever extension
no_float : IsCarried (list small (field [] (extension [] None (plain float32)) true)) → ⊥
no_float carried = carried.1

no_empty_struct : IsCarried (struct no_fields) → ⊥
no_empty_struct carried = carried.0

no_size_of_0 : IsCarried (list (fixed_size 0) (field [] (plain null) true)) → ⊥
no_size_of_0 carried = omega arith
