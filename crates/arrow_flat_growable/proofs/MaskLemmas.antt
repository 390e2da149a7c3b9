-- Rows under a mask of bits.
use Rattle.arrow_flat_growable.proofs.Common.{arith, ◌≡◌, ◌+◌, ◌≤◌, ◌∙◌, ℕ, Bool, true, false, not, List, [], ◌∷◌, Option, Some, None, length, suc, Bor, refl, ap, sym, subst, cond, count_by, IfSome, sum_by-cons, mask, masked, Slot, Null, both_bits, sliced, length-sliced, FitsRows, masked-sliced, valid_in_both}
use Rattle.std.specs.Prelude.{option_copied}
use Rattle.std.specs.Prelude.{if◌then◌else◌}

-- bits none of which is not set leave the rows as they are
pub mask-all : (bits : List Bool) (xs : List Slot) → length xs ≡ length bits → count_by not bits ≡ 0 → mask bits xs ≡ xs
mask-all [] [] same none = refl
mask-all [] (x ∷ xs) same none = absurd (omega (arith, same))
mask-all (b ∷ bits) [] same none = absurd (omega (arith, same))
mask-all (true ∷ bits) (x ∷ xs) same none =
    ap (λ ys. x ∷ ys) (mask-all bits xs (omega (arith, same)) (omega (arith, none, sum_by-cons (λ b. cond (not b) 1 0) true bits)))
mask-all (false ∷ bits) (x ∷ xs) same none = absurd (omega (arith, none, sum_by-cons (λ b. cond (not b) 1 0) false bits))

-- a part of an array has its bits, where some are lent
pub lent_within : (r : Option (Bor (List Bool))) (v : Option (List Bool)) (n k : ℕ) → option_copied r ≡ v → FitsRows v n → k ≤ n → IfSome r (λ bits. k ≤ length bits.now)
lent_within None v n k same fits within = tt
lent_within (Some bits) v n k same fits within =
    let counted : length bits.now ≡ n = subst (λ w. FitsRows w n) (sym same) fits in
    omega (arith, counted, within)

-- rows under two validities
mask_none : (bits : List Bool) → mask bits [] ≡ []
mask_none [] = refl
mask_none (b ∷ bits) = refl

mask_both : (own bits : List Bool) (xs : List Slot) → mask (both_bits own bits) xs ≡ mask bits (mask own xs)
mask_both [] bits xs = sym (mask_none bits)
mask_both (o ∷ own) [] xs = refl
mask_both (o ∷ own) (b ∷ bits) [] = refl
mask_both (true ∷ own) (b ∷ bits) (x ∷ xs) = ap (λ ys. (if b then x else Null) ∷ ys) (mask_both own bits xs)
mask_both (false ∷ own) (true ∷ bits) (x ∷ xs) = ap (λ ys. Null ∷ ys) (mask_both own bits xs)
mask_both (false ∷ own) (false ∷ bits) (x ∷ xs) = ap (λ ys. Null ∷ ys) (mask_both own bits xs)

pub rows_under : (own : Option (List Bool)) (bits : List Bool) (xs : List Slot) → mask (valid_in_both own bits) xs ≡ mask bits (masked own xs)
rows_under None bits xs = refl
rows_under (Some own) bits xs = mask_both own bits xs

long_both : (own bits : List Bool) → length own ≡ length bits → length (both_bits own bits) ≡ length bits
long_both [] [] same = refl
long_both [] (b ∷ bits) same = absurd (omega (arith, same))
long_both (o ∷ own) [] same = refl
long_both (o ∷ own) (b ∷ bits) same = ap suc (long_both own bits (omega (arith, same)))

pub bits_under : (own : Option (List Bool)) (bits : List Bool) → FitsRows own (length bits) → length (valid_in_both own bits) ≡ length bits
bits_under None bits fits = refl
bits_under (Some own) bits fits = long_both own bits fits

-- the bits of a validity from a place on, which may be absent, that are set in a mask too
abbrev pub part_in_both : Option (List Bool) → ℕ → List Bool → List Bool
part_in_both None start own = own
part_in_both (Some bits) start own = both_bits (sliced bits start (length own)) own

-- a mask and the validity of a part, as one: a bit for each row, and the part's rows under the mask
pub part_under : (v : Option (List Bool)) (stored : List Slot) (start : ℕ) (own : List Bool) → FitsRows v (length stored) → start + length own ≤ length stored → (length (part_in_both v start own) ≡ length own) × (mask (part_in_both v start own) (sliced stored start (length own)) ≡ mask own (sliced (masked v stored) start (length own)))
part_under None stored start own fits within = (refl, refl)
part_under (Some bits) stored start own fits within =
    let many = length-sliced bits start (length own) (omega (arith, fits, within)) in
    (long_both (sliced bits start (length own)) own many, mask_both (sliced bits start (length own)) own (sliced stored start (length own)) ∙ ap (mask own) (masked-sliced (Some bits) stored start (length own)))
