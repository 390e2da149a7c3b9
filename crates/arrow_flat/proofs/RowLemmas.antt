-- Rows that are given of others: of each pair, of each row under a validity, and where two validities are taken together.
use Rattle.std.proofs.Common.{◌≡◌, ℕ, zero, suc, ◌<◌, Bool, true, false, Option, Some, None, List, [], ◌∷◌, length, map, get_or, refl, ap, sym, ◌∙◌, arith}
use Rattle.std.specs.Prelude.{◌&&◌}
use Rattle.arrow_types.specs.Rows.{mask, masked}
use Rattle.arrow_types.specs.Slot.{Slot, Null}
use Rattle.arrow_memory.proofs.LogicLemmas.{length-paired}
use Rattle.arrow_flat.specs.Parts.{FitsRows}
use Rattle.arrow_flat.specs.RowByRow.{row_by_row}
use Rattle.arrow_flat.specs.Validities.{combined}

-- ---- of each pair

pub length-row_by_row : {A B C : Type 0} (give : A → B → C) (xs : List A) (ys : List B) → length xs ≡ length ys → length (row_by_row give xs ys) ≡ length xs
length-row_by_row give [] ys long = refl
length-row_by_row give (x ∷ xs) [] long = absurd (omega (arith, long))
length-row_by_row give (x ∷ xs) (y ∷ ys) long = ap suc (length-row_by_row give xs ys (omega (arith, long)))

-- one pair, with a member in the place of what is past a list
pub get_or-row_by_row : {A B C : Type 0} (give : A → B → C) (xs : List A) (ys : List B) (i : ℕ) (a : A) (b : B) (d : C) → i < length xs → length xs ≡ length ys → get_or (row_by_row give xs ys) i d ≡ give (get_or xs i a) (get_or ys i b)
get_or-row_by_row give [] ys i a b d within same = absurd (omega (arith, within))
get_or-row_by_row give (x ∷ xs) [] i a b d within same = absurd (omega (arith, same))
get_or-row_by_row give (x ∷ xs) (y ∷ ys) zero a b d within same = refl
get_or-row_by_row give (x ∷ xs) (y ∷ ys) (suc i) a b d within same = get_or-row_by_row give xs ys i a b d (omega (arith, within)) (omega (arith, same))

-- ---- of each row

-- where it gives Null of Null, the rows under a validity are those of what is stored
map-mask : (f : Slot → Slot) → f Null ≡ Null → (bits : List Bool) (xs : List Slot) → map f (mask bits xs) ≡ mask bits (map f xs)
map-mask f none [] xs = refl
map-mask f none (b ∷ bits) [] = refl
map-mask f none (true ∷ bits) (x ∷ xs) = ap (λ ys. f x ∷ ys) (map-mask f none bits xs)
map-mask f none (false ∷ bits) (x ∷ xs) = λ i. none i ∷ map-mask f none bits xs i

pub map-masked : (f : Slot → Slot) → f Null ≡ Null → (v : Option (List Bool)) (xs : List Slot) → map f (masked v xs) ≡ masked v (map f xs)
map-masked f none None xs = refl
map-masked f none (Some bits) xs = map-mask f none bits xs

-- ---- two validities

-- taken together they fit where both do
pub fits_combined : (v w : Option (List Bool)) (n : ℕ) → FitsRows v n → FitsRows w n → FitsRows (combined v w) n
fits_combined None w n fits other = other
fits_combined (Some vs) None n fits other = fits
fits_combined (Some vs) (Some ws) n fits other = length-paired (λ x y. x && y) vs ws (fits ∙ sym other) ∙ fits
