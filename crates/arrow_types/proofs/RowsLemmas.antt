-- Lists of rows, one row at a time.
use Rattle.std.proofs.Common.{◌≡◌, ℕ, zero, suc, ◌+◌, Bool, Some, List, [], ◌∷◌, ◌++◌, length, take, drop, if◌then◌else◌, refl, ap, arith}
use Rattle.std.specs.Prelude.{slice_get}
use Rattle.arrow_types.specs.Slot.{Slot, Null}
use Rattle.arrow_types.specs.Rows.{mask, select}

-- a list from a place whose member is known, and up to it
pub drop_at_read : {A : Type 0} (xs : List A) (i : ℕ) (x : A) → slice_get xs i ≡ Some x → drop i xs ≡ x ∷ drop (i + 1) xs
drop_at_read [] i x h = cc
drop_at_read (y ∷ ys) zero x h = cc
drop_at_read (y ∷ ys) (suc i) x h =
    let next : suc i + 1 ≡ suc (i + 1) = omega arith in
    rw next (drop_at_read ys i x h)

pub take_at_read : {A : Type 0} (xs : List A) (i : ℕ) (x : A) → slice_get xs i ≡ Some x → take (i + 1) xs ≡ take i xs ++ x ∷ []
take_at_read [] i x h = cc
take_at_read (y ∷ ys) zero x h = cc
take_at_read (y ∷ ys) (suc i) x h =
    let next : suc i + 1 ≡ suc (i + 1) = omega arith in
    rw next (ap (λ zs. y ∷ zs) (take_at_read ys i x h))

pub select-nil : (chosen : List Bool) → select chosen [] ≡ []
select-nil [] = refl
select-nil (b ∷ chosen) = refl

-- what is selected from a row on
pub select_at_read : (chosen : List Bool) (xs : List Slot) (i : ℕ) (b : Bool) (x : Slot) → slice_get chosen i ≡ Some b → slice_get xs i ≡ Some x → select (drop i chosen) (drop i xs) ≡ (if b then x ∷ select (drop (i + 1) chosen) (drop (i + 1) xs) else select (drop (i + 1) chosen) (drop (i + 1) xs))
select_at_read chosen xs i b x read_b read_x = rw (drop_at_read chosen i b read_b, drop_at_read xs i x read_x)

pub length-mask : (validity : List Bool) (xs : List Slot) → length validity ≡ length xs → length (mask validity xs) ≡ length xs
length-mask [] [] h = refl
length-mask [] (x ∷ xs) h = absurd (omega (arith, h))
length-mask (valid ∷ validity) [] h = refl
length-mask (valid ∷ validity) (x ∷ xs) h = ap suc (length-mask validity xs (omega (arith, h)))

-- a row under a validity
pub slice_get-mask : (validity : List Bool) (xs : List Slot) (i : ℕ) (valid : Bool) (x : Slot) → slice_get validity i ≡ Some valid → slice_get xs i ≡ Some x → slice_get (mask validity xs) i ≡ Some (if valid then x else Null)
slice_get-mask (v ∷ validity) (y ∷ ys) (suc i) valid x h read = slice_get-mask validity ys i valid x h read
slice_get-mask validity xs i valid x h read = cc
