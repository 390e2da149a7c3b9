-- Rows of a dense union at its edge: which numbers of rows of one id fit.
use Rattle.arrow_select.proofs.Common.{arith, ◌≡◌, ◌<◌, ◌≤◌, ◌^◌, ℕ, zero, suc, pos, ◌∷◌, replicate, refl, ap, length-replicate, Fits, dense_part, Null, Variant, dense_nulls, dense_rows}

of_first : (n : ℕ) → dense_part (pos 0) (dense_rows n) ≡ replicate n Null
of_first zero = refl
of_first (suc n) = ap (λ rows. Null ∷ rows) (of_first n)

pub dense_fits : (n : ℕ) → n ≤ 2 ^ 31 → Fits dense_nulls (dense_rows n)
dense_fits n few =
    let rows = length-replicate n (Variant (pos 0) Null) in
    let nulls = length-replicate n Null in
    rw (of_first n) (omega arith, (omega arith, (omega arith, tt), tt))

pub dense_passes : (n : ℕ) → 2 ^ 31 < n → Fits dense_nulls (dense_rows n) → ⊥
dense_passes n many fits =
    let nulls = length-replicate n Null in
    let few = rw (of_first n) at fits.1.0 in
    omega arith
