-- Rows that are moved, by the sign of the offset.
use Rattle.arrow_select.proofs.Common.{arith, ◌≡◌, ◌-◌, ◌<ℤ◌, ℕ, suc, zero, ℤ, pos, negsuc, List, ◌++◌, length, replicate, take, drop, ap, sym, ◌∙◌, ints, append-nil, length-drop, take_all, ArrowType, shifted, Slot, null_slot, between, unsigned_abs}

back : (xs : List Slot) (k : ℤ) (t : ArrowType) → pos 0 <ℤ k → shifted xs k t ≡ between xs (unsigned_abs k) 0 t
back xs (pos k) t above =
    let kept : length xs - k - 0 ≡ length xs - k = omega arith in
    ap (λ n. replicate k (null_slot t) ++ take n xs) (sym kept) ∙ sym (append-nil (replicate k (null_slot t) ++ take (length xs - k - 0) xs))
back xs (negsuc k) t above = absurd (omega (arith, ints, above))

forth : (xs : List Slot) (k : ℤ) (t : ArrowType) → (pos 0 <ℤ k → ⊥) → shifted xs k t ≡ between xs 0 (unsigned_abs k) t
forth xs (pos zero) t above =
    let kept : length xs - 0 - 0 ≡ length xs - 0 = omega arith in
    ap (λ n. take n xs) (sym kept) ∙ sym (append-nil (take (length xs - 0 - 0) xs))
forth xs (pos (suc k)) t above = absurd (above (omega (arith, ints)))
forth xs (negsuc k) t above =
    let rest = take_all (length xs - 0 - suc k) (drop (suc k) xs) (omega (arith, length-drop (suc k) xs)) in
    ap (λ ys. ys ++ replicate (suc k) (null_slot t)) (sym rest)

module _ (xs : List Slot) (k : ℤ) (t : ArrowType) (front distance : ℕ) (moved : distance ≡ unsigned_abs k) where
  -- back: all null slots in front
  pub shifted_back : pos 0 <ℤ k → front ≡ distance → shifted xs k t ≡ between xs front (distance - front) t
  shifted_back above all =
      let none : 0 ≡ distance - front = omega (arith, all) in
      let many : unsigned_abs k ≡ front = sym (all ∙ moved) in
      back xs k t above ∙ (λ i. between xs (many i) (none i) t)

  -- forth, or nowhere: all behind
  pub shifted_forth : (pos 0 <ℤ k → ⊥) → front ≡ 0 → shifted xs k t ≡ between xs front (distance - front) t
  shifted_forth below none =
      let many : unsigned_abs k ≡ distance - front = omega (arith, none, moved) in
      let first : 0 ≡ front = sym none in
      forth xs k t below ∙ (λ i. between xs (first i) (many i) t)
