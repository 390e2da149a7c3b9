-- Rows of a part under a mask and under their validity, as one.
use Rattle.arrow_flat_growable.proofs.Common.{arith, ◌≡◌, ◌+◌, ◌≤◌, ◌∙◌, ℕ, Bool, List, Option, length, ap, mask, masked, Slot, sliced, FitsRows, length-masked}
use Rattle.arrow_flat_growable.proofs.MaskLemmas.{part_in_both, part_under}

module _ (v : Option (List Bool)) (stored : List Slot) (start : ℕ) (own both : List Bool) (is : both ≡ part_in_both v start own) (fits : FitsRows v (length stored)) (within : start + length own ≤ length (masked v stored)) where
  inside : start + length own ≤ length stored
  inside = omega (arith, within, length-masked v stored fits)

  pub as_many : length both ≡ length own
  as_many = ap length is ∙ (part_under v stored start own fits inside).0

  pub stored_within : start + length both ≤ length stored
  stored_within = omega (arith, inside, as_many)

  pub same_rows : mask both (sliced stored start (length both)) ≡ mask own (sliced (masked v stored) start (length own))
  same_rows = (λ i. mask (is i) (sliced stored start (as_many i))) ∙ (part_under v stored start own fits inside).1
