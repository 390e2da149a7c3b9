use Rattle.arrow_flat_growable.proofs.Common.{◌≡◌, ◌+◌, ℕ, slice_index, bit_at}
use Rattle.arrow_flat_growable.proofs.growable.empty_nulls.are_empty.Given as goal

-- the bits that are left are among those of the word, and the rows of the others are empty
abbrev pub invariant-loop-left : goal.invariant-loop-left
invariant-loop-left g l =
    ((k : ℕ) → bit_at l.left k ≡ 1 → bit_at l.word k ≡ 1) × ((k : ℕ) → bit_at l.word k ≡ 1 → bit_at l.left k ≡ 0 → slice_index l.rows (l.start + k + 1) ≡ slice_index l.rows (l.start + k))

abbrev pub decreases-loop-left : goal.decreases-loop-left
decreases-loop-left g l = l.left
