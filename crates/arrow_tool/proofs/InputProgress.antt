-- How far a run has read.
use Rattle.std.proofs.Common.{ℕ, ◌+◌, ◌≤◌, List, length, Option, Some, None}

-- so many reads have each taken a byte or more of the input
abbrev pub ReadsOn : Option (List ℕ) → Option (List ℕ) → ℕ → Type 0
ReadsOn None left reads = Unit {0}
ReadsOn (Some input) None reads = ⊥
ReadsOn (Some input) (Some left) reads = reads + length left ≤ length input
