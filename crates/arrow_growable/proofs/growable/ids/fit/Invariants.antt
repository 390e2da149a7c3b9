use Rattle.arrow_growable.proofs.Common.{ℕ, ℤ, ◌<◌, slice_index_or, w8, FitsSigned}
use Rattle.arrow_growable.proofs.growable.ids.fit.Given as goal

abbrev pub invariant-loop-id : goal.invariant-loop-id
invariant-loop-id l = (k : ℕ) (d : ℤ) → k < l.id-index → FitsSigned w8 (slice_index_or l.types k d)
