use Rattle.arrow_flat_growable.proofs.Common.{◌≡◌, map, take}
use Rattle.arrow_flat_growable.proofs.growable.waiting.shared.Given as goal

-- the arrays so far
abbrev pub invariant-loop-array : goal.invariant-loop-array
invariant-loop-array g l = l.own.items ≡ map (λ r. r.now) (take l.array-index l.arrays)
