use Rattle.arrow_flat_growable.proofs.Common.{◌≡◌, map, take}
use Rattle.arrow_flat_growable.proofs.growable.primitive.values_of.Given as goal

-- the values of the arrays so far
abbrev pub invariant-loop-array : goal.invariant-loop-array
invariant-loop-array g l =
    l.sources.items ≡ map (λ r. r.now.values) (take l.array-index l.arrays)
