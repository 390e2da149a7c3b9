use Rattle.arrow_flat_growable.proofs.Common.{◌≡◌, map, take}
use Rattle.arrow_flat_growable.proofs.growable.byte_rows.bytes_of.Given as goal

-- the bytes of the arrays so far
abbrev pub invariant-loop-array : goal.invariant-loop-array
invariant-loop-array g l =
    l.sources.items ≡ map (λ r. r.now.values.bytes) (take l.array-index l.arrays)
