use Rattle.arrow_select.proofs.Common.{◌≡◌, take, sliced, flat_map}
use Rattle.arrow_select.proofs.filter.ranged.ranged_bits.Given as goal

-- the bits of the ranges so far
abbrev pub invariant-loop-start : goal.invariant-loop-start
invariant-loop-start l = l.kept ≡ flat_map (λ r. sliced l.bits r.0 r.1) (take l.start-index l.start-items)
