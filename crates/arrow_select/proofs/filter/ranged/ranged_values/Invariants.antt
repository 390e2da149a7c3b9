use Rattle.arrow_select.proofs.Common.{◌≡◌, take, sliced, flat_map}
use Rattle.arrow_select.proofs.filter.ranged.ranged_values.Given as goal

-- the values of the ranges so far
abbrev pub invariant-loop-start : goal.invariant-loop-start
invariant-loop-start g l = l.kept.items ≡ flat_map (λ r. sliced l.values r.0 r.1) (take l.start-index l.start-items)
