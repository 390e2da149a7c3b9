use Rattle.arrow_select.proofs.Common.{◌≡◌, take, FitsItself, grown_of, with_ranges}
use Rattle.arrow_select.proofs.filter.any.extend_ranges.Given as goal

-- the rows of the ranges so far are behind those from before
abbrev pub invariant-loop-start : goal.invariant-loop-start
invariant-loop-start l = record {
  now : grown_of l.growable ≡ with_ranges (grown_of l.fn.growable) l.index (take l.start-index l.start-items);
  fits : FitsItself (grown_of l.fn.growable) → FitsItself (grown_of l.growable);
}
