use Rattle.arrow_select.proofs.Common.{◌≡◌, take, FitsItself, with_ranges}
use Rattle.arrow_select.proofs.filter.prepared.Filter.extend_into.Given as goal

-- the rows of the ranges so far are behind those from before
abbrev pub invariant-loop-start : goal.invariant-loop-start
invariant-loop-start g l = record {
  now : g.G.Growable.state l.growable ≡ with_ranges (g.G.Growable.state l.fn.growable) l.index (take l.start-index l.start-items);
  fits : FitsItself (g.G.Growable.state l.fn.growable) → FitsItself (g.G.Growable.state l.growable);
}
