use Rattle.arrow_growable.proofs.Common.{◌≡◌, ◌+◌, ◌-◌, length, sliced, NoneBeneath, span_place}
use Rattle.arrow_growable.proofs.growable.spans.Spans.have_none_beneath.Given as goal

-- where the rows that are left have nothing beneath nulls, no row has
abbrev pub invariant-loop-row : goal.invariant-loop-row
invariant-loop-row l =
    (l.row + length l.left ≡ l.end) × (NoneBeneath l.left (span_place l.self) l.row → NoneBeneath (sliced l.validity l.start l.len) (span_place l.self) l.start)

abbrev pub decreases-loop-row : goal.decreases-loop-row
decreases-loop-row l = l.end - l.row
