use Rattle.arrow_flat_growable.proofs.Common.{◌-◌, ◌≤◌, AreEmptyNulls}
use Rattle.arrow_flat_growable.proofs.growable.empty_nulls.are_nulls_empty.Given as goal

abbrev pub invariant-loop-next : goal.invariant-loop-next
invariant-loop-next g l = (l.start ≤ l.next) × (l.next ≤ l.end) × AreEmptyNulls l.validity l.rows l.start l.next

abbrev pub decreases-loop-next : goal.decreases-loop-next
decreases-loop-next g l = l.end - l.next
