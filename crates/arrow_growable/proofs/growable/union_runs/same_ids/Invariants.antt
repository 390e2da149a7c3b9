use Rattle.arrow_growable.proofs.Common.{◌≡◌, ◌+◌, ◌-◌, ◌≤◌, pos, get_or, replicate, sliced}
use Rattle.arrow_growable.proofs.growable.union_runs.same_ids.Given as goal

-- the ids so far are the same
abbrev pub invariant-loop-count : goal.invariant-loop-count
invariant-loop-count l =
    (1 ≤ l.count) × (l.start + l.count ≤ l.end) × (sliced l.ids l.start l.count ≡ replicate l.count (get_or l.ids l.start (pos 0)))

abbrev pub decreases-loop-count : goal.decreases-loop-count
decreases-loop-count l = l.end - l.start - l.count
