use Rattle.arrow_growable.proofs.Common.{◌≡◌, ◌+◌, ◌-◌, ◌≤◌, pos, get_or, map, replicate, range_with_len, sliced, child_row_of}
use Rattle.arrow_growable.proofs.growable.union_runs.risen.Given as goal

-- the ids so far are the same, and each offset is the next number
abbrev pub invariant-loop-count : goal.invariant-loop-count
invariant-loop-count l =
    let first = child_row_of (get_or l.offsets l.start (pos 0)) in
    (1 ≤ l.count) × (l.start + l.count ≤ l.end) × (l.next ≡ first + l.count) × (sliced l.ids l.start l.count ≡ replicate l.count (get_or l.ids l.start (pos 0))) × (sliced (map child_row_of l.offsets) l.start l.count ≡ range_with_len first l.count)

abbrev pub decreases-loop-count : goal.decreases-loop-count
decreases-loop-count l = l.end - l.start - l.count
