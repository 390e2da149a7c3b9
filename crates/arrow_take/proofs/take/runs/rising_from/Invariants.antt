use Rattle.arrow_take.proofs.Common.{◌≡◌, ◌+◌, ◌-◌, ◌<◌, ◌≤◌, Some, length, map, option_copied, masked, sliced, run_of}
use Rattle.arrow_take.proofs.take.runs.rising_from.Given as goal

-- those so far name the places from the first one on
abbrev pub invariant-loop-count : goal.invariant-loop-count
invariant-loop-count g l = record {
  some : 0 < l.count;
  within : l.row + l.count ≤ length l.stored;
  inside : l.start + l.count ≤ l.len;
  run : sliced (masked (option_copied l.validity) (map g.I.NativeType.slot l.stored)) l.row l.count ≡ run_of (Some l.start) l.count;
}

-- the indices that are left
abbrev pub decreases-loop-count : goal.decreases-loop-count
decreases-loop-count g l = length l.stored - (l.row + l.count)
