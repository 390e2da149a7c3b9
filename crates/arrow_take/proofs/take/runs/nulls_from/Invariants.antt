use Rattle.arrow_take.proofs.Common.{◌≡◌, ◌+◌, ◌-◌, ◌<◌, ◌≤◌, None, length, map, option_copied, masked, sliced, run_of}
use Rattle.arrow_take.proofs.take.runs.nulls_from.Given as goal

-- those so far are null
abbrev pub invariant-loop-count : goal.invariant-loop-count
invariant-loop-count g l = record {
  some : 0 < l.count;
  within : l.row + l.count ≤ length l.stored;
  run : sliced (masked (option_copied l.validity) (map g.I.NativeType.slot l.stored)) l.row l.count ≡ run_of None l.count;
}

-- the indices that are left
abbrev pub decreases-loop-count : goal.decreases-loop-count
decreases-loop-count g l = length l.stored - (l.row + l.count)
