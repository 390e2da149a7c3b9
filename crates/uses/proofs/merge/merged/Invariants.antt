use Rattle.uses.proofs.Common.{int_rows, length, ◌+◌, ◌-◌, ◌≤◌}
use Rattle.uses.proofs.MergeLemmas.{HoldsMerged}
use Rattle.uses.proofs.merge.merged.Given as goal

-- the growable over both columns holds what is merged so far
abbrev pub invariant-loop-i : goal.invariant-loop-i
invariant-loop-i l = record {
  held : HoldsMerged l.left l.right l.i l.j l.growable;
  here : l.i ≤ length (int_rows l.left);
  there : l.j ≤ length (int_rows l.right);
}

abbrev pub decreases-loop-i : goal.decreases-loop-i
decreases-loop-i l = (length (int_rows l.left) - l.i) + (length (int_rows l.right) - l.j)
