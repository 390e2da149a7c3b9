use Rattle.arrow_memory.proofs.Common.{◌-◌, ◌≤◌, is_set}
use Rattle.arrow_memory.proofs.RunLemmas.{AreEqual}
use Rattle.arrow_memory.proofs.bitmap.runs.run_end.Given as goal

-- the bits so far are equal to the one that is looked for
abbrev pub invariant-loop-place : goal.invariant-loop-place
invariant-loop-place l =
    (l.start ≤ l.place) × (l.place ≤ l.end) × AreEqual (is_set l.words) l.start l.place l.bit

abbrev pub decreases-loop-place : goal.decreases-loop-place
decreases-loop-place l = l.end - l.place
