use Rattle.arrow_memory.proofs.Common.{◌-◌, ◌≤◌}
use Rattle.arrow_memory.proofs.RunLemmas.{AreAlike}
use Rattle.arrow_memory.proofs.bitmap.Bitmap.run_at.Given as goal

-- the bits so far are equal to the first one
abbrev pub invariant-loop-place : goal.invariant-loop-place
invariant-loop-place l =
    (l.start ≤ l.place) × (l.place ≤ l.end) × AreAlike l.self l.start l.place l.bit

abbrev pub decreases-loop-place : goal.decreases-loop-place
decreases-loop-place l = l.end - l.place
