use Rattle.arrow_memory.proofs.Common.{◌≡◌, ◌-◌, ◌≤◌, sliced}
use Rattle.arrow_memory.proofs.bitmap.Bitmap.equal_range.Given as goal

-- the bits so far are the same
abbrev pub invariant-loop-place : goal.invariant-loop-place
invariant-loop-place l =
    (l.place ≤ l.len) × (sliced l.self l.start l.place ≡ sliced l.other l.other_start l.place)

abbrev pub decreases-loop-place : goal.decreases-loop-place
decreases-loop-place l = l.len - l.place
