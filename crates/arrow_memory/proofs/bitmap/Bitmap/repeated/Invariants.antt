use Rattle.arrow_memory.proofs.Common.{◌-◌, ◌≡◌, ◌+◌, ◌*◌, ◌++◌, length, replicate, flat_map, sliced}
use Rattle.arrow_memory.proofs.bitmap.Bitmap.repeated.Given as goal

-- those that are left, repeated, come behind those that are there
abbrev pub invariant-loop-done : goal.invariant-loop-done
invariant-loop-done l =
    (l.done + length l.left ≡ l.len) × (length l.bits ≡ l.done * l.times) × (l.bits ++ flat_map (replicate l.times) l.left ≡ flat_map (replicate l.times) (sliced l.self l.start l.len))

abbrev pub decreases-loop-done : goal.decreases-loop-done
decreases-loop-done l = l.len - l.done
