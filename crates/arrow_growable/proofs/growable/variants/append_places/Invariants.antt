use Rattle.arrow_growable.proofs.Common.{◌≡◌, ◌++◌, pos, map, range_with_len}
use Rattle.arrow_growable.proofs.growable.variants.append_places.Given as goal

-- the offsets so far are appended
abbrev pub invariant-loop-i : goal.invariant-loop-i
invariant-loop-i l = l.offsets.items ≡ l.initial.offsets.items ++ map pos (range_with_len l.place l.i)
