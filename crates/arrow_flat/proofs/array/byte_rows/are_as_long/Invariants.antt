use Rattle.std.proofs.Common.{◌≡◌}
use Rattle.arrow_memory.specs.Sliced.{sliced}
use Rattle.arrow_flat.specs.Pieces.{lengths}
use Rattle.arrow_flat.proofs.array.byte_rows.are_as_long.Given as goal

-- the rows so far are as long
abbrev pub invariant-loop-i : goal.invariant-loop-i
invariant-loop-i g l = sliced (lengths l.offsets) l.start l.i ≡ sliced (lengths l.others) l.other_start l.i
