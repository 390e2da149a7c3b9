use Rattle.std.proofs.Common.{take}
use Rattle.std.specs.List.{All}
use Rattle.arrow_flat.specs.Pieces.{pieces}
use Rattle.arrow_flat.proofs.array.byte_rows.are_allowed.Given as goal

-- the rows so far are allowed
abbrev pub invariant-loop-i : goal.invariant-loop-i
invariant-loop-i g l = All g.K.ByteKind.Allows (take l.i (pieces l.offsets l.bytes))
