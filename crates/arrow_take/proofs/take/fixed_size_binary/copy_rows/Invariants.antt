use Rattle.arrow_take.proofs.Common.{map, rows_by}
use Rattle.arrow_take.proofs.TakenRows.{RowsUpTo}
use Rattle.arrow_take.proofs.take.fixed_size_binary.copy_rows.Given as goal

-- the rows of the indices so far, and zeros for the others
abbrev pub invariant-loop-row : goal.invariant-loop-row
invariant-loop-row g l =
    RowsUpTo l.values.values.size l.values.values.bytes (rows_by (map g.I.NativeType.slot) l.indices) l.row l.taken
