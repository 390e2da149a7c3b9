use Rattle.arrow_choice.proofs.Common.{◌*◌, option_copied, AppendsRows, row_chosen, rows_from, pieces}
use Rattle.arrow_choice.proofs.if_then_else.bytes.append_rows.Given as goal

-- the rows so far come behind those of before
abbrev pub invariant-loop-k : goal.invariant-loop-k
invariant-loop-k g l = record {
  rows : AppendsRows (rows_from (row_chosen (option_copied l.fn.validity) l.fn.bits (pieces l.fn.left.0.now l.fn.left.1.now) (pieces l.fn.right.0.now l.fn.right.1.now)) (64 * l.fn.j) l.k) l.initial.offsets l.initial.bytes.items l.offsets l.bytes.items;
}
