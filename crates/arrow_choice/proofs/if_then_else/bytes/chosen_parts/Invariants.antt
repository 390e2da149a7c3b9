use Rattle.arrow_choice.proofs.Common.{length, option_copied, row_chosen, pieces}
use Rattle.arrow_choice.proofs.ChosenRuns.{WordsUpTo}
use Rattle.arrow_choice.proofs.if_then_else.bytes.chosen_parts.Given as goal

-- where the rows so far end, and their bytes
abbrev pub invariant-loop-j : goal.invariant-loop-j
invariant-loop-j g l =
    WordsUpTo (row_chosen (option_copied l.fn.validity) l.fn.bits (pieces l.fn.left.0.now l.fn.left.1.now) (pieces l.fn.right.0.now l.fn.right.1.now)) (length l.fn.bits) l.j l.offsets l.bytes.items
