use Rattle.arrow_choice.proofs.Common.{length, boolean_rows}
use Rattle.arrow_choice.proofs.RangeLemmas.{NamesUpTo}
use Rattle.arrow_choice.proofs.SideLemmas.{side_labels}
use Rattle.arrow_choice.proofs.if_then_else.if_then_else_ranges.Given as goal

-- the ranges so far name, with the rows that are left, all rows
abbrev pub invariant-loop-truth : goal.invariant-loop-truth
invariant-loop-truth l =
    NamesUpTo l.ranges.items l.runs.0 (side_labels l.runs.1) (side_labels (boolean_rows l.predicate))

abbrev pub decreases-loop-truth : goal.decreases-loop-truth
decreases-loop-truth l = length l.runs.1
