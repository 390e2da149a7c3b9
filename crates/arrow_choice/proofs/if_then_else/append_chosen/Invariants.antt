use Rattle.arrow_choice.proofs.Common.{length, boolean_rows, layout_of}
use Rattle.arrow_choice.proofs.ChoiceLemmas.{ChosenUpTo}
use Rattle.arrow_choice.proofs.if_then_else.append_chosen.Given as goal

-- the rows so far are held, and those that the rest of the predicate chooses are all others
abbrev pub invariant-loop-truth : goal.invariant-loop-truth
invariant-loop-truth g l =
    ChosenUpTo (boolean_rows l.predicate) (layout_of l.lhs) (layout_of l.rhs) (g.G.Growable.state l.growable) l.runs

-- the rows of the predicate that are left
abbrev pub decreases-loop-truth : goal.decreases-loop-truth
decreases-loop-truth g l = length l.runs.1
