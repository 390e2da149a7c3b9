use Rattle.arrow_choice.proofs.Common.{◌∷◌, [], length, pieces, any_array_rows, layout_of}
use Rattle.arrow_choice.proofs.ChosenItems.{ListsUpTo}
use Rattle.arrow_choice.proofs.if_then_else.list.append_lists.Given as goal

-- the rows up to the next one are there, and their items are held
abbrev pub invariant-loop-truth : goal.invariant-loop-truth
invariant-loop-truth g l =
    ListsUpTo (l.fn.predicate.validity) (l.fn.predicate.values) (pieces l.fn.left.0.now (any_array_rows l.fn.left.1.now)) (pieces l.fn.right.0.now (any_array_rows l.fn.right.1.now)) (layout_of l.fn.left.1.now ∷ layout_of l.fn.right.1.now ∷ []) (g.G.Growable.state l.items) l.offsets l.runs

-- the rows of the predicate that are left
abbrev pub decreases-loop-truth : goal.decreases-loop-truth
decreases-loop-truth g l = length l.runs.1
