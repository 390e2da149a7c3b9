use Rattle.arrow_growable.proofs.Common.{map, take, joined, layouts_in, rows, grown_of, HasAppended}
use Rattle.arrow_growable.proofs.growable.join.append_all.Given as goal

-- the rows of the arrays so far are held
abbrev pub invariant-loop-index : goal.invariant-loop-index
invariant-loop-index l =
    HasAppended (layouts_in l.arrays) (grown_of l.growable) (joined (take l.index (map rows (layouts_in l.arrays))))
