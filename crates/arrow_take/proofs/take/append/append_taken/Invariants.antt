use Rattle.arrow_take.proofs.Common.{◌-◌, ◌≤◌, [], ◌∷◌, length, map, take, gather, rows_by, rows, type_of_layout, HasAppended, first_bound}
use Rattle.arrow_take.proofs.take.append.append_taken.Given as goal

-- the rows of the indices so far are held
abbrev pub invariant-loop-row : goal.invariant-loop-row
invariant-loop-row g l = record {
  within : l.row ≤ length l.stored;
  held : HasAppended (first_bound (g.G.Growable.state l.initial.growable) ∷ []) (g.G.Growable.state l.growable) (gather (rows (first_bound (g.G.Growable.state l.initial.growable))) (take l.row (rows_by (map g.I.NativeType.slot) l.fn.indices)) (type_of_layout (first_bound (g.G.Growable.state l.initial.growable))));
}

-- the indices that are left
abbrev pub decreases-loop-row : goal.decreases-loop-row
decreases-loop-row g l = length l.stored - l.row
