use Rattle.arrow_take.proofs.Common.{◌≤◌, length, take, All, any_array_rows}
use Rattle.arrow_take.proofs.take.dense.can_name.Given as goal

-- the children so far
abbrev pub invariant-loop-child : goal.invariant-loop-child
invariant-loop-child g l = All (λ a. length (any_array_rows a) ≤ g.I.Index.greatest) (take l.child-index l.child-items)
