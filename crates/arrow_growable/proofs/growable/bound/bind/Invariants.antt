use Rattle.arrow_growable.proofs.Common.{◌≡◌, map, take, layout_of}
use Rattle.arrow_growable.proofs.growable.bound.bind.Given as goal

-- the arrays so far are bound
abbrev pub invariant-loop-array : goal.invariant-loop-array
invariant-loop-array g l =
    map (λ r. g.A.NestedArray.layout_in r.now) l.bound.items ≡ take l.array-index (map (λ a. layout_of a.now) l.arrays)
