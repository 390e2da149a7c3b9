use Rattle.arrow_growable.proofs.Common.{◌≡◌, map, take, layout_of, keyed_layout}
use Rattle.arrow_growable.proofs.growable.dictionary.bind.Given as goal

-- the arrays so far are bound
abbrev pub invariant-loop-array : goal.invariant-loop-array
invariant-loop-array l =
    map (λ r. keyed_layout r.now) l.bound.items ≡ take l.array-index (map (λ a. layout_of a.now) l.arrays)
