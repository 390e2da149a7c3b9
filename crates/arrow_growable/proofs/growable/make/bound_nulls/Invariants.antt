use Rattle.arrow_growable.proofs.Common.{◌≡◌, map, take, layout_of, null_layout}
use Rattle.arrow_growable.proofs.growable.make.bound_nulls.Given as goal

-- the arrays so far are bound
abbrev pub invariant-loop-array : goal.invariant-loop-array
invariant-loop-array l =
    map (λ r. null_layout r.now) l.nulls.items ≡ take l.array-index (map (λ a. layout_of a.now) l.arrays)
