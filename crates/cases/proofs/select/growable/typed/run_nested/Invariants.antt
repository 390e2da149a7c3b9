use Rattle.std.proofs.Common.{◌≡◌, map, take}
use Rattle.arrow_arrays.specs.Any.{layout_of}
use Rattle.cases.proofs.select.growable.typed.run_nested.Given as goal

-- the arrays so far are bound
abbrev pub invariant-loop-array : goal.invariant-loop-array
invariant-loop-array g l =
    map (λ r. g.A.NestedArray.layout_in r.now) l.bound.items ≡ take l.array-index (map (λ a. layout_of a.now) l.arrays)
