use Rattle.std.proofs.Common.{◌≡◌, map, take}
use Rattle.arrow_arrays.specs.Any.{layout_of}
use Rattle.arrow_arrays.specs.UnionParts.{union_layout}
use Rattle.cases.proofs.select.growable.typed.bind_unions.Given as goal

-- the arrays so far are bound
abbrev pub invariant-loop-array : goal.invariant-loop-array
invariant-loop-array l = map (λ r. union_layout r.now) l.bound.items ≡ take l.array-index (map (λ a. layout_of a.now) l.arrays)
