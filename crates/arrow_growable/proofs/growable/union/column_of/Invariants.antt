use Rattle.arrow_growable.proofs.Common.{◌≡◌, All, map, take, layout_of, child_at, type_of_layout, union_layout, first_type, variant_type}
use Rattle.arrow_growable.proofs.growable.union.column_of.Given as goal

-- the children of the arrays so far, each of the type that the data type says
abbrev pub invariant-loop-array : goal.invariant-loop-array
invariant-loop-array l =
    (map (λ a. layout_of a.now) l.column.items ≡ take l.array-index (map (λ r. child_at l.f (union_layout r.now)) l.arrays)) × All (λ r. type_of_layout (child_at l.f (union_layout r.now)) ≡ variant_type (first_type (map (λ a. union_layout a.now) l.arrays)) l.f) (take l.array-index l.arrays)
