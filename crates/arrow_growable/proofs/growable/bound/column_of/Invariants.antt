use Rattle.arrow_growable.proofs.Common.{◌≡◌, All, map, take, layout_of, type_of_layout, first_type, child_type, nth_child}
use Rattle.arrow_growable.proofs.growable.bound.column_of.Given as goal

-- the children so far, each of the type that the data type says
abbrev pub invariant-loop-array : goal.invariant-loop-array
invariant-loop-array g l =
    (map (λ c. layout_of c.now) l.column.items ≡ take l.array-index (map (λ r. nth_child l.f (g.A.NestedArray.layout_in r.now)) l.arrays)) × All (λ r. type_of_layout (nth_child l.f (g.A.NestedArray.layout_in r.now)) ≡ child_type (first_type (map (λ a. g.A.NestedArray.layout_in a.now) l.arrays)) l.f) (take l.array-index l.arrays)
