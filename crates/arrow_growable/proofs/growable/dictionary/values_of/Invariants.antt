use Rattle.arrow_growable.proofs.Common.{◌≡◌, All, map, take, values_in, layout_of, type_of_layout}
use Rattle.arrow_growable.proofs.growable.dictionary.values_of.Given as goal

-- the values so far, each of the type that the data type says
abbrev pub invariant-loop-array : goal.invariant-loop-array
invariant-loop-array l =
    (map (λ a. layout_of a.now) l.values.items ≡ take l.array-index (map (λ r. r.now.child) l.arrays)) × All (λ r. type_of_layout r.now.child ≡ values_in r.now.arrow_type) (take l.array-index l.arrays)
