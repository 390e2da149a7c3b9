use Rattle.arrow_growable.proofs.Common.{◌≡◌, map, take, layout_of, flat_layout}
use Rattle.arrow_growable.proofs.growable.make.bound.Given as goal

-- the arrays so far are bound
abbrev pub invariant-loop-array : goal.invariant-loop-array
invariant-loop-array g l =
    map (λ r. flat_layout g.G.GrowableValues.type_in g.G.GrowableValues.bits_in g.G.GrowableValues.stored_in r.now) l.flat.items ≡ take l.array-index (map (λ a. layout_of a.now) l.arrays)
