use Rattle.std.proofs.Common.{◌≡◌, map, take}
use Rattle.arrow_arrays.specs.Any.{layout_of}
use Rattle.arrow_flat_growable.specs.Flat.{flat_layout}
use Rattle.cases.proofs.select.growable.typed.run_flat.Given as goal

-- the arrays so far are bound
abbrev pub invariant-loop-array : goal.invariant-loop-array
invariant-loop-array g l =
    map (λ r. flat_layout g.G.GrowableValues.type_in g.G.GrowableValues.bits_in g.G.GrowableValues.stored_in r.now) l.bound.items ≡ take l.array-index (map (λ a. layout_of a.now) l.arrays)
