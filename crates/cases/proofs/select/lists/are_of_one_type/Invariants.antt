use Rattle.std.proofs.Common.{◌≡◌, map, take}
use Rattle.std.specs.List.{All}
use Rattle.arrow_arrays.specs.Any.{any_array_type, layout_of}
use Rattle.arrow_arrays.specs.Layout.{type_of_layout}
use Rattle.cases.proofs.select.lists.are_of_one_type.Given as goal

-- the arrays so far are of the first one's type
abbrev pub invariant-loop-array : goal.invariant-loop-array
invariant-loop-array l =
    All (λ k. type_of_layout k ≡ any_array_type l.first.now) (take l.array-index (map (λ a. layout_of a.now) l.arrays))
