use Rattle.arrow_select.proofs.Common.{◌≡◌, All, map, take, any_array_type}
use Rattle.arrow_select.proofs.concatenate.have_one_type.Given as goal

-- the arrays so far are of the first one's type
abbrev pub invariant-loop-array : goal.invariant-loop-array
invariant-loop-array l =
    All (λ t. t ≡ any_array_type l.first) (take l.array-index (map (λ array. any_array_type array.now) l.arrays))
