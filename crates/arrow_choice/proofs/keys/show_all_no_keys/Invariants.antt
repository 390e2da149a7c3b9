use Rattle.arrow_choice.proofs.Common.{All, take, any_array_type, layout_of, HasNoDictionary, HasNoKeys}
use Rattle.arrow_choice.proofs.keys.show_all_no_keys.Given as goal

-- the arrays so far hold none, if their types do
abbrev pub invariant-loop-array : goal.invariant-loop-array
invariant-loop-array l =
    All (λ array. HasNoDictionary (any_array_type array.now) → HasNoKeys (layout_of array.now)) (take l.array-index l.arrays)
