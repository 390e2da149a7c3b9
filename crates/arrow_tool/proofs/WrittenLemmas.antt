-- Arrays of types that a line can write.
use Rattle.std.proofs.Common.{arith, ◌≡◌, ◌↔◌, List, [], ◌∷◌, Bor, Result, Ok, Err, IfOk, All, refl, subst}
use Rattle.arrow_types.specs.declared.error.Error.{Error}
use Rattle.arrow_arrays.specs.Any.{any_array_type}
use Rattle.arrow_arrays.specs.declared.array.any.AnyArray.{AnyArray}
use Rattle.arrow_select.specs.Arrays.{types_in}
use Rattle.arrow_tool.specs.Written.{IsWritten}

-- an array of the type of them all
pub all_written : (arrays : List (Bor AnyArray)) (r : Result AnyArray Error) (e : Error) → All (λ array. IsWritten (any_array_type array.now)) arrays → (r ≡ Err e) ↔ (arrays ≡ []) → IfOk r (λ all. All (λ t. t ≡ any_array_type all) (types_in arrays)) → IfOk r (λ all. IsWritten (any_array_type all))
all_written arrays (Err f) e written none types = tt
all_written [] (Ok all) e written none types = absurd (let same = none.1 refl in cc)
all_written (array ∷ arrays) (Ok all) e written none types =
    subst IsWritten (types 0 (any_array_type all) (omega arith)) (written 0 array (omega arith))
