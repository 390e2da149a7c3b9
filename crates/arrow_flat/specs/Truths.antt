-- What a kernel of booleans answers.
use Rattle.std.specs.Prelude.{◌≡◌, Bool, IfOk, IsOkUnless, List, Result}
use Rattle.arrow_types.specs.declared.error.Error.{Error}
use Rattle.arrow_types.specs.declared.error.Error.TheVariants.{OutOfMemory}
use Rattle.arrow_types.specs.ArrowType.{boolean, plain}
use Rattle.arrow_types.specs.Slot.{Slot}
use Rattle.arrow_flat.specs.Parts.{Parts, boolean_rows}

-- an array of type Boolean with these rows, or OutOfMemory
pub record AnswersTruths (result : Result (Parts (List Bool)) Error) (slots : List Slot) : Type 0 where
  pub array_type : IfOk result (λ array. array.arrow_type ≡ plain boolean)
  pub rows : IfOk result (λ array. boolean_rows array ≡ slots)
  pub err : IsOkUnless result OutOfMemory
