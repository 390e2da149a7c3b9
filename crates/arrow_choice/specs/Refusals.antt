-- Why a choice is refused.
use Rattle.arrow_types.specs.declared.error.Error.{Error}
use Rattle.arrow_types.specs.declared.error.Error.TheVariants.{InvalidArgumentError}
use Rattle.arrow_types.specs.declared.error.ArgumentFault.TheVariants.{IfThenElseLengths, IfThenElseTypes}
use Rattle.arrow_memory.specs.Grown.{IsGrowthError}

-- an error that `if_then_else` may answer
abbrev pub IsIfThenElseRefusal : Error → Type 0
IsIfThenElseRefusal (InvalidArgumentError IfThenElseTypes) = Unit {0}
IsIfThenElseRefusal (InvalidArgumentError IfThenElseLengths) = Unit {0}
IsIfThenElseRefusal e = IsGrowthError e
