-- Errors of a growth.
use Rattle.arrow_types.specs.declared.error.Error.{Error}
use Rattle.arrow_types.specs.declared.error.Error.TheVariants.{Overflow, OutOfMemory}

-- an error that a growth may answer: what it is to hold does not fit, or memory was refused
abbrev pub IsGrowthError : Error → Type 0
IsGrowthError Overflow = Unit {0}
IsGrowthError OutOfMemory = Unit {0}
IsGrowthError _ = ⊥
