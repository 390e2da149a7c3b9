-- Why kernels refuse.
use Rattle.std.specs.Prelude.{◌≡◌, ◌⊎◌, ◌<◌, ◌^◌, ◌-◌, ℕ, ℤ, negsuc, unsigned_abs}
use Rattle.arrow_types.specs.declared.error.Error.{Error}
use Rattle.arrow_types.specs.declared.error.Error.TheVariants.{InvalidArgumentError}
use Rattle.arrow_types.specs.declared.error.ArgumentFault.TheVariants.{ConcatenateEmpty, ConcatenateTypes, ShiftOffset}
use Rattle.arrow_memory.specs.Grown.{IsGrowthError}

-- an error that `concatenate` may answer
abbrev pub IsConcatenateRefusal : Error → Type 0
IsConcatenateRefusal (InvalidArgumentError ConcatenateEmpty) = Unit {0}
IsConcatenateRefusal (InvalidArgumentError ConcatenateTypes) = Unit {0}
IsConcatenateRefusal e = IsGrowthError e

-- an error that `shift` may answer
abbrev pub IsShiftRefusal : Error → Type 0
IsShiftRefusal (InvalidArgumentError ShiftOffset) = Unit {0}
IsShiftRefusal e = IsGrowthError e

-- an offset that passes so many rows, either way, or is the least of 64 bits
abbrev pub PassesLength : ℤ → ℕ → Type 0
PassesLength offset n = (n < unsigned_abs offset) ⊎ (offset ≡ negsuc (2 ^ 63 - 1))
