-- A growable that is made over arrays.
use Rattle.std.specs.Prelude.{◌≡◌, List, Result, Err, length, IfErr, IfOk, IsOkUnless}
use Rattle.arrow_types.specs.declared.error.Error.{Error}
use Rattle.arrow_types.specs.declared.error.Error.TheVariants.{OutOfMemory, Overflow}
use Rattle.arrow_memory.specs.Grown.{IsGrowthError}
use Rattle.arrow_arrays.specs.Crowded.{Unjoined}
use Rattle.arrow_arrays.specs.Layout.{Layout}
use Rattle.arrow_flat_growable.specs.Grown.{Grown, bound_to}

-- a growable without rows over these arrays, and Overflow only where dictionaries in them can't be joined, never of one array
pub record Makes {A : Type 0} (grown : A → Grown) (layouts : List Layout) (result : Result A Error) : Type 0 where
  pub ok : IfOk result (λ growable. grown growable ≡ bound_to layouts)
  pub overflow : result ≡ Err Overflow → Unjoined layouts
  pub alone : length layouts ≡ 1 → IsOkUnless result OutOfMemory
  pub others : IfErr result IsGrowthError
