-- What a kernel of one array answers, as one fact.
use Rattle.std.specs.Prelude.{◌≡◌, List, Result, Err, IfOk, IfErr}
use Rattle.arrow_types.specs.declared.error.Error.{Error}
use Rattle.arrow_types.specs.declared.error.Error.TheVariants.{Overflow}
use Rattle.arrow_types.specs.ArrowType.{ArrowType}
use Rattle.arrow_types.specs.Fits.{Fits}
use Rattle.arrow_types.specs.Slot.{Slot}
use Rattle.arrow_memory.specs.Grown.{IsGrowthError}

-- a value that stands for an array of a type, with these rows, which fit it
pub record Gives {A : Type 0} (type_in : A → ArrowType) (rows_in : A → List Slot) (array : A) (t : ArrowType) (slots : List Slot) : Type 0 where
  pub array_type : type_in array ≡ t
  pub rows : rows_in array ≡ slots
  pub fits : Fits t slots

-- such an array, or Overflow, but only where the rows do not fit, or want of memory
pub record Answers {A : Type 0} (type_in : A → ArrowType) (rows_in : A → List Slot) (result : Result A Error) (t : ArrowType) (slots : List Slot) : Type 0 where
  pub ok : IfOk result (λ array. Gives type_in rows_in array t slots)
  pub overflow : result ≡ Err Overflow → Fits t slots → ⊥
  pub others : IfErr result IsGrowthError
