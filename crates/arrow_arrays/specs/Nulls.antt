-- Rows that are all null, and the arrays that hold nothing else.
use Rattle.std.specs.Prelude.{◌≡◌, ℕ, List, [], ◌∷◌, map, replicate}
use Rattle.std.specs.List.{All}
use Rattle.arrow_types.specs.ArrowType.{ArrowType}
use Rattle.arrow_types.specs.Fits.{Fits}
use Rattle.arrow_types.specs.Slot.{Slot, null_slot}
use Rattle.arrow_arrays.specs.Any.{any_array_type, any_array_rows}
use Rattle.arrow_arrays.specs.declared.array.any.AnyArray.{AnyArray}

-- so many null slots of a type
abbrev pub nulls_of : ArrowType → ℕ → List Slot
nulls_of t n = replicate n (null_slot t)

-- so many of them fit
abbrev pub FitNulls : ℕ → ArrowType → Type 0
FitNulls n t = Fits t (nulls_of t n)

-- an array of this type and so many null slots
abbrev pub IsNulls : ArrowType → ℕ → AnyArray → Type 0
IsNulls t n array = (any_array_type array ≡ t) × (any_array_rows array ≡ nulls_of t n)

-- columns of null slots: so many in the first, and so many in each of the others
abbrev pub null_columns_of : ℕ → ℕ → List ArrowType → List (List Slot)
null_columns_of first others [] = []
null_columns_of first others (t ∷ ts) = nulls_of t first ∷ map (λ u. nulls_of u others) ts

-- so many in the first fit, and so many in each of the others
abbrev pub FitNullColumns : ℕ → ℕ → List ArrowType → Type 0
FitNullColumns first others [] = Unit {0}
FitNullColumns first others (t ∷ ts) = FitNulls first t × All (FitNulls others) ts
