-- What kernels read of the arrays that they are given.
use Rattle.std.specs.Prelude.{◌≢◌, List, map, Contains}
use Rattle.std.specs.Borrow.{Bor}
use Rattle.arrow_types.specs.ArrowType.{ArrowType}
use Rattle.arrow_types.specs.Slot.{Slot}
use Rattle.arrow_arrays.specs.Any.{any_array_type, any_array_rows}
use Rattle.arrow_arrays.specs.declared.array.any.AnyArray.{AnyArray}

-- the types and the rows of borrowed arrays
abbrev pub types_in : List (Bor AnyArray) → List ArrowType
types_in = map (λ array. any_array_type array.now)

abbrev pub rows_in : List (Bor AnyArray) → List (List Slot)
rows_in = map (λ array. any_array_rows array.now)

-- some type is not this one
abbrev pub HasOther : ArrowType → List ArrowType → Type 0
HasOther t ts = (other : ArrowType) × Contains ts other × (other ≢ t)

-- two of the types differ
abbrev pub HasTwo : List ArrowType → Type 0
HasTwo ts = (t : ArrowType) × Contains ts t × HasOther t ts
