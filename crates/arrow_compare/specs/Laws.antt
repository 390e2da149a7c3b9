-- What the laws are stated by.
use Rattle.std.specs.Prelude.{◌≡◌, List, length, map, replicate}
use Rattle.arrow_types.specs.Relation.{through}
use Rattle.arrow_types.specs.Slot.{Slot}
use Rattle.arrow_flat.specs.RowByRow.{row_by_row}

-- what a comparison makes of each row and a scalar, both read through dictionaries, it makes of the rows and those of an array that repeats the scalar
abbrev pub IsAsRepeated : (Slot → Slot → Slot) → List Slot → Slot → Type 0
IsAsRepeated compare rows scalar =
    map (λ s. compare (through s) (through scalar)) rows ≡ row_by_row compare rows (replicate (length rows) scalar)
