-- Rows that a mask keeps, of which places name some.
use Rattle.std.specs.Prelude.{ℕ, Bool, List}
use Rattle.gevaindy.specs.AnyArrays.AnyArray.{AnyArray}
use Rattle.gevaindy.specs.Any.{any_array_rows, any_array_type}
use Rattle.gevaindy.specs.Parts.{Parts}
use Rattle.gevaindy.specs.Rows.{gather, select}
use Rattle.gevaindy.specs.Slot.{Slot}
use Rattle.gevaindy.specs.Typed.{uint_rows}

-- the rows that places name among those that a mask keeps
abbrev pub picked_rows : List Bool → Parts (List ℕ) → AnyArray → List Slot
picked_rows mask places array = gather (select mask (any_array_rows array)) (uint_rows places) (any_array_type array)
