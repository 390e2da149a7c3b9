-- Prepared filters that are stored.
use Rattle.std.specs.Prelude.{ℕ, Bool, List, [], flat_map, slice_index_or}
use Rattle.gevaindy.specs.AnyArrays.AnyArray.{AnyArray}
use Rattle.gevaindy.specs.Any.{any_array_rows}
use Rattle.gevaindy.specs.Rows.{select}
use Rattle.gevaindy.specs.Slot.{Slot}

-- the rows of all parts, one behind the other
abbrev pub rows_of_parts : List AnyArray → List Slot
rows_of_parts = flat_map any_array_rows

-- the mask of the filter with a number
abbrev pub mask_in : List (List Bool) → ℕ → List Bool
mask_in masks number = slice_index_or masks number []

-- the rows that it keeps
abbrev pub kept_in : List (List Bool) → ℕ → AnyArray → List Slot
kept_in masks number column = select (mask_in masks number) (any_array_rows column)
