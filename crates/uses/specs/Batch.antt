-- Rows of the columns of a batch: by a condition on one, and by their places.
use Rattle.std.specs.Prelude.{◌≡◌, ℕ, ℤ, Bool, List, [], map, slice_index_or}
use Rattle.gevaindy.specs.ArrowType.{null, plain}
use Rattle.gevaindy.specs.Layout.{Layout, flat, rows, type_of_layout}
use Rattle.gevaindy.specs.Relation.{gt, related}
use Rattle.gevaindy.specs.Rows.{gather, select, selects}
use Rattle.gevaindy.specs.Slot.{Slot, Number}

-- the rows of a column, and none where there is no such column
abbrev pub column_rows : List Layout → ℕ → List Slot
column_rows batch column = rows (slice_index_or batch column (flat (plain null) []))

-- which rows are numbers above a bound
abbrev pub above : ℤ → List Slot → List Bool
above bound xs = map (λ x. selects (related gt x (Number bound))) xs

-- columns of the same types
abbrev pub HasTypesOf : List Layout → List Layout → Type 0
HasTypesOf kept batch = map type_of_layout kept ≡ map type_of_layout batch

-- the rows of each column at which a mask is true
abbrev pub rows_where : List Bool → List Layout → List (List Slot)
rows_where mask batch = map (λ column. select mask (rows column)) batch

-- the rows of each column that places name, in their order
abbrev pub rows_named : List Slot → List Layout → List (List Slot)
rows_named places batch = map (λ column. gather (rows column) places (type_of_layout column)) batch
