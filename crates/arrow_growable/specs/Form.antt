-- How the rows of an array with children lie in these, and what a child holds of rows.
use Rattle.std.specs.Prelude.{ℕ, Bool, List, [], ◌∷◌, length, map, slice_index_or}
use Rattle.arrow_types.specs.ArrowType.{ArrowType, plain, list, struct, extension, field, null, type_in, from_fields}
use Rattle.arrow_types.specs.Fits.{child_rows, part_in}
use Rattle.arrow_types.specs.Rows.{mask}
use Rattle.arrow_types.specs.Slot.{Slot, Parts}
use Rattle.arrow_flat.specs.Pieces.{chunks}
use Rattle.arrow_arrays.specs.Layout.{across, items_row, list_items}

pub data Form : Type 0 where
  -- a row is the rows of the one child from an offset to the next ("Variable-size List Layout")
  by_offsets : List ℕ → Form
  -- a row is so many rows of the one child ("Fixed-Size List Layout")
  by_size : ℕ → Form
  -- a row is a row of each child ("Struct Layout")
  by_fields : Form

abbrev pub first_column : List (List Slot) → List Slot
first_column [] = []
first_column (c ∷ cs) = c

-- so many rows over the rows of the children, where none is null
abbrev pub items_by : Form → ℕ → List (List Slot) → List Slot
items_by (by_offsets os) n columns = list_items os (first_column columns)
items_by (by_size s) n columns = map items_row (chunks n s (first_column columns))
items_by by_fields n columns = map Parts (across n columns)

-- the rows, null where a bit is not set
abbrev pub nested_rows : Form → List Bool → List (List Slot) → List Slot
nested_rows form bits columns = mask bits (items_by form (length bits) columns)

-- how many null slots a null row has in each child
abbrev pub null_slots_by : Form → ℕ
null_slots_by (by_offsets os) = 0
null_slots_by (by_size s) = s
null_slots_by by_fields = 1

-- the types of the children
abbrev pub child_types : ArrowType → List ArrowType
child_types (list form f) = type_in f ∷ []
child_types (struct fs) = map type_in (from_fields fs)
child_types (extension name metadata t) = child_types t
child_types _ = []

abbrev pub child_type : ArrowType → ℕ → ArrowType
child_type t f = slice_index_or (child_types t) f (plain null)

-- what child f holds of rows, as they fit their type
abbrev pub column_in : ArrowType → ℕ → List Slot → List Slot
column_in (list form (field name t nullable)) f xs = child_rows form t xs
column_in (struct fs) f xs = map (part_in f (slice_index_or (map type_in (from_fields fs)) f (plain null))) xs
column_in (extension name metadata t) f xs = column_in t f xs
column_in _ f xs = []
