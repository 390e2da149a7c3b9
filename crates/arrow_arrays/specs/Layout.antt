-- An array as contracts see it: its type, its parts and its children, without pointers, bit offsets or sharing ("Physical Memory Layout"). Its rows follow.
use Rattle.std.specs.Prelude.{ℕ, suc, ◌/◌, max, ℤ, Bool, Option, List, [], ◌∷◌, map, replicate, length, slice_index_or, if◌then◌else◌, Some, None}
use Rattle.std.specs.List.{range_with_len, zip}
use Rattle.std.specs.Ordering.{int_eq}
use Rattle.arrow_types.specs.ArrowType.{ArrowType, union, extension}
use Rattle.arrow_types.specs.Rows.{masked}
use Rattle.arrow_types.specs.Slot.{Slot, Slots, Null, Items, Parts, Dict, Variant, no_slots, more_slots, to_slots, id_at}
use Rattle.arrow_flat.specs.Pieces.{pieces, chunks}

mutual
  pub data Layout : Type 0 where
    -- an array without children, by its rows
    flat : ArrowType → List Slot → Layout
    -- a list, a large list or a map: validity, offsets and child ("Variable-size List Layout")
    listed : ArrowType → Option (List Bool) → List ℕ → Layout → Layout
    -- a fixed-size list: validity, size and child ("Fixed-Size List Layout")
    fixed : ArrowType → Option (List Bool) → ℕ → Layout → Layout
    -- a struct: validity and children ("Struct Layout")
    fielded : ArrowType → Option (List Bool) → Layouts → Layout
    -- a sparse union: type ids, the row of each child that row 0 lies in, and children ("Sparse Union")
    sparse : ArrowType → List ℤ → ℕ → Layouts → Layout
    -- a dense union: type ids, the row of the child that each row lies in, and children ("Dense Union")
    dense : ArrowType → List ℤ → List ℕ → Layouts → Layout
    -- a dictionary: keys, None where one is null, and values ("Dictionary-encoded Layout")
    keyed : ArrowType → List (Option ℕ) → Layout → Layout

  pub data Layouts : Type 0 where
    no_layouts : Layouts
    more_layouts : Layout → Layouts → Layouts

-- layouts of a list, and back
abbrev pub to_layouts : List Layout → Layouts
to_layouts [] = no_layouts
to_layouts (l ∷ ls) = more_layouts l (to_layouts ls)

abbrev pub from_layouts : Layouts → List Layout
from_layouts no_layouts = []
from_layouts (more_layouts l ls) = l ∷ from_layouts ls

abbrev pub type_of_layout : Layout → ArrowType
type_of_layout (flat t xs) = t
type_of_layout (listed t v offsets c) = t
type_of_layout (fixed t v s c) = t
type_of_layout (fielded t v cs) = t
type_of_layout (sparse t ids start cs) = t
type_of_layout (dense t ids child_rows cs) = t
type_of_layout (keyed t keys c) = t

-- the type ids that a union names its fields by, where they are given
abbrev pub field_ids : ArrowType → Option (List ℤ)
field_ids (union mode ids fs) = ids
field_ids (extension name metadata t) = field_ids t
field_ids _ = None

-- a row of a list, by the rows inside it
abbrev pub items_row : List Slot → Slot
items_row xs = Items (to_slots xs)

-- the rows of a list, where none is null: row i from offset i to offset i + 1
abbrev pub list_items : List ℕ → List Slot → List Slot
list_items offsets xs = map items_row (pieces offsets xs)

-- the rows of a fixed-size list, where none is null: s rows of the child each
abbrev pub fixed_items : ℕ → List Slot → List Slot
fixed_items s xs = map items_row (chunks (length xs / s) s xs)

-- how many rows the first column has
abbrev pub column_length : List (List Slot) → ℕ
column_length [] = 0
column_length (c ∷ cs) = length c

-- a column in front of the others
abbrev pub stacked : List Slot → List Slots → List Slots
stacked (x ∷ xs) (r ∷ rs) = more_slots x r ∷ stacked xs rs
stacked _ _ = []

-- the columns of n rows, read across
abbrev pub across : ℕ → List (List Slot) → List Slots
across n [] = replicate n no_slots
across n (c ∷ cs) = stacked c (across n cs)

-- the rows of a struct, where none is null: row i of each column
abbrev pub struct_items : List (List Slot) → List Slot
struct_items columns = map Parts (across (column_length columns) columns)

-- the column of the field that has an id, from field f on
abbrev pub column_of_id : Option (List ℤ) → ℕ → ℤ → List (List Slot) → List Slot
column_of_id ids f id [] = []
column_of_id ids f id (c ∷ cs) = if int_eq (id_at ids f) id then c else column_of_id ids (suc f) id cs

-- the row of a union that has an id and is a row of that id's field
abbrev pub variant_at : Option (List ℤ) → List (List Slot) → ℤ → ℕ → Slot
variant_at ids columns id child_row = Variant id (slice_index_or (column_of_id ids 0 id columns) child_row Null)

-- the rows of a union: the id of each, and the row of its child that it is
abbrev pub union_items : Option (List ℤ) → List (List Slot) → List ℤ → List ℕ → List Slot
union_items ids columns types child_rows = map (λ row. variant_at ids columns row.0 row.1) (zip types child_rows)

-- a row of a dictionary: the value that its key names
abbrev pub keyed_item : List Slot → Option ℕ → Slot
keyed_item xs None = Null
keyed_item xs (Some k) = Dict (slice_index_or xs k Null)

abbrev mutual
  pub rows : Layout → List Slot
  rows (flat t xs) = xs
  rows (listed t v offsets c) = masked v (list_items offsets (rows c))
  rows (fixed t v s c) = masked v (fixed_items s (rows c))
  rows (fielded t v cs) = masked v (struct_items (columns_of cs))
  rows (sparse t ids start cs) = union_items (field_ids t) (columns_of cs) ids (range_with_len start (length ids))
  rows (dense t ids child_rows cs) = union_items (field_ids t) (columns_of cs) ids child_rows
  rows (keyed t keys c) = map (keyed_item (rows c)) keys

  -- the rows of each
  pub columns_of : Layouts → List (List Slot)
  columns_of no_layouts = []
  columns_of (more_layouts l ls) = rows l ∷ columns_of ls

-- how deep arrays nest: the measure of every recursion over them
abbrev mutual
  pub depth : Layout → ℕ
  depth (flat t xs) = 0
  depth (listed t v offsets c) = suc (depth c)
  depth (fixed t v s c) = suc (depth c)
  depth (fielded t v cs) = suc (depth_of_all cs)
  depth (sparse t ids start cs) = suc (depth_of_all cs)
  depth (dense t ids child_rows cs) = suc (depth_of_all cs)
  depth (keyed t keys c) = suc (depth c)

  pub depth_of_all : Layouts → ℕ
  depth_of_all no_layouts = 0
  depth_of_all (more_layouts l ls) = max (depth l) (depth_of_all ls)
