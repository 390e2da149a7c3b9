-- Lists under construction: the offsets, the child that grows under them, and the rows ("Variable-size List Layout").
use Rattle.std.specs.Prelude.{ℕ, ◌≡◌, ◌+◌, ◌≤◌, Bool, true, false, List, length, map}
use Rattle.arrow_types.specs.declared.datatypes.physical_type.PhysicalType.{PhysicalType}
use Rattle.arrow_types.specs.declared.datatypes.physical_type.PhysicalType.TheVariants as physical
use Rattle.arrow_types.specs.ArrowType.{ArrowType}
use Rattle.arrow_types.specs.Fits.{Fits, all_items}
use Rattle.arrow_types.specs.Greatest.{greatest_offset}
use Rattle.arrow_types.specs.Rows.{joined, mask}
use Rattle.arrow_types.specs.Slot.{Slot}
use Rattle.arrow_flat.specs.Pieces.{pieces}
use Rattle.arrow_arrays.specs.Layout.{items_row, list_items}
use Rattle.arrow_flat_growable.specs.Grown.{Grown}
use Rattle.arrow_flat_growable.specs.GrownRows.{AreGrown, total}
use Rattle.arrow_growable.specs.Child.{IsWell}

-- the rows: a list each, null where its bit is not set
abbrev pub lists_rows : List Bool → List ℕ → List Slot → List Slot
lists_rows bits os items = mask bits (list_items os items)

-- the physical types of lists and maps
abbrev pub IsListType : PhysicalType → Type 0
IsListType physical.List = Unit {0}
IsListType physical.LargeList = Unit {0}
IsListType physical.Map = Unit {0}
IsListType _ = ⊥

-- the greatest offset that they can have
abbrev pub greatest_in : PhysicalType → ℕ
greatest_in physical.LargeList = greatest_offset true
greatest_in _ = greatest_offset false

-- a row may have any items
abbrev pub AnyItems : List Slot → Type 0
AnyItems items = Unit {0}

-- no item lies beneath a null
abbrev pub SparesItems : List Bool → List (List Slot) → Type 0
SparesItems bits lists = all_items (mask bits (map items_row lists)) ≡ joined lists

-- lists that fit: their items with the greatest offset, and in the child
pub record FitsLists (greatest : ℕ) (t : ArrowType) (lists : List (List Slot)) : Type 0 where
  pub few : total lists ≤ greatest
  pub items : Fits t (joined lists)

-- the offsets, bits and child of a growable that has not failed: as many bits and rows as it counts, which have all rows of the child, and none beneath nulls
pub record HoldsLists (os : List ℕ) (inner : Grown) (bits : List Bool) (len : ℕ) : Type 0 where
  pub counted : length bits ≡ len
  pub covered : len + 1 ≡ length os
  pub grown : AreGrown AnyItems os inner.rows
  pub child : IsWell inner
  pub spares : SparesItems bits (pieces os inner.rows)
