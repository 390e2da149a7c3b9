-- A list, a large list or a map as contracts see it ("Variable-size List Layout").
use Rattle.std.specs.Prelude.{◌≡◌, ℕ, ◌+◌, ◌-◌, ◌≤◌, Bool, Option, List, length, refl}
use Rattle.std.specs.Coded.{Coded, code_by, coded×, coded_ℕ, coded_list, coded_bool, coded_option}
use Rattle.arrow_types.specs.declared.error.Error.{Error}
use Rattle.arrow_types.specs.declared.datatypes.physical_type.PhysicalType.{PhysicalType}
use Rattle.arrow_types.specs.ArrowType.{ArrowType}
use Rattle.arrow_types.specs.Slot.{Slot}
use Rattle.arrow_types.specs.StoredType.{type_code}
use Rattle.arrow_memory.specs.Offsets.{IsOffsets, last_of}
use Rattle.arrow_memory.specs.Sliced.{sliced}
use Rattle.arrow_flat.specs.Faults.{IsCarriedAs}
use Rattle.arrow_flat.specs.Parts.{FitsRows}
use Rattle.arrow_arrays.specs.Faults.{NamesFirstNested}
use Rattle.arrow_arrays.specs.Layout.{Layout, listed, rows, type_of_layout}
use Rattle.arrow_arrays.specs.SliceOf.{validity_of_slice}
use Rattle.arrow_arrays.specs.StoredLayout.{layout_code}
use Rattle.arrow_arrays.specs.TypeParts.{item_type}

-- the type, the validity, if there is one, the offsets, and the child that holds the items
pub record ListParts : Type 0 where
  pub arrow_type : ArrowType
  pub validity : Option (List Bool)
  pub offsets : List ℕ
  pub child : Layout

-- the code that the logic asks for
abbrev pub list_parts_code : Coded ListParts
list_parts_code =
    code_by (ArrowType × (Option (List Bool) × (List ℕ × Layout))) (coded× type_code (coded× (coded_option (coded_list coded_bool)) (coded× (coded_list coded_ℕ) layout_code))) (λ p. (p.arrow_type, (p.validity, (p.offsets, p.child)))) (λ t. record { arrow_type = t.0; validity = t.1.0; offsets = t.1.1.0; child = t.1.1.1 }) (λ _. refl)

abbrev pub list_layout : ListParts → Layout
list_layout p = listed p.arrow_type p.validity p.offsets p.child

-- the rows
abbrev pub list_rows : ListParts → List Slot
list_rows p = rows (list_layout p)

-- what an array means: its type and its rows
abbrev pub list_meaning : ListParts → ArrowType × List Slot
list_meaning p = (p.arrow_type, list_rows p)

-- the parts of a slice: the offsets of its rows, and the whole child
abbrev pub list_slice : ListParts → ℕ → ℕ → ListParts
list_slice p offset len =
    record { arrow_type = p.arrow_type; validity = validity_of_slice p.validity offset len; offsets = sliced p.offsets offset (len + 1); child = p.child }

-- the same parts under another validity
abbrev pub list_with_bits : ListParts → Option (List Bool) → ListParts
list_with_bits p validity = record { arrow_type = p.arrow_type; validity = validity; offsets = p.offsets; child = p.child }

-- the parts of an array: a carried type that lies so, a child of the type of its items, offsets that lie inside the child, and a validity with a bit for each row
pub record IsList (physical_type : PhysicalType) (p : ListParts) : Type 0 where
  pub kind : IsCarriedAs physical_type p.arrow_type
  pub child : type_of_layout p.child ≡ item_type p.arrow_type
  pub fits : FitsRows p.validity (length p.offsets - 1)
  pub offsets : IsOffsets p.offsets
  pub within : last_of p.offsets ≤ length (rows p.child)

-- what a test of the parts finds to hold, by the length, and by where the last row ends
abbrev pub HoldsList : PhysicalType → ArrowType → ℕ → ℕ → Layout → Option (List Bool) → Type 0
HoldsList physical_type t len end child validity =
    IsCarriedAs physical_type t × (type_of_layout child ≡ item_type t) × FitsRows validity len × (end ≤ length (rows child))

-- the error names the first part that does not hold
abbrev pub IsListFaultBy : PhysicalType → ArrowType → ℕ → ℕ → Layout → Option (List Bool) → Error → Type 0
IsListFaultBy physical_type t len end child validity =
    NamesFirstNested (IsCarriedAs physical_type t) (type_of_layout child ≡ item_type t) (FitsRows validity len) (end ≤ length (rows child)) (Unit {0}) (Unit {0})

abbrev pub IsListFault : PhysicalType → ListParts → Error → Type 0
IsListFault physical_type p = IsListFaultBy physical_type p.arrow_type (length p.offsets - 1) (last_of p.offsets) p.child p.validity
