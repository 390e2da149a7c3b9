-- A fixed-size list as contracts see it ("Fixed-Size List Layout").
use Rattle.std.specs.Prelude.{◌≡◌, ℕ, ◌*◌, ◌/◌, ◌%◌, ◌<◌, ◌^◌, Bool, Option, List, length, refl}
use Rattle.std.specs.Coded.{Coded, code_by, coded×, coded_ℕ, coded_list, coded_bool, coded_option}
use Rattle.arrow_types.specs.declared.error.Error.{Error}
use Rattle.arrow_types.specs.declared.datatypes.physical_type.PhysicalType.TheVariants as physical
use Rattle.arrow_types.specs.ArrowType.{ArrowType}
use Rattle.arrow_types.specs.Slot.{Slot}
use Rattle.arrow_types.specs.StoredType.{type_code}
use Rattle.arrow_flat.specs.Faults.{IsCarriedAs}
use Rattle.arrow_flat.specs.Parts.{FitsRows}
use Rattle.arrow_arrays.specs.Faults.{NamesFirstNested}
use Rattle.arrow_arrays.specs.Layout.{Layout, fixed, rows, type_of_layout}
use Rattle.arrow_arrays.specs.SliceOf.{validity_of_slice, slice_of}
use Rattle.arrow_arrays.specs.StoredLayout.{layout_code}
use Rattle.arrow_arrays.specs.TypeParts.{item_type, list_size}

-- the type, the validity, if there is one, how many items a row has, and the child that holds them
pub record FixedListParts : Type 0 where
  pub arrow_type : ArrowType
  pub validity : Option (List Bool)
  pub size : ℕ
  pub child : Layout

-- the code that the logic asks for
abbrev pub fixed_list_parts_code : Coded FixedListParts
fixed_list_parts_code =
    code_by (ArrowType × (Option (List Bool) × (ℕ × Layout))) (coded× type_code (coded× (coded_option (coded_list coded_bool)) (coded× coded_ℕ layout_code))) (λ p. (p.arrow_type, (p.validity, (p.size, p.child)))) (λ t. record { arrow_type = t.0; validity = t.1.0; size = t.1.1.0; child = t.1.1.1 }) (λ _. refl)

abbrev pub fixed_list_layout : FixedListParts → Layout
fixed_list_layout p = fixed p.arrow_type p.validity p.size p.child

-- the rows
abbrev pub fixed_list_rows : FixedListParts → List Slot
fixed_list_rows p = rows (fixed_list_layout p)

-- what an array means: its type and its rows
abbrev pub fixed_list_meaning : FixedListParts → ArrowType × List Slot
fixed_list_meaning p = (p.arrow_type, fixed_list_rows p)

-- the parts of a slice: the items of its rows
abbrev pub fixed_list_slice : FixedListParts → ℕ → ℕ → FixedListParts
fixed_list_slice p offset len =
    record { arrow_type = p.arrow_type; validity = validity_of_slice p.validity offset len; size = p.size; child = slice_of p.child (offset * p.size) (len * p.size) }

-- the same parts under another validity
abbrev pub fixed_list_with_bits : FixedListParts → Option (List Bool) → FixedListParts
fixed_list_with_bits p validity = record { arrow_type = p.arrow_type; validity = validity; size = p.size; child = p.child }

-- items are rows without rest, and the validity has a bit for each row
abbrev pub FitsItems : ℕ → ℕ → Option (List Bool) → Type 0
FitsItems size n validity = (n % size ≡ 0) × FitsRows validity (n / size)

-- the parts of an array: a carried type of this size, a child of the type of its items, whole rows, and items that can be counted
pub record IsFixedList (p : FixedListParts) : Type 0 where
  pub kind : IsCarriedAs physical.FixedSizeList p.arrow_type
  pub child : type_of_layout p.child ≡ item_type p.arrow_type
  pub size : p.size ≡ list_size p.arrow_type
  pub some : 0 < p.size
  pub fits : FitsItems p.size (length (rows p.child)) p.validity
  pub counted : length (rows p.child) < 2 ^ 64

-- what a test of the parts finds to hold
abbrev pub HoldsFixedList : ArrowType → Layout → Option (List Bool) → Type 0
HoldsFixedList t child validity =
    IsCarriedAs physical.FixedSizeList t × (type_of_layout child ≡ item_type t) × FitsItems (list_size t) (length (rows child)) validity × (length (rows child) < 2 ^ 64)

-- the error names the first part that does not hold
abbrev pub IsFixedListFault : ArrowType → Layout → Option (List Bool) → Error → Type 0
IsFixedListFault t child validity =
    NamesFirstNested (IsCarriedAs physical.FixedSizeList t) (type_of_layout child ≡ item_type t) (FitsItems (list_size t) (length (rows child)) validity) (Unit {0}) (Unit {0}) (Unit {0})
