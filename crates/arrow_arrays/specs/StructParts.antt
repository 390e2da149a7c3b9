-- A struct as contracts see it ("Struct Layout").
use Rattle.std.specs.Prelude.{◌≡◌, ℕ, ◌<◌, Bool, Option, List, map, length, slice_index_or, refl}
use Rattle.std.specs.Coded.{Coded, code_by, coded×, coded_list, coded_bool, coded_option}
use Rattle.std.specs.List.{All}
use Rattle.arrow_types.specs.declared.error.Error.{Error}
use Rattle.arrow_types.specs.declared.datatypes.physical_type.PhysicalType.TheVariants as physical
use Rattle.arrow_types.specs.ArrowType.{ArrowType}
use Rattle.arrow_types.specs.Slot.{Slot, Null, Parts, to_slots}
use Rattle.arrow_types.specs.StoredType.{type_code}
use Rattle.arrow_flat.specs.Faults.{IsCarriedAs}
use Rattle.arrow_flat.specs.Parts.{FitsRows}
use Rattle.arrow_arrays.specs.Faults.{NamesFirstNested}
use Rattle.arrow_arrays.specs.Layout.{Layout, fielded, rows, column_length, to_layouts, type_of_layout}
use Rattle.arrow_arrays.specs.SliceOf.{validity_of_slice, slice_of}
use Rattle.arrow_arrays.specs.StoredLayout.{layout_code}
use Rattle.arrow_arrays.specs.TypeParts.{field_types}

-- the type, the validity, if there is one, and a child for each field
pub record StructParts : Type 0 where
  pub arrow_type : ArrowType
  pub validity : Option (List Bool)
  pub children : List Layout

-- the code that the logic asks for
abbrev pub struct_parts_code : Coded StructParts
struct_parts_code =
    code_by (ArrowType × (Option (List Bool) × List Layout)) (coded× type_code (coded× (coded_option (coded_list coded_bool)) (coded_list layout_code))) (λ p. (p.arrow_type, (p.validity, p.children))) (λ t. record { arrow_type = t.0; validity = t.1.0; children = t.1.1 }) (λ _. refl)

abbrev pub struct_layout : StructParts → Layout
struct_layout p = fielded p.arrow_type p.validity (to_layouts p.children)

-- the rows
abbrev pub struct_rows : StructParts → List Slot
struct_rows p = rows (struct_layout p)

-- what an array means: its type and its rows
abbrev pub struct_meaning : StructParts → ArrowType × List Slot
struct_meaning p = (p.arrow_type, struct_rows p)

-- row i of each child, as one
abbrev pub row_of : ℕ → List Layout → Slot
row_of i children = Parts (to_slots (map (λ l. slice_index_or (rows l) i Null) children))

-- as many rows as the first child has
abbrev pub row_count : List Layout → ℕ
row_count children = column_length (map rows children)

-- the parts of a slice: a part of each child
abbrev pub struct_slice : StructParts → ℕ → ℕ → StructParts
struct_slice p offset len =
    record { arrow_type = p.arrow_type; validity = validity_of_slice p.validity offset len; children = map (λ l. slice_of l offset len) p.children }

-- the same parts under another validity
abbrev pub struct_with_bits : StructParts → Option (List Bool) → StructParts
struct_with_bits p validity = record { arrow_type = p.arrow_type; validity = validity; children = p.children }

-- all have this many rows
abbrev pub HaveRows : ℕ → List Layout → Type 0
HaveRows n children = All (λ l. length (rows l) ≡ n) children

-- all are of one length
abbrev pub AreColumns : List Layout → Type 0
AreColumns children = HaveRows (row_count children) children

-- all children are of one length, and the validity has a bit for each row
abbrev pub FitsColumns : List Layout → Option (List Bool) → Type 0
FitsColumns children validity = HaveRows (row_count children) children × FitsRows validity (row_count children)

-- the parts of an array: a carried type, a child of the type of each field, of which there is one, and columns of one length
pub record IsStruct (p : StructParts) : Type 0 where
  pub kind : IsCarriedAs physical.Struct p.arrow_type
  pub children : map type_of_layout p.children ≡ field_types p.arrow_type
  pub some : 0 < length p.children
  pub fits : FitsColumns p.children p.validity

-- what a test of the parts finds to hold
abbrev pub HoldsStruct : ArrowType → List Layout → Option (List Bool) → Type 0
HoldsStruct t children validity =
    IsCarriedAs physical.Struct t × (map type_of_layout children ≡ field_types t) × FitsColumns children validity

-- the error names the first part that does not hold
abbrev pub IsStructFault : ArrowType → List Layout → Option (List Bool) → Error → Type 0
IsStructFault t children validity =
    NamesFirstNested (IsCarriedAs physical.Struct t) (map type_of_layout children ≡ field_types t) (FitsColumns children validity) (Unit {0}) (Unit {0}) (Unit {0})
