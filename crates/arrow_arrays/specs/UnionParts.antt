-- A union as contracts see it ("Union Layout").
use Rattle.std.specs.Prelude.{◌≡◌, ℕ, ◌+◌, ◌^◌, ◌<◌, ◌≤◌, ℤ, pos, negsuc, Option, Some, None, IfSome, option_map, List, [], map, length, slice_index_or, refl}
use Rattle.std.specs.Coded.{Coded, code_by, coded×, coded_ℕ, coded_ℤ, coded_list, coded_option}
use Rattle.std.specs.List.{All, range_with_len, zip}
use Rattle.arrow_types.specs.declared.error.Error.{Error}
use Rattle.arrow_types.specs.declared.datatypes.UnionMode.{UnionMode}
use Rattle.arrow_types.specs.declared.datatypes.UnionMode.TheVariants.{Dense, Sparse}
use Rattle.arrow_types.specs.declared.datatypes.physical_type.PhysicalType.TheVariants as physical
use Rattle.arrow_types.specs.ArrowType.{ArrowType}
use Rattle.arrow_types.specs.Slot.{Slot, Null, id_at}
use Rattle.arrow_types.specs.StoredType.{type_code}
use Rattle.arrow_memory.specs.Sliced.{sliced}
use Rattle.arrow_flat.specs.Faults.{IsCarriedAs}
use Rattle.arrow_arrays.specs.Faults.{NamesFirstNested}
use Rattle.arrow_arrays.specs.Layout.{Layout, sparse, dense, rows, to_layouts, type_of_layout, field_ids, column_of_id}
use Rattle.arrow_arrays.specs.StoredLayout.{layout_code}
use Rattle.arrow_arrays.specs.StructParts.{HaveRows}
use Rattle.arrow_arrays.specs.TypeParts.{field_types, mode_in}

-- the type, a type id a row, where each row lies in its child, if the union is dense, the row of each child that the first row lies in, if it is sparse, and a child for each field
pub record UnionParts : Type 0 where
  pub arrow_type : ArrowType
  pub types : List ℤ
  pub child_rows : Option (List ℕ)
  pub start : ℕ
  pub children : List Layout

-- the code that the logic asks for
abbrev pub union_parts_code : Coded UnionParts
union_parts_code =
    code_by (ArrowType × (List ℤ × (Option (List ℕ) × (ℕ × List Layout)))) (coded× type_code (coded× (coded_list coded_ℤ) (coded× (coded_option (coded_list coded_ℕ)) (coded× coded_ℕ (coded_list layout_code))))) (λ p. (p.arrow_type, (p.types, (p.child_rows, (p.start, p.children))))) (λ t. record { arrow_type = t.0; types = t.1.0; child_rows = t.1.1.0; start = t.1.1.1.0; children = t.1.1.1.1 }) (λ _. refl)

-- a row of a child, by an offset that is not negative
abbrev pub child_row_of : ℤ → ℕ
child_row_of (pos n) = n
child_row_of (negsuc n) = 0

abbrev pub child_rows_of : Option (List ℤ) → Option (List ℕ)
child_rows_of = option_map (map child_row_of)

-- where each row lies in its child: in a sparse union one row behind the other
abbrev pub child_rows_by : Option (List ℕ) → ℕ → ℕ → List ℕ
child_rows_by None start count = range_with_len start count
child_rows_by (Some child_rows) start count = child_rows

abbrev pub union_layout_by : ArrowType → List ℤ → Option (List ℕ) → ℕ → List Layout → Layout
union_layout_by t types None start children = sparse t types start (to_layouts children)
union_layout_by t types (Some child_rows) start children = dense t types child_rows (to_layouts children)

abbrev pub union_layout : UnionParts → Layout
union_layout p = union_layout_by p.arrow_type p.types p.child_rows p.start p.children

-- the rows
abbrev pub union_rows : UnionParts → List Slot
union_rows p = rows (union_layout p)

-- what an array means: its type and its rows
abbrev pub union_meaning : UnionParts → ArrowType × List Slot
union_meaning p = (p.arrow_type, union_rows p)

-- a row of a field, by the number of the field, and how many it has
abbrev pub rows_of_field : List Layout → ℕ → List Slot
rows_of_field children f = slice_index_or (map rows children) f []

abbrev pub row_in : List Layout → ℕ → ℕ → Slot
row_in children f i = slice_index_or (rows_of_field children f) i Null

-- the row where the rows of a slice begin: a dense union has none
abbrev pub start_of_part : Option (List ℕ) → ℕ → ℕ → ℕ
start_of_part None start offset = start + offset
start_of_part (Some child_rows) start offset = start

-- the parts of a slice: the children stay whole
abbrev pub union_slice : UnionParts → ℕ → ℕ → UnionParts
union_slice p offset len =
    record { arrow_type = p.arrow_type; types = sliced p.types offset len; child_rows = option_map (λ ns. sliced ns offset len) p.child_rows; start = start_of_part p.child_rows p.start offset; children = p.children }

-- the mode that the parts have: only a dense union has offsets
abbrev pub mode_by : Option (List ℕ) → UnionMode
mode_by None = Sparse
mode_by (Some child_rows) = Dense

-- the offsets are there where the type is dense, and as many as the rows; the children of a sparse union are as long as the union
abbrev pub FitsMode : UnionMode → List ℤ → Option (List ℤ) → List Layout → Type 0
FitsMode Sparse types None children = HaveRows (length types) children
FitsMode Dense types (Some offsets) children = length offsets ≡ length types
FitsMode mode types offsets children = ⊥

-- an id that one of so many fields has
abbrev pub IsKnown : Option (List ℤ) → ℕ → ℤ → Type 0
IsKnown ids count id = (f : ℕ) × (f < count) × (id_at ids f ≡ id)

-- how many rows the field of an id has
abbrev pub rows_of_id : Option (List ℤ) → List Layout → ℤ → ℕ
rows_of_id ids children id = length (column_of_id ids 0 id (map rows children))

-- an offset that lies inside the child of a known id
abbrev pub IsInside : Option (List ℤ) → List Layout → ℤ → ℤ → Type 0
IsInside ids children id (pos n) = IsKnown ids (length children) id → n < rows_of_id ids children id
IsInside ids children id (negsuc n) = IsKnown ids (length children) id → ⊥

-- all offsets of a dense union do
abbrev pub FitsOffsets : Option (List ℤ) → List Layout → List ℤ → Option (List ℤ) → Type 0
FitsOffsets ids children types offsets =
    IfSome offsets (λ zs. All (λ row. IsInside ids children row.0 row.1) (zip types zs))

-- each row lies inside the child of its id
abbrev pub ArePlaced : Option (List ℤ) → List Layout → List ℤ → List ℕ → Type 0
ArePlaced ids children types child_rows = All (λ row. row.1 < rows_of_id ids children row.0) (zip types child_rows)

-- the first of so many fields that has an id, if one has
abbrev pub FindsField : Option (List ℤ) → ℕ → ℤ → Option ℕ → Type 0
FindsField ids count id None = IsKnown ids count id → ⊥
FindsField ids count id (Some f) = (f < count) × (id_at ids f ≡ id) × ((e : ℕ) → e < f → id_at ids e ≡ id → ⊥)

-- the rows of a sparse union lie in all its children; a dense union has a row of a child for each row, and no start
abbrev pub SpansRows : Option (List ℕ) → ℕ → ℕ → List Layout → Type 0
SpansRows None start count children = All (λ l. start + count ≤ length (rows l)) children
SpansRows (Some child_rows) start count children = (length child_rows ≡ count) × (start ≡ 0)

-- the parts of an array, by its offsets: a carried type of this mode, a child of the type of each field, a child row below 2 ^ 64 for each row, and each row inside the child of its id
pub record IsUnion (offsets : Option (List ℤ)) (p : UnionParts) : Type 0 where
  pub kind : IsCarriedAs physical.Union p.arrow_type
  pub mode : mode_in p.arrow_type ≡ mode_by p.child_rows
  pub children : map type_of_layout p.children ≡ field_types p.arrow_type
  pub some : 0 < length p.children
  pub seen : offsets ≡ option_map (map pos) p.child_rows
  pub spans : SpansRows p.child_rows p.start (length p.types) p.children
  pub known : All (IsKnown (field_ids p.arrow_type) (length p.children)) p.types
  pub fits : p.start + length p.types < 2 ^ 64
  pub placed : ArePlaced (field_ids p.arrow_type) p.children p.types (child_rows_by p.child_rows p.start (length p.types))

-- what a test of the parts finds to hold
abbrev pub HoldsUnion : ArrowType → List ℤ → List Layout → Option (List ℤ) → Type 0
HoldsUnion t types children offsets =
    IsCarriedAs physical.Union t × (map type_of_layout children ≡ field_types t) × FitsMode (mode_in t) types offsets children × FitsOffsets (field_ids t) children types offsets × All (IsKnown (field_ids t) (length children)) types

-- the error names the first part that does not hold
abbrev pub IsUnionFault : ArrowType → List ℤ → List Layout → Option (List ℤ) → Error → Type 0
IsUnionFault t types children offsets =
    NamesFirstNested (IsCarriedAs physical.Union t) (map type_of_layout children ≡ field_types t) (FitsMode (mode_in t) types offsets children) (FitsOffsets (field_ids t) children types offsets) (All (IsKnown (field_ids t) (length children)) types) (Unit {0})
