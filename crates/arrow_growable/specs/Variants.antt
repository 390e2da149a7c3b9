-- Rows of unions, and what the child of each field holds of them ("Union Layout").
use Rattle.std.specs.Prelude.{ℕ, ℤ, ◌≡◌, ◌<◌, Bool, None, List, [], length, map, slice_index_or}
use Rattle.std.specs.List.{All, zip}
use Rattle.std.specs.Ordering.{int_eq}
use Rattle.arrow_types.specs.declared.datatypes.UnionMode.{UnionMode}
use Rattle.arrow_types.specs.declared.datatypes.UnionMode.TheVariants.{Dense, Sparse}
use Rattle.arrow_types.specs.declared.datatypes.physical_type.PhysicalType.TheVariants as physical
use Rattle.arrow_types.specs.ArrowType.{ArrowType, plain, null}
use Rattle.arrow_types.specs.Fits.{dense_part, sparse_part}
use Rattle.arrow_types.specs.Slot.{Slot, Variant, id_at}
use Rattle.arrow_flat.specs.Faults.{IsCarriedAs}
use Rattle.arrow_arrays.specs.Layout.{column_of_id, field_ids, type_of_layout, union_items}
use Rattle.arrow_arrays.specs.TypeParts.{field_types, mode_in}
use Rattle.arrow_arrays.specs.UnionParts.{IsKnown, SpansRows, UnionParts}

-- the type of field f
abbrev pub variant_type : ArrowType → ℕ → ArrowType
variant_type t f = slice_index_or (field_types t) f (plain null)

-- what the child of an id holds of rows: a row each in a sparse union, a null slot where another field is chosen ("Sparse Union"), and in a dense one the rows of the id alone ("Dense Union")
abbrev pub part_of_id : UnionMode → ℤ → ArrowType → List Slot → List Slot
part_of_id Sparse id t xs = map (sparse_part id t) xs
part_of_id Dense id t xs = dense_part id xs

-- what child f holds of rows, as they fit their type
abbrev pub field_part : ArrowType → ℕ → List Slot → List Slot
field_part t f xs = part_of_id (mode_in t) (id_at (field_ids t) f) (variant_type t f) xs

-- rows of field f, by the rows of its child that they are
abbrev pub run_rows : ArrowType → ℕ → List Slot → List Slot
run_rows t f xs = map (Variant (id_at (field_ids t) f)) xs

-- children that hold rows of a union: a known id and a place in the child for each row, and in each child what the rows hold of it
pub record HoldsColumns (t : ArrowType) (types : List ℤ) (places : List ℕ) (columns : List (List Slot)) : Type 0 where
  pub spans : length places ≡ length types
  pub known : All (IsKnown (field_ids t) (length columns)) types
  pub placed : All (λ row. row.1 < length (column_of_id (field_ids t) 0 row.0 columns)) (zip types places)
  pub parts : (f : ℕ) → f < length columns → slice_index_or columns f [] ≡ field_part t f (union_items (field_ids t) columns types places)

-- of which rows a type id is this one
abbrev pub have_id : ℤ → List ℤ → List Bool
have_id id types = map (int_eq id) types

-- what is known of the parts of a sparse union
pub record IsSparse (p : UnionParts) : Type 0 where
  pub kind : IsCarriedAs physical.Union p.arrow_type
  pub mode : mode_in p.arrow_type ≡ Sparse
  pub child_rows : p.child_rows ≡ None
  pub fields : map type_of_layout p.children ≡ field_types p.arrow_type
  pub some : 0 < length p.children
  pub spans : SpansRows p.child_rows p.start (length p.types) p.children
  pub known : All (IsKnown (field_ids p.arrow_type) (length p.children)) p.types
