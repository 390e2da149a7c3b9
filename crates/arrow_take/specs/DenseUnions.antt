-- Unions by index in either mode: where rows lie in the children of their fields, and where they come to lie ("Dense Union").
use Rattle.std.specs.Prelude.{◌≡◌, ℕ, ◌<◌, ◌≤◌, ◌^◌, ℤ, pos, Bool, Option, None, Some, IfSome, List, [], ◌∷◌, count_by, if◌then◌else◌, length, map, slice_index_or, take}
use Rattle.std.specs.List.{All, range_with_len}
use Rattle.std.specs.Ordering.{int_eq}
use Rattle.arrow_types.specs.declared.datatypes.UnionMode.{UnionMode}
use Rattle.arrow_types.specs.declared.datatypes.UnionMode.TheVariants.{Dense, Sparse}
use Rattle.arrow_types.specs.declared.datatypes.physical_type.PhysicalType.TheVariants as physical
use Rattle.arrow_types.specs.Rows.{gather}
use Rattle.arrow_types.specs.Slot.{Slot, Null, Number, Variant, id_at}
use Rattle.arrow_flat.specs.Faults.{IsCarriedAs}
use Rattle.arrow_arrays.specs.declared.array.any.AnyArray.{AnyArray}
use Rattle.arrow_arrays.specs.Any.{any_array_rows, any_array_type, layout_of}
use Rattle.arrow_arrays.specs.KeyedParts.{key_in}
use Rattle.arrow_arrays.specs.Layout.{Layout, depth, field_ids, rows, type_of_layout}
use Rattle.arrow_arrays.specs.TypeParts.{field_types, mode_in}
use Rattle.arrow_arrays.specs.UnionParts.{IsKnown, SpansRows, UnionParts, mode_by, row_in, rows_of_field, union_layout, union_rows}
use Rattle.arrow_growable.specs.Variants.{field_part, variant_type}
use Rattle.arrow_take.specs.Taken.{AreIndices}

-- what is known of the parts of a union
pub record HasUnionParts (p : UnionParts) : Type 0 where
  pub kind : IsCarriedAs physical.Union p.arrow_type
  pub mode : mode_in p.arrow_type ≡ mode_by p.child_rows
  pub fields : map type_of_layout p.children ≡ field_types p.arrow_type
  pub some : 0 < length p.children
  pub spans : SpansRows p.child_rows p.start (length p.types) p.children
  pub long : length (union_rows p) ≡ length p.types
  pub known : All (IsKnown (field_ids p.arrow_type) (length p.children)) p.types

-- an integer up to this one can name each row of each child
abbrev pub NamesRows : ℕ → List Layout → Type 0
NamesRows greatest children = All (λ l. length (rows l) ≤ greatest) children

-- of a dense union
abbrev pub CanName : ℕ → UnionParts → Type 0
CanName greatest p = IfSome p.child_rows (λ _. NamesRows greatest p.children)

-- the index of the row of its child that a row of a union is, and null where there is no row
abbrev pub IsPlace : UnionParts → Option ℕ → Slot → Type 0
IsPlace p None place = place ≡ Null
IsPlace p (Some n) place =
    (g : ℕ) × (j : ℕ) × (place ≡ Number (pos j)) × (g < length p.children) × (id_at (field_ids p.arrow_type) g ≡ slice_index_or p.types n (pos 0)) × (j < length (rows_of_field p.children g)) × (slice_index_or (union_rows p) n Null ≡ Variant (slice_index_or p.types n (pos 0)) (row_in p.children g j))

-- of the rows that indices name: in a dense union; in a sparse one a row lies in each child
abbrev pub ArePlaces : UnionParts → List Slot → Option (List Slot) → Type 0
ArePlaces p indices None = p.child_rows ≡ None
ArePlaces p indices (Some places) =
    (mode_in p.arrow_type ≡ Dense) × (length places ≡ length indices) × ((i : ℕ) → i < length indices → IsPlace p (key_in (slice_index_or indices i Null)) (slice_index_or places i Null))

-- what a mask keeps of a list
abbrev pub kept : {A : Type 0} → List Bool → List A → List A
kept (is_kept ∷ mask) (x ∷ xs) = if is_kept then x ∷ kept mask xs else kept mask xs
kept _ _ = []

-- how many rows before row i have its type id
abbrev pub rank_at : List ℤ → ℕ → ℕ
rank_at types i = count_by (int_eq (slice_index_or types i (pos 0))) (take i types)

-- of each row: where it lies in its child if that has the rows of its own id alone, one behind the other
abbrev pub ranks : List ℤ → List ℕ
ranks types = map (rank_at types) (range_with_len 0 (length types))

-- at most so many rows of each id that offsets of 32 bits name them
abbrev pub AreFew : List ℤ → Type 0
AreFew types = (id : ℤ) → count_by (int_eq id) types ≤ 2 ^ 31

-- a row has too many of its id before it
abbrev pub SomeRankPasses : List ℤ → Type 0
SomeRankPasses types = (i : ℕ) × (i < length types) × (2 ^ 31 ≤ rank_at types i)

-- the offsets of rows of these ids: none in a sparse union
abbrev pub HasOffsets : UnionMode → List ℤ → Option (List ℤ) → Type 0
HasOffsets Sparse types offsets = offsets ≡ None
HasOffsets Dense types offsets = (offsets ≡ Some (map pos (ranks types))) × AreFew types

-- an array, and indices of its rows that name what a field has of the rows of a union by index
pub record NamesPart (p : UnionParts) (indices : List Slot) (f : ℕ) (part : AnyArray) (own : List Slot) : Type 0 where
  pub inside : AreIndices (length (any_array_rows part)) own
  pub array_type : any_array_type part ≡ variant_type p.arrow_type f
  pub rows : gather (any_array_rows part) own (any_array_type part) ≡ field_part p.arrow_type f (gather (union_rows p) indices p.arrow_type)
  pub less_deep : depth (layout_of part) < depth (union_layout p)
