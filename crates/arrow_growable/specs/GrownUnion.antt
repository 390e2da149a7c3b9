-- Unions under construction: type ids, places and children that grow ("Union Layout").
use Rattle.std.specs.Prelude.{ℕ, zero, suc, ℤ, pos, ◌≡◌, ◌+◌, ◌^◌, ◌<◌, ◌≤◌, ◌⊎◌, Bool, false, Option, Some, None, Vec, List, [], ◌∷◌, ◌++◌, length, map, option_map, slice_index_or}
use Rattle.std.specs.List.{All, range_with_len}
use Rattle.arrow_types.specs.declared.datatypes.UnionMode.{UnionMode}
use Rattle.arrow_types.specs.declared.datatypes.UnionMode.TheVariants.{Dense, Sparse}
use Rattle.std.specs.declared.alloc.Global.{Global}
use Rattle.arrow_types.specs.declared.datatypes.physical_type.PhysicalType.TheVariants as physical
use Rattle.arrow_types.specs.ArrowType.{ArrowType, plain, null}
use Rattle.arrow_types.specs.Fits.{Fits}
use Rattle.arrow_types.specs.Slot.{Slot}
use Rattle.arrow_memory.specs.Sliced.{sliced}
use Rattle.arrow_flat.specs.Faults.{IsCarriedAs}
use Rattle.arrow_arrays.specs.Crowded.{Unjoined, child_at}
use Rattle.arrow_arrays.specs.Layout.{Layout, field_ids, rows, type_of_layout, union_items}
use Rattle.arrow_arrays.specs.TypeParts.{field_types, mode_in}
use Rattle.arrow_arrays.specs.UnionParts.{child_rows_by, child_rows_of, mode_by}
use Rattle.arrow_flat_growable.specs.Grown.{AreOfOneType, CannotHold, FitsWith, Grown, RefusedBy, appended, empty_over, first_type, null_rows_of, source_at}
use Rattle.arrow_growable.specs.Child.{IsWell, SomeCannotHoldNulls, grown_by_nulls}
use Rattle.arrow_growable.specs.Nested.{rows_of_all}
use Rattle.arrow_growable.specs.Variants.{HoldsColumns, variant_type}

-- the offsets, if there are any
abbrev pub offsets_in : Option (Vec ℤ Global) → Option (List ℤ)
offsets_in None = None
offsets_in (Some offsets) = Some offsets.items

-- the row of its child that each row is: by the offsets or, in a sparse union, by its own number
abbrev pub places_by : List ℤ → Option (List ℤ) → List ℕ
places_by types offsets = child_rows_by (child_rows_of offsets) 0 (length types)

-- the rows
abbrev pub variant_rows : ArrowType → List ℤ → Option (List ℤ) → List Grown → List Slot
variant_rows t types offsets children =
    union_items (field_ids t) (rows_of_all children) types (places_by types offsets)

-- a child that is not there
abbrev pub absent : Grown
absent = empty_over (plain null) None

-- child f
abbrev pub nth_grown : List Grown → ℕ → Grown
nth_grown children f = slice_index_or children f absent

-- children of which the f-th has grown by these rows
abbrev pub with_rows : ℕ → List Slot → List Grown → List Grown
with_rows f more [] = []
with_rows zero more (g ∷ gs) = appended g more ∷ gs
with_rows (suc f) more (g ∷ gs) = g ∷ with_rows f more gs

-- children of which all but the f-th have grown by n null slots
abbrev pub with_others : ℕ → ℕ → List Grown → List Grown
with_others f n [] = []
with_others zero n (g ∷ gs) = g ∷ map (grown_by_nulls n) gs
with_others (suc f) n (g ∷ gs) = grown_by_nulls n g ∷ with_others f n gs

-- children behind n rows of field f: it has these rows more, and of a sparse union the others have as many null slots
abbrev pub with_run : Option (List ℤ) → ℕ → List Slot → ℕ → List Grown → List Grown
with_run None f more n children = with_rows f more (with_others f n children)
with_run (Some offsets) f more n children = with_rows f more children

-- offsets behind n rows of a field that had so many
abbrev pub placed_behind : Option (List ℤ) → ℕ → ℕ → Option (List ℤ)
placed_behind offsets place n = option_map (λ os. os ++ map pos (range_with_len place n)) offsets

-- so few rows of one id that offsets can name each: 2 ^ 31 in a dense union
abbrev pub AreFew : Option (List ℤ) → ℕ → Type 0
AreFew None n = Unit {0}
AreFew (Some offsets) n = n ≤ 2 ^ 31

-- some child but the f-th can't hold n null slots
abbrev pub OthersCannotHold : ℕ → ℕ → List Grown → Type 0
OthersCannotHold f n children =
    (g : ℕ) × (g < length children) × (g ≡ f → ⊥) × (FitsWith (nth_grown children g) (null_rows_of (nth_grown children g) n) → ⊥)

-- why n rows of field f, which are those of bound array i from child row j on, are refused
abbrev pub RunRefused : Option (List ℤ) → ℕ → ℕ → ℕ → ℕ → List Grown → Type 0
RunRefused None f i j n children = CannotHold (nth_grown children f) i j n ⊎ OthersCannotHold f n children
RunRefused (Some offsets) f i j n children =
    CannotHold (nth_grown children f) i j n ⊎ (2 ^ 31 < length (nth_grown children f).rows + n)

-- and why n null slots are
abbrev pub NullsRefused : Option (List ℤ) → ℕ → List Grown → Type 0
NullsRefused None n children = SomeCannotHoldNulls n children
NullsRefused (Some offsets) n children =
    (FitsWith (nth_grown children 0) (null_rows_of (nth_grown children 0) n) → ⊥) ⊎ (2 ^ 31 < length (nth_grown children 0).rows + n)

-- what the parts are in whatever state: of a carried union, with a child for each field, and offsets where it is dense
pub record IsUnionOver (t : ArrowType) (offsets : Option (List ℤ)) (children : List Grown) : Type 0 where
  pub kind : IsCarriedAs physical.Union t
  pub types : map (λ g. g.arrow_type) children ≡ field_types t
  pub mode : mode_in t ≡ mode_by (child_rows_of offsets)

-- over arrays of this type, each child bound to that child of each
pub record IsBoundUnion (layouts : List Layout) (t : ArrowType) (offsets : Option (List ℤ)) (children : List Grown) : Type 0 where
  pub over : IsUnionOver t offsets children
  pub one_type : All (λ l. type_of_layout l ≡ t) layouts
  pub sources : (f : ℕ) → f < length children → (nth_grown children f).sources ≡ Some (map (child_at f) layouts)

-- what the parts hold of a union that has not failed: its rows, which are so few that offsets can name each, in children that have not failed
pub record HoldsVariants (t : ArrowType) (types : List ℤ) (offsets : Option (List ℤ)) (children : List Grown) : Type 0 where
  pub well : All IsWell children
  pub natural : offsets ≡ option_map (map pos) (child_rows_of offsets)
  pub few : (f : ℕ) → f < length children → AreFew offsets (length (nth_grown children f).rows)
  pub rows : HoldsColumns t types (places_by types offsets) (rows_of_all children)

-- the parts of a growable
pub record IsGrownUnion (layouts : List Layout) (t : ArrowType) (types : List ℤ) (offsets : Option (List ℤ)) (children : List Grown) (len : ℕ) (failed : Bool) : Type 0 where
  pub bound : IsBoundUnion layouts t offsets children
  pub counted : failed ≡ false → length types ≡ len
  pub holds : failed ≡ false → HoldsVariants t types offsets children

-- the parts behind those of before, with these rows more
pub record GrowsVariants (t : ArrowType) (types : List ℤ) (offsets : Option (List ℤ)) (children : List Grown) (new_types : List ℤ) (new_offsets : Option (List ℤ)) (news : List Grown) (more : List Slot) : Type 0 where
  pub holds : HoldsVariants t new_types new_offsets news
  pub rows : variant_rows t new_types new_offsets news ≡ variant_rows t types offsets children ++ more

-- the type of bound array i
abbrev pub source_type : List Layout → ℕ → ArrowType
source_type layouts i = type_of_layout (source_at layouts i)

-- why rows that are named are refused, as CannotHold says it
abbrev pub RowsRefused : List Layout → List ℤ → Option (List ℤ) → List Grown → ℕ → ℕ → ℕ → Type 0
RowsRefused layouts types offsets children i start n =
    RefusedBy (Some layouts) (Fits (source_type layouts i) (variant_rows (source_type layouts i) types offsets children ++ sliced (rows (source_at layouts i)) start n)) i start n

-- the children of arrays of unions of one type, those of each field beside one another
abbrev pub union_children : List Layout → List (List Layout)
union_children layouts =
    map (λ f. map (child_at f) layouts) (range_with_len 0 (length (field_types (first_type layouts))))

-- the children of each field have its type
abbrev pub HaveFieldTypes : List Layout → Type 0
HaveFieldTypes layouts =
    (f : ℕ) → f < length (field_types (first_type layouts)) → All (λ l. type_of_layout l ≡ variant_type (first_type layouts) f) (map (child_at f) layouts)

-- the offsets of no row: none in a sparse union
abbrev pub no_offsets : UnionMode → Option (List ℤ)
no_offsets Sparse = None
no_offsets Dense = Some []

-- arrays that can be bound to a growable: one at least, and all of one type
pub record CanBind (layouts : List Layout) : Type 0 where
  pub some : 0 < length layouts
  pub one_type : AreOfOneType layouts

-- the dictionaries of some of these columns of arrays can't be joined
abbrev pub SomeColumnUnjoined : List (List Layout) → Type 0
SomeColumnUnjoined columns =
    (k : ℕ) × (k < length columns) × ((d : List Layout) → Unjoined (slice_index_or columns k d))
