-- Arrays with children under construction: the children that grow under them, and the rows.
use Rattle.std.specs.Prelude.{ℕ, ◌≡◌, ◌+◌, ◌*◌, ◌<◌, ◌≤◌, Bool, false, Some, List, [], ◌∷◌, length, map, slice_index_or}
use Rattle.std.specs.List.{All, range_with_len}
use Rattle.arrow_types.specs.declared.datatypes.physical_type.PhysicalType.{PhysicalType}
use Rattle.arrow_types.specs.declared.datatypes.physical_type.PhysicalType.TheVariants as physical
use Rattle.arrow_types.specs.ArrowType.{ArrowType}
use Rattle.arrow_types.specs.Slot.{Slot}
use Rattle.arrow_memory.specs.Offsets.{last_of}
use Rattle.arrow_flat.specs.Faults.{IsCarriedAs}
use Rattle.arrow_arrays.specs.Crowded.{Unjoined}
use Rattle.arrow_arrays.specs.Layout.{Layout, type_of_layout}
use Rattle.arrow_flat_growable.specs.Grown.{Grown, bound_to, first_type}
use Rattle.arrow_growable.specs.Child.{IsWell}
use Rattle.arrow_growable.specs.Form.{Form, by_offsets, by_size, by_fields, child_types, column_in, first_column, nested_rows}
use Rattle.arrow_growable.specs.GrowableSpans.{IsFormOf, emptied}
use Rattle.arrow_growable.specs.Lists.{HoldsLists}
use Rattle.arrow_growable.specs.Source.{IsOfForm, nth_child}

-- the physical types of arrays with children that can grow
abbrev pub IsNestedType : PhysicalType → Type 0
IsNestedType physical.List = Unit {0}
IsNestedType physical.LargeList = Unit {0}
IsNestedType physical.Map = Unit {0}
IsNestedType physical.FixedSizeList = Unit {0}
IsNestedType physical.Struct = Unit {0}
IsNestedType _ = ⊥

-- the rows of each child
abbrev pub rows_of_all : List Grown → List (List Slot)
rows_of_all = map (λ g. g.rows)

-- so many rows lie in children, of which some behind offsets may be left
abbrev pub AreWhole : Form → ℕ → List (List Slot) → Type 0
AreWhole (by_offsets os) n columns = (n + 1 ≡ length os) × (last_of os ≤ length (first_column columns))
AreWhole (by_size s) n columns = All (λ c. length c ≡ n * s) columns
AreWhole by_fields n columns = All (λ c. length c ≡ n * 1) columns

-- children without rows over those of arrays
abbrev pub fresh_children : List Layout → List Grown
fresh_children layouts =
    map (λ f. bound_to (map (nth_child f) layouts)) (range_with_len 0 (length (child_types (first_type layouts))))

-- dictionaries in some child of arrays can't be joined
abbrev pub SomeUnjoined : List Layout → Type 0
SomeUnjoined layouts = (f : ℕ) × Unjoined (map (nth_child f) layouts)

-- the bits and children of a growable that has not failed, each of which has w rows a row: as many bits as it counts, and in each child what its rows hold of it
pub record HoldsEven (form : Form) (w : ℕ) (children : List Grown) (bits : List Bool) (len : ℕ) (t : ArrowType) : Type 0 where
  pub counted : length bits ≡ len
  pub well : All IsWell children
  pub whole : All (λ g. length g.rows ≡ len * w) children
  pub columns : (f : ℕ) (d : Grown) → f < length children → column_in t f (nested_rows form bits (rows_of_all children)) ≡ (slice_index_or children f d).rows

-- the same of lists, whose rows have the rows of the one child
abbrev pub HoldsNested : Form → List Grown → List Bool → ℕ → ArrowType → Type 0
HoldsNested (by_offsets os) (child ∷ []) bits len t = HoldsLists os child bits len
HoldsNested (by_offsets os) _ bits len t = ⊥
HoldsNested (by_size s) children bits len t = HoldsEven (by_size s) s children bits len t
HoldsNested by_fields children bits len t = HoldsEven by_fields 1 children bits len t

-- the parts of a growable: a carried type that lies so, that of all arrays, and a child for each that the type says, bound to those of the arrays
pub record IsGrownNested (arrays : PhysicalType) (form : Form) (children : List Grown) (bits : List Bool) (len : ℕ) (layouts : List Layout) (t : ArrowType) (failed : Bool) : Type 0 where
  pub kind : IsCarriedAs arrays t
  pub size : IsFormOf t (emptied form)
  pub one_type : All (λ l. type_of_layout l ≡ t) layouts
  pub shaped : All (IsOfForm (emptied form)) layouts
  pub types : map (λ g. g.arrow_type) children ≡ child_types t
  pub sources : (f : ℕ) (d : Grown) → f < length children → (slice_index_or children f d).sources ≡ Some (map (nth_child f) layouts)
  pub holds : failed ≡ false → HoldsNested form children bits len t
