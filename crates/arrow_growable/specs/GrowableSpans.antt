-- Where the rows of an array under construction lie in its children, as contracts see it.
use Rattle.std.specs.Prelude.{ℕ, ◌≡◌, ◌+◌, ◌<◌, ◌≤◌, Bool, List, [], ◌∷◌, ◌++◌, replicate}
use Rattle.std.specs.List.{All}
use Rattle.arrow_types.specs.declared.datatypes.physical_type.PhysicalType.{PhysicalType}
use Rattle.arrow_types.specs.declared.datatypes.physical_type.PhysicalType.TheVariants as physical
use Rattle.arrow_memory.specs.Offsets.{IsOffsets, last_of, valid_items, with_valid_rows}
use Rattle.arrow_types.specs.Physical.{physical_type_of}
use Rattle.arrow_arrays.specs.Layout.{Layout}
use Rattle.arrow_arrays.specs.TypeParts.{list_size}
use Rattle.arrow_types.specs.ArrowType.{ArrowType}
use Rattle.arrow_flat_growable.specs.Grown.{first_type}
use Rattle.arrow_growable.specs.Form.{Form, by_offsets, by_size, by_fields}
use Rattle.arrow_growable.specs.Lists.{greatest_in}
use Rattle.arrow_growable.specs.Source.{IsOfForm}
use Rattle.arrow_growable.specs.declared.growable.grown_spans.GrowableSpans.{GrowableSpans}
use Rattle.arrow_growable.specs.declared.growable.grown_spans.GrowableSpans.TheVariants.{Small, Large, Map, FixedSize, Fields}

abbrev pub form_of : GrowableSpans → Form
form_of (Small offsets) = by_offsets offsets
form_of (Large offsets) = by_offsets offsets
form_of (Map offsets) = by_offsets offsets
form_of (FixedSize size) = by_size size
form_of Fields = by_fields

-- the arrays whose rows lie so
abbrev pub grown_arrays : GrowableSpans → PhysicalType
grown_arrays (Small offsets) = physical.List
grown_arrays (Large offsets) = physical.LargeList
grown_arrays (Map offsets) = physical.Map
grown_arrays (FixedSize size) = physical.FixedSizeList
grown_arrays Fields = physical.Struct

-- the same without rows
abbrev pub emptied : Form → Form
emptied (by_offsets os) = by_offsets (0 ∷ [])
emptied form = form

-- with rows of others behind, null where a bit is not set
abbrev pub form_with : Form → List Bool → List ℕ → ℕ → Form
form_with (by_offsets os) bits others start = by_offsets (with_valid_rows os bits others start)
form_with form bits others start = form

-- and with so many null rows
abbrev pub form_with_nulls : Form → ℕ → Form
form_with_nulls (by_offsets os) n = by_offsets (os ++ replicate n (last_of os))
form_with_nulls form n = form

-- with rows of others the last offset would pass the greatest of such arrays
abbrev pub PassesGreatest : PhysicalType → Form → List Bool → List ℕ → ℕ → Type 0
PassesGreatest arrays (by_offsets os) bits others start =
    greatest_in arrays < last_of os + valid_items bits others start
PassesGreatest arrays _ bits others start = ⊥

-- offsets that rise, up to the greatest of such arrays
abbrev pub IsSoundForm : PhysicalType → Form → Type 0
IsSoundForm arrays (by_offsets os) = IsOffsets os × (last_of os ≤ greatest_in arrays)
IsSoundForm arrays _ = Unit {0}

-- a size is that of the type
abbrev pub IsFormOf : ArrowType → Form → Type 0
IsFormOf t (by_size s) = s ≡ list_size t
IsFormOf t _ = Unit {0}

-- those of a growable without rows over these arrays
pub record IsFresh (spans : GrowableSpans) (layouts : List Layout) : Type 0 where
  pub arrays : grown_arrays spans ≡ physical_type_of (first_type layouts)
  pub empty : form_of spans ≡ emptied (form_of spans)
  pub size : IsFormOf (first_type layouts) (form_of spans)
  pub form : All (IsOfForm (form_of spans)) layouts
