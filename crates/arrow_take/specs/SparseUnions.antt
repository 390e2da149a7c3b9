-- Sparse unions: what is known of their parts, the type ids of rows by index, and what each field has of rows ("Sparse Union").
use Rattle.std.specs.Prelude.{◌≡◌, ℕ, ◌<◌, ℤ, Option, None, Some, List, length, slice_index_or}
use Rattle.arrow_types.specs.declared.datatypes.UnionMode.TheVariants.{Sparse}
use Rattle.arrow_types.specs.declared.datatypes.physical_type.PhysicalType.TheVariants as physical
use Rattle.arrow_types.specs.ArrowType.{ArrowType}
use Rattle.arrow_types.specs.Fits.{Fits}
use Rattle.arrow_types.specs.Slot.{Slot, id_at}
use Rattle.arrow_arrays.specs.declared.array.any.AnyArray.{AnyArray}
use Rattle.arrow_arrays.specs.Any.{any_array_rows, any_array_type}
use Rattle.arrow_arrays.specs.KeyedParts.{key_in}
use Rattle.arrow_arrays.specs.Layout.{field_ids}
use Rattle.arrow_arrays.specs.TypeParts.{field_types}
use Rattle.arrow_arrays.specs.UnionParts.{UnionParts}
use Rattle.arrow_growable.specs.Variants.{field_part, variant_type}

-- the type id at a place, and another one where there is no place
abbrev pub id_or : ℤ → List ℤ → Option ℕ → ℤ
id_or first types None = first
id_or first types (Some n) = slice_index_or types n first

-- the type id of the row that an index names, and that of the first field where it is null
abbrev pub taken_id : UnionParts → Slot → ℤ
taken_id p index = id_or (id_at (field_ids p.arrow_type) 0) p.types (key_in index)

-- an array of what a field has of rows of a union, which fits
pub record HasPart (t : ArrowType) (xs : List Slot) (f : ℕ) (array : AnyArray) : Type 0 where
  pub array_type : any_array_type array ≡ variant_type t f
  pub rows : any_array_rows array ≡ field_part t f xs
  pub fits : Fits (any_array_type array) (any_array_rows array)

-- of each of the first fields
abbrev pub HaveParts : ArrowType → List Slot → List AnyArray → Type 0
HaveParts t xs arrays =
    (f : ℕ) (d : AnyArray) → f < length arrays → HasPart t xs f (slice_index_or arrays f d)

-- what a field, or some field, has of rows of a union does not fit
abbrev pub PartDoesNotFit : ArrowType → List Slot → ℕ → Type 0
PartDoesNotFit t xs f = Fits (variant_type t f) (field_part t f xs) → ⊥

abbrev pub SomePartDoesNotFit : ArrowType → List Slot → Type 0
SomePartDoesNotFit t xs = (f : ℕ) × (f < length (field_types t)) × PartDoesNotFit t xs f
