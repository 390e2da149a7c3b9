-- What the kernels' laws are stated by.
use Rattle.std.specs.Prelude.{◌≡◌, ◌↔◌, ℕ, ◌+◌, ◌-◌, ℤ, pos, Bool, true, None, List, [], ◌∷◌, All, length, map, replicate, if◌then◌else◌}
use Rattle.arrow_types.specs.declared.datatypes.UnionMode.TheVariants.{Dense}
use Rattle.arrow_types.specs.ArrowType.{ArrowType, plain, null, struct, union, field, no_fields, more_fields}
use Rattle.arrow_types.specs.Carried.{IsCarried}
use Rattle.arrow_types.specs.Fits.{Fits}
use Rattle.arrow_types.specs.Rows.{chosen, gather, joined, mask_of, select, shifted}
use Rattle.arrow_types.specs.Slot.{Slot, Null, Number, Variant}
use Rattle.arrow_memory.specs.Sliced.{sliced}
use Rattle.arrow_arrays.specs.Any.{any_array_meaning, any_array_rows, any_array_type}
use Rattle.arrow_arrays.specs.Layout.{Layout}
use Rattle.arrow_arrays.specs.TypeParts.{field_types}
use Rattle.arrow_arrays.specs.declared.array.any.AnyArray.{AnyArray}
use Rattle.arrow_select.specs.Selected.{selected_rows}
use Rattle.arrow_take.specs.Taken.{CanTake}

-- the places at which a mask is true, of which the first has this number
abbrev pub places_from : ℕ → List Bool → List ℕ
places_from i [] = []
places_from i (chosen ∷ mask) = if chosen then i ∷ places_from (i + 1) mask else places_from (i + 1) mask

-- as indices
abbrev pub true_places : List Bool → List Slot
true_places mask = map (λ n. Number (pos n)) (places_from 0 mask)

-- the places of the rows that a predicate keeps
abbrev pub kept_places : List Slot → List Slot
kept_places ps = true_places (mask_of ps)

-- the rows of two arrays, and those of one that is cut at a place
abbrev pub rows_of_both : AnyArray → AnyArray → List Slot
rows_of_both left right = joined (any_array_rows left ∷ any_array_rows right ∷ [])

abbrev pub cut_at : ℕ → List Slot → List (List Slot)
cut_at at xs = sliced xs 0 at ∷ sliced xs at (length xs - at) ∷ []

-- what a call answers of arrays, as type and rows: `Filter::apply` by a mask and `filter` by the rows of a predicate,
abbrev pub selected_of : List Bool → AnyArray → ArrowType × List Slot
selected_of mask array = (any_array_type array, select mask (any_array_rows array))

abbrev pub kept_of : List Slot → AnyArray → ArrowType × List Slot
kept_of ps array = selected_of (mask_of ps) array

-- `shift` by an offset, `take` by indices,
abbrev pub shifted_of : ℤ → AnyArray → ArrowType × List Slot
shifted_of offset array = (any_array_type array, shifted (any_array_rows array) offset (any_array_type array))

abbrev pub gathered_of : List Slot → AnyArray → ArrowType × List Slot
gathered_of indices array = (any_array_type array, gather (any_array_rows array) indices (any_array_type array))

-- and `if_then_else` by the rows of a predicate
abbrev pub chosen_of : List Slot → AnyArray → AnyArray → ArrowType × List Slot
chosen_of ps left right = (any_array_type left, chosen ps (any_array_rows left) (any_array_rows right) (any_array_type left))

-- arrays of one type, with the same rows
abbrev pub MeanSame : AnyArray → AnyArray → Type 0
MeanSame array other = any_array_meaning array ≡ any_array_meaning other

-- an array of such a type and such rows
abbrev pub IsSelected : List Bool → AnyArray → AnyArray → Type 0
IsSelected mask array kept = any_array_meaning kept ≡ selected_of mask array

abbrev pub IsKept : List Slot → AnyArray → AnyArray → Type 0
IsKept ps array kept = any_array_meaning kept ≡ kept_of ps array

abbrev pub IsShifted : ℤ → AnyArray → AnyArray → Type 0
IsShifted offset array moved = any_array_meaning moved ≡ shifted_of offset array

-- two results of one call by two arrays
abbrev pub AreShifted : ℤ → AnyArray → AnyArray → AnyArray → AnyArray → Type 0
AreShifted offset array moved other other_moved = IsShifted offset array moved × IsShifted offset other other_moved

abbrev pub IsGathered : List Slot → AnyArray → AnyArray → Type 0
IsGathered indices array taken = any_array_meaning taken ≡ gathered_of indices array

abbrev pub IsChoice : List Slot → AnyArray → AnyArray → AnyArray → Type 0
IsChoice ps left right all = any_array_meaning all ≡ chosen_of ps left right

-- rows that fit their type
abbrev pub RowsFit : ArrowType × List Slot → Type 0
RowsFit meaning = Fits meaning.0 meaning.1

abbrev pub HasFitting : AnyArray → Type 0
HasFitting array = RowsFit (any_array_meaning array)

-- rows of each column that a predicate keeps
abbrev pub kept_columns : List Slot → List Layout → List (List Slot)
kept_columns ps columns = map (selected_rows (mask_of ps)) columns

-- a dense union of one field, of the null type, and so many rows of it
abbrev pub dense_nulls : ArrowType
dense_nulls = union Dense None (more_fields (field [] (plain null) true) no_fields)

abbrev pub dense_rows : ℕ → List Slot
dense_rows n = replicate n (Variant (pos 0) Null)

-- a struct or a union
abbrev pub IsStructOrUnion : ArrowType → Type 0
IsStructOrUnion (struct fs) = Unit {0}
IsStructOrUnion (union mode ids fs) = Unit {0}
IsStructOrUnion _ = ⊥

-- `can_take` holds exactly where the type is carried, and it holds of the type of each field
abbrev pub CanTakeByFields : ArrowType → Type 0
CanTakeByFields t = CanTake t ↔ (IsCarried t × All CanTake (field_types t))
