-- Rows of two arrays as a predicate chooses: in runs of rows of one of them, or of nulls, and why they are refused.
use Rattle.std.specs.Prelude.{◌≡◌, ◌-◌, ◌<◌, ◌≤◌, ◌⊎◌, ◌&&◌, ℕ, Bool, true, false, Option, Some, None, List, [], ◌∷◌, ◌++◌, length, map, slice_get, slice_index_or, if◌then◌else◌}
use Rattle.std.specs.List.{All, range_with_len}
use Rattle.arrow_types.specs.Fits.{Fits}
use Rattle.arrow_types.specs.Rows.{chosen, valid_at}
use Rattle.arrow_types.specs.Slot.{Slot, Null, Boolean}
use Rattle.arrow_memory.specs.Offsets.{last_of}
use Rattle.arrow_flat.specs.Parts.{Parts, FitsRows}
use Rattle.arrow_flat.specs.Pieces.{pieces}
use Rattle.arrow_arrays.specs.Any.{any_array_rows, any_array_type, layout_of}
use Rattle.arrow_arrays.specs.Crowded.{CrowdedRow, Unjoined}
use Rattle.arrow_arrays.specs.Layout.{Layout, rows, type_of_layout}
use Rattle.arrow_arrays.specs.ListParts.{ListParts}
use Rattle.arrow_arrays.specs.declared.array.any.AnyArray.{AnyArray}
use Rattle.arrow_flat_growable.specs.Grown.{Grown, CannotHold, FitsWith, named_rows, null_rows_of}
use Rattle.arrow_memory.specs.Ends.{ends_from}
use Rattle.arrow_flat_growable.specs.Ends.{concatenated}

-- a predicate and two lists, of which each is as long as the other two
abbrev pub AreOneLength : List Slot → List Slot → List Slot → Type 0
AreOneLength ps ls rs = (length ls ≡ length ps) × (length rs ≡ length ps)

-- the rows that are chosen do not fit the type
abbrev pub ChosenDoNotFit : List Slot → Layout → Layout → Type 0
ChosenDoNotFit ps l r = Fits (type_of_layout l) (chosen ps (rows l) (rows r) (type_of_layout l)) → ⊥

-- or one that is chosen of the right array is crowded behind the left one; of the left array no row is
abbrev pub ChosenIsCrowded : List Slot → Layout → Layout → Type 0
ChosenIsCrowded ps l r = (i : ℕ) × (slice_get ps i ≡ Some (Boolean false)) × CrowdedRow (l ∷ []) r i

abbrev pub CannotAppendChosen : List Slot → Layout → Layout → Type 0
CannotAppendChosen ps l r = ChosenDoNotFit ps l r ⊎ ChosenIsCrowded ps l r

-- or the dictionaries inside can't stand one behind the other
abbrev pub CannotChoose : List Slot → Layout → Layout → Type 0
CannotChoose ps l r = ChosenDoNotFit ps l r ⊎ (ChosenIsCrowded ps l r ⊎ Unjoined (l ∷ r ∷ []))

-- columns that are as long as a predicate
abbrev pub AreAsLong : List Slot → List AnyArray → Type 0
AreAsLong ps columns = All (λ column. length (any_array_rows column) ≡ length ps) columns

-- the rows that it chooses of each two columns
abbrev pub chosen_columns : List Slot → List AnyArray → List AnyArray → List (List Slot)
chosen_columns ps (l ∷ ls) (r ∷ rs) =
    chosen ps (any_array_rows l) (any_array_rows r) (any_array_type l) ∷ chosen_columns ps ls rs
chosen_columns ps _ _ = []

-- and why those of some two are refused
abbrev pub SomeCannotChoose : List Slot → List AnyArray → List AnyArray → Type 0
SomeCannotChoose ps ls rs =
    (f : ℕ) × (f < length ls) × ((d : AnyArray) → CannotChoose ps (layout_of (slice_index_or ls f d)) (layout_of (slice_index_or rs f d)))

-- a row of a predicate, null or not
abbrev pub truth_slot : Option Bool → Slot
truth_slot None = Null
truth_slot (Some is_left) = Boolean is_left

-- what a run of such rows chooses of the two arrays that are bound to a growable
abbrev pub run_rows : Grown → Option Bool → ℕ → ℕ → List Slot
run_rows g None row count = null_rows_of g count
run_rows g (Some true) row count = named_rows g 0 row count
run_rows g (Some false) row count = named_rows g 1 row count

-- and why that is refused
abbrev pub CannotHoldRun : Grown → Option Bool → ℕ → ℕ → Type 0
CannotHoldRun g None row count = FitsWith g (null_rows_of g count) → ⊥
CannotHoldRun g (Some true) row count = CannotHold g 0 row count
CannotHoldRun g (Some false) row count = CannotHold g 1 row count

-- the members of two lists that bits choose: those of the left one where a bit is set, and of the right one where it is not
abbrev pub chosen_by : {A : Type 0} → List Bool → List A → List A → List A
chosen_by (bit ∷ bits) (x ∷ xs) (y ∷ ys) = (if bit then x else y) ∷ chosen_by bits xs ys
chosen_by _ _ _ = []

-- whether the row that a predicate chooses at a place is valid, of arrays of these validities: it is where the predicate's row is, and the row of the side
abbrev pub valid_chosen : Parts (List Bool) → Option (List Bool) → Option (List Bool) → ℕ → Bool
valid_chosen p left right i =
    valid_at p.validity i && (if slice_index_or p.values i false then valid_at left i else valid_at right i)

-- a validity of all rows that are chosen
pub record MarksChosen (p : Parts (List Bool)) (left right validity : Option (List Bool)) : Type 0 where
  pub fits : FitsRows validity (length p.values)
  pub each : (i : ℕ) → i < length p.values → valid_at validity i ≡ valid_chosen p left right i

-- rows that lie between offsets in so many places are so many
abbrev pub IsLent : List ℕ → ℕ → ℕ → Type 0
IsLent offsets places count = (length offsets - 1 ≡ count) × (last_of offsets ≤ places)

-- a row of bytes or items under a validity: it has none where it is not valid
abbrev pub row_under : {A : Type 0} → Option (List Bool) → List (List A) → ℕ → List A
row_under validity rows i = if valid_at validity i then slice_index_or rows i [] else []

-- the row that bits choose at a place
abbrev pub row_chosen : {A : Type 0} → Option (List Bool) → List Bool → List (List A) → List (List A) → ℕ → List A
row_chosen validity bits ls rs i = row_under validity (if slice_index_or bits i false then ls else rs) i

-- so many rows by their places, from one on
abbrev pub rows_from : {A : Type 0} → (ℕ → List A) → ℕ → ℕ → List (List A)
rows_from row start count = map row (range_with_len start count)

-- all rows that bits choose
abbrev pub all_chosen : {A : Type 0} → Option (List Bool) → List Bool → List (List A) → List (List A) → List (List A)
all_chosen validity bits ls rs = rows_from (row_chosen validity bits ls rs) 0 (length bits)

-- the items of all rows of lists that a predicate chooses, under their validity
abbrev pub chosen_lists : Parts (List Bool) → ListParts → ListParts → Option (List Bool) → List (List Slot)
chosen_lists p l r validity =
    all_chosen validity p.values (pieces l.offsets (rows l.child)) (pieces r.offsets (rows r.child))

-- rows that come behind others: where they end, and their bytes or items
pub record AppendsRows {A : Type 0} (rows : List (List A)) (old_ends : List ℕ) (old_items : List A) (new_ends : List ℕ) (new_items : List A) : Type 0 where
  pub ends : new_ends ≡ old_ends ++ ends_from (last_of old_ends) (map length rows)
  pub items : new_items ≡ old_items ++ concatenated rows
