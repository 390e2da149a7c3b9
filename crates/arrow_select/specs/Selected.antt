-- Rows of columns that a mask keeps, and values and bits at which a mask is set.
use Rattle.std.specs.Prelude.{◌≡◌, ◌+◌, ◌-◌, ◌<◌, ◌≤◌, ℕ, Bool, false, List, Option, Result, [], ◌∷◌, ◌++◌, Some, length, map, replicate, slice_get, slice_index, take, if◌then◌else◌, IsOkUnless, OnErr, OnOk}
use Rattle.std.specs.Int.{bit_at}
use Rattle.std.specs.List.{All}
use Rattle.arrow_types.specs.declared.error.Error.{Error}
use Rattle.arrow_types.specs.declared.error.Error.TheVariants.{OutOfMemory}
use Rattle.arrow_types.specs.Fits.{Fits}
use Rattle.arrow_types.specs.Rows.{masked, select}
use Rattle.arrow_types.specs.Slot.{Slot, Null, null_slot}
use Rattle.arrow_memory.specs.Offsets.{last_of}
use Rattle.arrow_memory.specs.Words.{low_bits}
use Rattle.arrow_arrays.specs.declared.array.any.AnyArray.{AnyArray}
use Rattle.arrow_arrays.specs.Any.{any_array_rows, any_array_type}
use Rattle.arrow_arrays.specs.Layout.{Layout, rows, type_of_layout}
use Rattle.arrow_flat_growable.specs.Ends.{row_length}

-- those of one column
abbrev pub selected_rows : List Bool → Layout → List Slot
selected_rows mask column = select mask (rows column)

-- those of some column do not fit its type, and those of each before it do
abbrev pub FirstDoesNotFit : List Bool → List Layout → Type 0
FirstDoesNotFit mask columns =
    (k : ℕ) × (column : Layout) × (slice_get columns k ≡ Some column) × All (λ c. Fits (type_of_layout c) (selected_rows mask c)) (take k columns) × (Fits (type_of_layout column) (selected_rows mask column) → ⊥)

-- those of rows under a validity
abbrev pub kept_rows_under : List Bool → Option (List Bool) → List Slot → List Slot
kept_rows_under mask validity xs = select mask (masked validity xs)

-- an array of the rows of another under a validity that a mask keeps; its type has a validity, so that a null slot is Null
pub record KeptUnder (mask : List Bool) (validity : Option (List Bool)) (column kept : AnyArray) : Type 0 where
  pub array_type : any_array_type kept ≡ any_array_type column
  pub rows : any_array_rows kept ≡ kept_rows_under mask validity (any_array_rows column)
  pub fits : Fits (any_array_type kept) (any_array_rows kept)
  pub null : null_slot (any_array_type column) ≡ Null

-- such arrays of columns
pub record KeptColumns (mask : List Bool) (validity : Option (List Bool)) (columns kept : List AnyArray) : Type 0 where
  pub types : map any_array_type kept ≡ map any_array_type columns
  pub rows : map any_array_rows kept ≡ map (λ column. kept_rows_under mask validity (any_array_rows column)) columns
  pub fits : All (λ column. Fits (any_array_type column) (kept_rows_under mask validity (any_array_rows column))) columns
  pub nulls : All (λ column. null_slot (any_array_type column) ≡ Null) columns

-- the members of a list at which a mask is set, in order
abbrev pub at_set : {A : Type 0} → List Bool → List A → List A
at_set (bit ∷ mask) (x ∷ xs) = if bit then x ∷ at_set mask xs else at_set mask xs
at_set _ _ = []

-- a bit for each item of the rows from row i on, which is that of its row
abbrev pub item_bits : List Bool → List ℕ → ℕ → List Bool
item_bits [] offsets i = []
item_bits (bit ∷ bits) offsets i = replicate (row_length offsets i) bit ++ item_bits bits offsets (i + 1)

-- of n items, set for those of rows at which a mask is set
abbrev pub item_mask : List Bool → List ℕ → ℕ → List Bool
item_mask mask offsets n =
    replicate (slice_index offsets 0) false ++ (item_bits mask offsets 0 ++ replicate (n - last_of offsets) false)

-- the values at which the bits of a word are set, from the least significant one on; bits past the values count for nothing
abbrev pub set_in_word : {A : Type 0} → ℕ → List A → List A
set_in_word word xs = at_set (low_bits word (length xs)) xs

-- a call that appends these, and leaves all as before where memory is refused
pub record AppendsOrStays {A : Type 0} (old new more : List A) (result : Result (Unit {0}) Error) : Type 0 where
  pub ok : OnOk result (new ≡ old ++ more)
  pub unchanged : OnErr result (new ≡ old)
  pub err : IsOkUnless result OutOfMemory

-- the bits of a word, from the least significant one on
unfoldable pub word_bits : ℕ → List Bool
word_bits word = low_bits word 64

-- the set bits of a word, of which there is one at least, are so many from a place on, one behind the other
pub record IsRunOf (word first count : ℕ) : Type 0 where
  pub some : 0 < count
  pub below : (k : ℕ) → k < first → bit_at word k ≡ 0
  pub ones : (k : ℕ) → k < count → bit_at word (first + k) ≡ 1
  pub above : (k : ℕ) → first + count ≤ k → bit_at word k ≡ 0

-- the lowest set bits of a word that lie one behind the other, from one place up to another, and the word without them
pub record IsLowestRun (word start end rest : ℕ) : Type 0 where
  pub rises : start < end
  pub within : end ≤ 64
  pub below : (i : ℕ) → i < start → bit_at word i ≡ 0
  pub ones : (i : ℕ) → start ≤ i → i < end → bit_at word i ≡ 1
  pub taken : (i : ℕ) → i < end → bit_at rest i ≡ 0
  pub above : (i : ℕ) → end ≤ i → bit_at rest i ≡ bit_at word i
  pub less : rest < word
