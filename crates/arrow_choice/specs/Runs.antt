-- A predicate that is walked a run of equal rows at a time, by words of 64 rows.
use Rattle.std.specs.Prelude.{◌≡◌, ◌+◌, ◌*◌, ◌/◌, ◌<◌, ◌≤◌, ◌==◌, ◌&&◌, ℕ, Bool, true, false, not, Option, Some, None, List, ◌++◌, length, map, replicate, slice_get, slice_index_or, if◌then◌else◌}
use Rattle.std.specs.Int.{bit_at}
use Rattle.arrow_types.specs.Slot.{Slot, Null, Boolean}
use Rattle.arrow_choice.specs.Choice.{truth_slot}
use Rattle.arrow_choice.specs.Sides.{side_of}

-- a row of a predicate by two bits: whether it is valid, and its value
abbrev pub truth_by : Bool → Bool → Slot
truth_by valid value = if valid then Boolean value else Null

-- whether the row is so: true, false or null
abbrev pub is_truth : Option Bool → Bool → Bool → Bool
is_truth None valid value = not valid
is_truth (Some true) valid value = valid && value
is_truth (Some false) valid value = valid && not value

-- the rows from row 64 j on by two words, as far as there are rows
pub record AreRowsOf (ps : List Slot) (j valid values : ℕ) : Type 0 where
  pub each : (k : ℕ) → k < 64 → 64 * j + k < length ps → slice_index_or ps (64 * j + k) Null ≡ truth_by (bit_at valid k == 1) (bit_at values k == 1)

-- a row that comes next, or the end, and the words in which it lies
pub record StandsAt (ps : List Slot) (row valid values : ℕ) : Type 0 where
  pub within : row ≤ length ps
  pub word : row < length ps → AreRowsOf ps (row / 64) valid values

-- of the rows of two words so many from one on are so, and the next one, if there is one, is not
pub record IsRunIn (valid values : ℕ) (truth : Option Bool) (place count : ℕ) : Type 0 where
  pub within : place + count ≤ 64
  pub alike : (k : ℕ) → place ≤ k → k < place + count → truth_by (bit_at valid k == 1) (bit_at values k == 1) ≡ truth_slot truth
  pub ends : place + count < 64 → side_of (truth_by (bit_at valid (place + count) == 1) (bit_at values (place + count) == 1)) ≡ side_of (truth_slot truth) → ⊥

-- the rows from one up to another are so, and the one behind them, if there is one, is not
pub record IsRunTo (ps : List Slot) (truth : Option Bool) (start end : ℕ) : Type 0 where
  pub some : start < end
  pub within : end ≤ length ps
  pub alike : (i : ℕ) → start ≤ i → i < end → slice_index_or ps i Null ≡ truth_slot truth
  pub ends : end < length ps → side_of (slice_index_or ps end Null) ≡ side_of (truth_slot truth) → ⊥

-- the longest run that begins with the row that comes next is taken from the rows that are left
pub record TakesRun (old new : ℕ × List Slot) (truth : Option Bool) (start count : ℕ) : Type 0 where
  pub first : start ≡ old.0
  pub some : 0 < count
  pub next : new.0 ≡ start + count
  pub rows : old.1 ≡ replicate count (truth_slot truth) ++ new.1
  pub longest : slice_get (map side_of new.1) 0 ≡ Some (side_of (truth_slot truth)) → ⊥
