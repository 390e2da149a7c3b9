-- Rows of truth values in words, for private functions.
use Rattle.std.specs.Prelude.{◌≡◌, ◌+◌, ◌*◌, ◌<◌, ◌==◌, ℕ, Some, List, length, slice_get}
use Rattle.std.specs.Int.{bit_at}
use Rattle.arrow_types.specs.Slot.{Slot, Boolean}

-- bit k of word j is row 64 j + k
abbrev pub IsWordOf : List Slot → ℕ → ℕ → Type 0
IsWordOf rows j word = (k : ℕ) → k < 64 → 64 * j + k < length rows → slice_get rows (64 * j + k) ≡ Some (Boolean (bit_at word k == 1))
