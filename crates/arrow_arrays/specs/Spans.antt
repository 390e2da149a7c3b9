-- The rows of a child that a row of its array names: where they begin, and how many there are.
use Rattle.std.specs.Prelude.{◌≡◌, ℕ, Option, Some, None, List, slice_index_or}
use Rattle.arrow_types.specs.Slot.{Slot, Null, Dict}
use Rattle.arrow_memory.specs.Sliced.{sliced}
use Rattle.arrow_arrays.specs.Layout.{items_row}

-- the row of a list, by its items: no span where it is null
abbrev pub span_row : List Slot → Option (ℕ × ℕ) → Slot
span_row xs None = Null
span_row xs (Some span) = items_row (sliced xs span.0 span.1)

-- the row of a dictionary, by the one value that its key names
abbrev pub dict_row : List Slot → Option (ℕ × ℕ) → Slot
dict_row xs None = Null
dict_row xs (Some span) = Dict (slice_index_or xs span.0 Null)

-- two rows name the same rows of their children, or both are null
abbrev pub AreSameSpans : List Slot → Option (ℕ × ℕ) → List Slot → Option (ℕ × ℕ) → Type 0
AreSameSpans xs None ys None = Unit {0}
AreSameSpans xs (Some span) ys (Some other) = sliced xs span.0 span.1 ≡ sliced ys other.0 other.1
AreSameSpans xs _ ys _ = ⊥
