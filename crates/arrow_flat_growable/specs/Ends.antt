-- Rows of bytes or items that lie one behind the other: how long they are, and what they are ("Variable-size Binary Layout").
use Rattle.std.specs.Prelude.{ℕ, ◌+◌, ◌-◌, List, [], ◌∷◌, ◌++◌, slice_index}
use Rattle.arrow_memory.specs.Sliced.{sliced}

-- the members of rows, one row behind the other
abbrev pub concatenated : {A : Type 0} → List (List A) → List A
concatenated [] = []
concatenated (row ∷ rows) = row ++ concatenated rows

-- how long a row is
abbrev pub row_length : List ℕ → ℕ → ℕ
row_length offsets row = slice_index offsets (row + 1) - slice_index offsets row

-- the bytes or items of a row
abbrev pub row_in : {A : Type 0} → List ℕ → List A → ℕ → List A
row_in offsets items row = sliced items (slice_index offsets row) (row_length offsets row)
