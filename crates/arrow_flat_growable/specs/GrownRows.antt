-- Rows that grow, one behind the other, in values of any kind: in bytes, or in the rows of a child ("Variable-size Binary Layout", "Variable-size List Layout").
use Rattle.std.specs.Prelude.{ℕ, ◌≡◌, ◌+◌, ◌-◌, ◌<◌, ◌≤◌, ◌++◌, Bool, false, List, [], ◌∷◌, length, sum_by, slice_index, slice_index_or, if◌then◌else◌}
use Rattle.std.specs.List.{All}
use Rattle.arrow_memory.specs.Offsets.{last_of}
use Rattle.arrow_memory.specs.Sliced.{sliced}
use Rattle.arrow_flat.specs.Pieces.{pieces}

-- each row where its bit is set, and an empty one where it is not
abbrev pub filled : {A : Type 0} → List Bool → List (List A) → List (List A)
filled (valid ∷ bits) (row ∷ rows) = (if valid then row else []) ∷ filled bits rows
filled _ _ = []

-- the values of the rows from row i on, one for each bit, whose bit is set
abbrev pub valid_values : {A : Type 0} → List Bool → List ℕ → List A → ℕ → List A
valid_values [] offsets xs i = []
valid_values (bit ∷ bits) offsets xs i =
    (if bit then sliced xs (slice_index offsets i) (slice_index offsets (i + 1) - slice_index offsets i) else []) ++ valid_values bits offsets xs (i + 1)

-- each row from one place up to another is empty whose bit is not set
abbrev pub AreEmptyNulls : List Bool → List ℕ → ℕ → ℕ → Type 0
AreEmptyNulls bits offsets start end =
    (i : ℕ) → start ≤ i → i < end → slice_index_or bits i false ≡ false → slice_index offsets (i + 1) ≡ slice_index offsets i

-- how many values all rows have
abbrev pub total : {A : Type 0} → List (List A) → ℕ
total rows = sum_by length rows

-- the rows begin with the first value and end with the last, and each is one that is allowed
pub record AreGrown {A : Type 0} (Allows : List A → Type 0) (offsets : List ℕ) (values : List A) : Type 0 where
  pub begins : slice_index offsets 0 ≡ 0
  pub ends : last_of offsets ≡ length values
  pub rows : All Allows (pieces offsets values)
