-- Rows of bytes that are lent as slices: the offsets as they are stored, and the bytes.
use Rattle.std.specs.Prelude.{◌≡◌, ℕ, ℤ, pos, List, map, unsigned_abs}
use Rattle.arrow_flat.specs.ByteRows.{ByteParts, AreByteRows}

-- the rows that stored offsets name in bytes
abbrev pub lent_parts : {A : Type 0} → (A → ℤ) → List A → List ℕ → ByteParts
lent_parts number offsets bytes = record { offsets = map unsigned_abs (map number offsets); bytes = bytes }

-- no offset is negative, and the rows are as their kind asks
pub record AreLentRows {A : Type 0} (number : A → ℤ) (Allows : List ℕ → Type 0) (offsets : List A) (bytes : List ℕ) : Type 0 where
  pub natural : map number offsets ≡ map pos (map unsigned_abs (map number offsets))
  pub rows : AreByteRows Allows (lent_parts number offsets bytes)
