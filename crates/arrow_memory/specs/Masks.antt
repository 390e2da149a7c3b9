-- Masks: a bit for each of some rows, as a word where there are few.
use Rattle.std.specs.Prelude.{◌≡◌, ℕ, ◌<◌, ◌≤◌, Bool, Option, None, Some, List, length}
use Rattle.arrow_memory.specs.Words.{low_bits}

-- the bits of a bitmap, or, where there is none, the `len` lowest ones of a word
abbrev pub mask_in : Option (List Bool) → ℕ → ℕ → List Bool
mask_in None word len = low_bits word len
mask_in (Some bits) word len = bits

-- there is a bitmap where there are more bits than a word has
abbrev pub IsMask : Option (List Bool) → ℕ → Type 0
IsMask None len = len ≤ 64
IsMask (Some bits) len = (length bits ≡ len) × (64 < len)
