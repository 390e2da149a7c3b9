-- Bits that a closure answers. It may answer otherwise the next time, so there are answers of which they are made, and no others are spoken of.
use Rattle.std.specs.Prelude.{◌≡◌, ◌+◌, ◌*◌, ◌<◌, ℕ, Bool, false, List, length, slice_index, slice_index_or}
use Rattle.arrow_memory.specs.Words.{bits_in, word_of}

-- of each row its bit was answered
pub record AnswersBits (answered : ℕ → Bool → Type 0) (len : ℕ) (bits : List Bool) : Type 0 where
  pub count : length bits ≡ len
  pub each : (row : ℕ) → row < len → answered row (slice_index_or bits row false)

-- of each 64 rows a word was answered, and the bits are those of these words, as far as there are rows
pub record AnswersWords (answered : ℕ → ℕ → Type 0) (len : ℕ) (bits : List Bool) : Type 0 where
  pub words : List ℕ
  pub each : (j : ℕ) → 64 * j < len → answered j (slice_index words j)
  pub first : bits ≡ bits_in words 0 len

-- the word holds the bits that were answered of so many rows from one on, from its lowest bit on, with zeros above
pub record GathersBits (answered : ℕ → Bool → Type 0) (start count word : ℕ) : Type 0 where
  pub bits : List Bool
  pub long : length bits ≡ count
  pub is : word ≡ word_of bits
  pub each : (k : ℕ) → k < count → answered (start + k) (slice_index_or bits k false)
