-- How bits lie in memory: in 64-bit words, the least significant bit first. On a little-endian machine these are the bytes of Arrow's format ("Validity bitmaps").
use Rattle.std.specs.Prelude.{◌≡◌, ℕ, ◌+◌, ◌*◌, ◌/◌, ◌%◌, ◌<◌, ◌≤◌, ◌^◌, ◌==◌, Bool, false, not, List, ◌++◌, length, map, slice_index, slice_index_or, count_by}
use Rattle.std.specs.Int.{bit_at, div_ceil}
use Rattle.std.specs.List.{range_with_len}
use Rattle.std.specs.Simd.Lanes.{mask_l}

-- whether a bit of the words is set
abbrev pub is_set : List ℕ → ℕ → Bool
is_set words place = bit_at (slice_index words (place / 64)) (place % 64) == 1

-- the `len` bits from a place on
unfoldable pub bits_in : List ℕ → ℕ → ℕ → List Bool
bits_in words offset len = map (is_set words) (range_with_len offset len)

-- the number whose bit k is bits[k]
abbrev pub word_of : List Bool → ℕ
word_of = mask_l

-- the `len` lowest bits of a word
abbrev pub low_bits : ℕ → ℕ → List Bool
low_bits word len = map (λ k. bit_at word k == 1) (range_with_len 0 len)

-- how many bits are set
abbrev pub set_count : List Bool → ℕ
set_count = count_by (λ bit. bit)

-- the words have these bits, and each place is a `usize`
pub record Holds (words : List ℕ) (offset len : ℕ) : Type 0 where
  pub within : offset + len ≤ 64 * length words
  pub fits : offset + len < 2 ^ 64

-- the words hold these bits, and zeros behind them
pub record Reads (words : List ℕ) (bits : List Bool) : Type 0 where
  pub each : (i : ℕ) → is_set words i ≡ slice_index_or bits i false

-- the new words are the old ones with so many bits, given as a word, behind those that they held before a place
abbrev pub AppendsWord : List ℕ → List ℕ → ℕ → ℕ → ℕ → Type 0
AppendsWord old new place word count =
    (xs ys : List Bool) → Reads old xs → length xs ≡ place → word ≡ word_of ys → length ys ≡ count → Reads new (xs ++ ys)

-- the same of bits of any number
abbrev pub AppendsBits : List ℕ → List ℕ → ℕ → List Bool → Type 0
AppendsBits old new place ys = (xs : List Bool) → Reads old xs → length xs ≡ place → Reads new (xs ++ ys)

-- the `count` lowest bits of a word are those of the words from a place on
abbrev pub IsWordAt : List ℕ → ℕ → ℕ → ℕ → Type 0
IsWordAt words place count word = (k : ℕ) → k < count → (bit_at word k == 1) ≡ is_set words (place + k)

-- the words have bits that are left, of which the first `count` are those of a word
pub record AreRuns (words : List ℕ) (place left word count : ℕ) : Type 0 where
  pub holds : Holds words place left
  pub in_word : count ≤ 64
  pub within : count ≤ left
  pub bits : IsWordAt words place count word

-- of the `count` lowest bits of a word the first n are equal to a bit, and the next one, if there is one, is not
pub record IsLowRun (word count : ℕ) (bit : Bool) (n : ℕ) : Type 0 where
  pub within : n ≤ count
  pub alike : (i : ℕ) → i < n → (bit_at word i == 1) ≡ bit
  pub ends : n < count → (bit_at word n == 1) ≡ not bit

-- the words of so many bits, and no more words than these need: behind the bits come zeros
pub record IsPadded (words : List ℕ) (len : ℕ) : Type 0 where
  pub full : length words ≡ div_ceil len 64
  pub zeros : (i : ℕ) → len ≤ i → is_set words i ≡ false
