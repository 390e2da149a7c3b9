-- What a closure answers of rows that it is handed in chunks. It may answer otherwise the next time, so there are answers of which the bits are made, and no others are spoken of.
use Rattle.std.specs.Prelude.{◌≡◌, ◌+◌, ◌*◌, ◌<◌, ◌==◌, ℕ, Bool, false, Option, List, length, map, replicate, slice_index_or}
use Rattle.std.specs.Int.{bit_at}
use Rattle.std.specs.List.{range_with_len}
use Rattle.arrow_types.specs.Rows.{masked}
use Rattle.arrow_types.specs.Slot.{Slot, Boolean}
use Rattle.arrow_flat.specs.Parts.{Parts}
use Rattle.arrow_memory.specs.Sliced.{sliced}
use Rattle.arrow_memory.specs.Words.{word_of}

-- the eight values of chunk j; the last chunk is filled with a default
abbrev pub chunk_of : {A : Type 0} → A → List A → ℕ → List A
chunk_of default xs j = map (λ i. slice_index_or xs i default) (range_with_len (8 * j) 8)

-- what is answered to chunk j of values and to eight copies of another value
abbrev pub answers_chunk : {A : Type 0} → (List A → List A → ℕ → Type 0) → A → List A → A → ℕ → ℕ → Type 0
answers_chunk answered default xs r j byte = answered (chunk_of default xs j) (replicate 8 r) byte

-- each chunk may be handed on with eight copies of the value
abbrev pub TakesChunks : {A : Type 0} → (List A → List A → Type 0) → A → List A → A → Type 0
TakesChunks may default xs r = (j : ℕ) → 8 * j < length xs → may (chunk_of default xs j) (replicate 8 r)

-- what is answered to word j of truth values, the last filled with zeros, and to a word of another value
abbrev pub answers_word : (ℕ → ℕ → ℕ → Type 0) → List Bool → Bool → ℕ → ℕ → Type 0
answers_word answered xs r j word = answered (word_of (sliced xs (64 * j) 64)) (word_of (replicate 64 r)) word

-- each word may be handed on with a word of the value
abbrev pub TakesWords : (ℕ → ℕ → Type 0) → List Bool → Bool → Type 0
TakesWords may xs r = (j : ℕ) → 64 * j < length xs → may (word_of (sliced xs (64 * j) 64)) (word_of (replicate 64 r))

-- the lowest `size` bits of a number are those from a place on, as far as there are bits
abbrev pub HoldsBits : ℕ → ℕ → List Bool → ℕ → Type 0
HoldsBits size number bits place =
    (k : ℕ) → k < size → place + k < length bits → (bit_at number k == 1) ≡ slice_index_or bits (place + k) false

-- of each chunk of `size` rows a number was answered, of which bit k is that of row `size * j + k`
pub record Chunked (size : ℕ) (answered : ℕ → ℕ → Type 0) (len : ℕ) (bits : List Bool) : Type 0 where
  pub count : length bits ≡ len
  pub each : (j : ℕ) → size * j < len → (number : ℕ) × answered j number × HoldsBits size number bits (size * j)

-- of so many chunks of eight rows from one on a byte was answered, and the word holds these from its lowest byte on
pub record GathersBytes (answered : ℕ → ℕ → Type 0) (first count word : ℕ) : Type 0 where
  pub bits : List Bool
  pub long : length bits ≡ 8 * count
  pub is : word ≡ word_of bits
  pub each : (k : ℕ) → k < count → (byte : ℕ) × answered (first + k) byte × HoldsBits 8 byte bits (8 * k)

-- the rows are such bits, and Null where a validity says so ("Validity bitmaps")
pub record IsChunked (size : ℕ) (answered : ℕ → ℕ → Type 0) (validity : Option (List Bool)) (len : ℕ) (rows : List Slot) : Type 0 where
  pub bits : List Bool
  pub chunked : Chunked size answered len bits
  pub is : rows ≡ masked validity (map Boolean bits)

-- the rows that a closure answers of an array of numbers, and of one of truth values
abbrev pub AnswersChunks : {A : Type 0} → (List A → List A → ℕ → Type 0) → A → Parts (List A) → A → List Slot → Type 0
AnswersChunks answered default array r rows =
    IsChunked 8 (answers_chunk answered default array.values r) array.validity (length array.values) rows

abbrev pub AnswersByWords : (ℕ → ℕ → ℕ → Type 0) → Parts (List Bool) → Bool → List Slot → Type 0
AnswersByWords answered array r rows =
    IsChunked 64 (answers_word answered array.values r) array.validity (length array.values) rows
