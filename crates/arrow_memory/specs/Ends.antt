-- Rows by their lengths: how long they are under the bits of a word, and where they end ("Variable-size Binary Layout").
use Rattle.std.specs.Prelude.{ℕ, ◌+◌, ◌==◌, List, [], ◌∷◌, map}
use Rattle.std.specs.Int.{bit_at}
use Rattle.std.specs.List.{range_with_len}
use Rattle.arrow_memory.specs.Offsets.{valid_length}

-- where rows of such lengths end, of which the first begins at a place
abbrev pub ends_from : ℕ → List ℕ → List ℕ
ends_from place [] = []
ends_from place (n ∷ lengths) = (place + n) ∷ ends_from (place + n) lengths

-- how long row `start + k` is under offsets, and 0 where bit k of a word is not set
abbrev pub word_length : ℕ → List ℕ → ℕ → ℕ → ℕ
word_length word offsets start k = valid_length (bit_at word k == 1) offsets (start + k)

-- how long each of `count` rows is from row `start` on
abbrev pub word_lengths : ℕ → List ℕ → ℕ → ℕ → List ℕ
word_lengths word offsets start count = map (word_length word offsets start) (range_with_len 0 count)
