-- Worked offsets, and the bits of a word.
use Rattle.std.specs.Prelude.{◌≡◌, ◌∷◌, [], true, false, refl}
use Rattle.arrow_memory.specs.Offsets.{last_of, with_row, with_rows, with_valid_rows}
use Rattle.arrow_memory.specs.Words.{bits_in, word_of}

-- a row of 4 items, one of none, and one of 5
rows_one_by_one : with_row (with_row (with_row (0 ∷ []) 4) 0) 5 ≡ 0 ∷ 4 ∷ 4 ∷ 9 ∷ []
rows_one_by_one = refl

-- rows 1 and 2 of others, which begin at 13: one of no item and one of 5
rows_of_others : with_rows (0 ∷ 4 ∷ []) (10 ∷ 13 ∷ 13 ∷ 18 ∷ []) 1 2 ≡ 0 ∷ 4 ∷ 4 ∷ 9 ∷ []
rows_of_others = refl

-- three rows of others, of which the first and the last are null
rows_of_others_with_nulls : with_valid_rows (0 ∷ 4 ∷ []) (false ∷ true ∷ false ∷ []) (10 ∷ 13 ∷ 15 ∷ 20 ∷ []) 0 ≡ 0 ∷ 4 ∷ 4 ∷ 6 ∷ 6 ∷ []
rows_of_others_with_nulls = refl

-- offsets of no row, which need not be 0
ends_without_rows : last_of (7 ∷ []) ≡ 7
ends_without_rows = refl

-- the validity of [0, 1, null, 2, null, 3], after the example of Arrow's format ("Validity bitmaps"): 00101011, written with the least significant bit last
bits_of_a_word : bits_in (0b00101011 ∷ []) 0 6 ≡ true ∷ true ∷ false ∷ true ∷ false ∷ true ∷ []
unfolding bits_in
bits_of_a_word = refl

word_of_bits : word_of (true ∷ true ∷ false ∷ true ∷ false ∷ true ∷ []) ≡ 0b00101011
word_of_bits = refl
