-- Bits that are gathered in words.
use Rattle.arrow_memory.proofs.Common.{arith, ◌≡◌, ℕ, ◌*◌, ◌%◌, ◌^◌, ◌<◌, ◌==◌, Bool, false, List, [], ◌∷◌, ◌++◌, length, ap, sym, ◌∙◌, bit_or, bit_at, from_bool, get_or_default, same_lists, get_or-map-range_with_len, low_bits, word_of}
use Rattle.arrow_memory.proofs.BitmapLemmas.{bit_of-word_of}
use Rattle.arrow_memory.proofs.WordLemmas.{length-low_bits, one_bit, word_and_more}

-- one more bit above those of a word
pub word_more : (xs : List Bool) (b : Bool) (word k : ℕ) → length xs ≡ k → k < 64 → word ≡ word_of xs → bit_or word (from_bool b * 2 ^ k % 18446744073709551616) ≡ word_of (xs ++ b ∷ [])
word_more xs b word k long below is = word_and_more xs (b ∷ []) word (from_bool b) k 64 is long (omega arith) (one_bit b)

-- the bits of a word that was made of them
pub bits_of_word : (xs : List Bool) (word n : ℕ) → word ≡ word_of xs → length xs ≡ n → low_bits word n ≡ xs
bits_of_word xs word n is long =
    let size = length-low_bits word n in
    same_lists _ _ (size ∙ sym long)
    (λ k d within.
    let below : k < n = omega (arith, within, size) in
    get_or-map-range_with_len (λ k. bit_at word k == 1) 0 n k k d below (omega arith) ∙ (ap (λ w. bit_at w k == 1) is ∙ (bit_of-word_of xs k ∙ get_or_default xs k false d (omega (arith, below, long)))))

-- a word that was made of so few bits is that of its lowest ones
pub own_bits : (xs : List Bool) (word n : ℕ) → word ≡ word_of xs → length xs ≡ n → word ≡ word_of (low_bits word n)
own_bits xs word n is long = is ∙ ap word_of (sym (bits_of_word xs word n is long))
