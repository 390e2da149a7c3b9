-- Masks, and the bits of a word as those of a mask.
use Rattle.arrow_memory.proofs.Common.{◌≡◌, ℕ, ◌+◌, ◌<◌, ◌≤◌, ◌==◌, Bool, Option, None, Some, List, length, ap, sym, ◌∙◌, arith, bit_at, range_with_len, paired, IsMask, mask_in, low_bits}
use Rattle.arrow_memory.proofs.LogicLemmas.{pairs}
use Rattle.arrow_memory.proofs.WordLemmas.{length-low_bits, map_alike}

-- a bit for each row
pub mask_length : (bits : Option (List Bool)) (word len : ℕ) → IsMask bits len → length (mask_in bits word len) ≡ len
mask_length None word len few = length-low_bits word len
mask_length (Some bits) word len many = many.0

-- few bits are those of the word
pub own_bits_of : (bits : Option (List Bool)) (word len : ℕ) (seen : List Bool) → IsMask bits len → mask_in bits word len ≡ seen → length seen ≤ 64 → low_bits word (length seen) ≡ seen
own_bits_of None word len seen few is within = ap (low_bits word) (ap length (sym is) ∙ length-low_bits word len) ∙ is
own_bits_of (Some bits) word len seen many is within = absurd (omega (arith, within, many.0, many.1, ap length is))

-- both bits of two words
pub both_of_words : (give : Bool → Bool → Bool) (left right word len : ℕ) → ((k : ℕ) → k < 64 → (bit_at word k == 1) ≡ give (bit_at left k == 1) (bit_at right k == 1)) → len ≤ 64 → low_bits word len ≡ paired give (low_bits left len) (low_bits right len)
both_of_words give left right word len each few =
    map_alike (λ k. bit_at word k == 1) (λ k. give (bit_at left k == 1) (bit_at right k == 1)) 0 0 len (λ k below. each (0 + k) (omega arith)) ∙ sym (pairs (λ k. bit_at left k == 1) (λ k. bit_at right k == 1) give (range_with_len 0 len))
