-- Bits that were answered chunk by chunk.
use Rattle.std.proofs.Common.{◌≡◌, ◌∙◌, ℕ, get_or, ◌+◌, ◌-◌, ◌*◌, ◌/◌, ◌%◌, ◌^◌, ◌<◌, ◌≤◌, min, Bool, false, List, [], ◌++◌, length, slice_index, arith, ap, sym, subst, refl, inl, inr}
use Rattle.std.specs.Prelude.{◌==◌, bit_or}
use Rattle.std.specs.Int.{bit_at, div_ceil}
use Rattle.std.specs.Int.Bits.{or_shifted_r}
use Rattle.std.proofs.Math.Nat.{pow-le-pow_right, mod-eq_of_lt}
use Rattle.std.proofs.Math.Pow.{shl_lt}
use Rattle.std.proofs.lemmas.Bool.{cases_lt}
use Rattle.std.proofs.lemmas.List.{get_or-append_right, get_or_append_left, length-append}
use Rattle.std.proofs.lemmas.List.FromFn.{get_or-map-range_with_len}
use Rattle.std.proofs.lemmas.Simd.{mask_l-lt}
use Rattle.arrow_memory.specs.Gathered.{AnswersWords}
use Rattle.arrow_memory.specs.Words.{is_set, low_bits, word_of}
use Rattle.arrow_memory.proofs.BitmapLemmas.{bit_of-word_of}
use Rattle.arrow_memory.proofs.WordLemmas.{length-low_bits, word_of-append, word_of-low_bits}
use Rattle.arrow_relate.specs.Chunked.{Chunked, GathersBytes, HoldsBits}
use Rattle.arrow_relate.proofs.WordLemmas.{answered_bit, answered_long}

-- ---- bytes above one another in a word

pub bytes_none : (answered : ℕ → ℕ → Type 0) (first : ℕ) → GathersBytes answered first 0 0
bytes_none answered first = record { bits = []; long = refl; is = refl; each = λ k below. absurd (omega (arith, below)) }

word_above : (xs ys : List Bool) (n low high : ℕ) → low ≡ word_of xs → length xs ≡ n → high ≡ word_of ys → bit_or low (high * 2 ^ n) ≡ word_of (xs ++ ys)
word_above xs ys n low high is long other =
    let small : low < 2 ^ n = rw (is, sym long) (mask_l-lt xs) in
    rw (or_shifted_r high n low small, word_of-append xs ys, long, is, other) (omega arith)

pub bytes_more : (answered : ℕ → ℕ → Type 0) (first k word byte : ℕ) → k < 8 → byte < 256 → GathersBytes answered first k word → answered (first + k) byte → GathersBytes answered first (k + 1) (bit_or word (byte * 2 ^ (8 * k) % 18446744073709551616))
bytes_more answered first k word byte below small so_far one =
    let bits = so_far.bits in
    let more = low_bits byte 8 in
    let size : length more ≡ 8 = length-low_bits byte 8 in
    let power = pow-le-pow_right {n = 2} (omega arith) {i = 8 + 8 * k} {j = 64} (omega (arith, below)) in
    let fits = shl_lt 8 (8 * k) small in
    let room : byte * 2 ^ (8 * k) % 18446744073709551616 ≡ byte * 2 ^ (8 * k) = omega (arith, power, fits) in
    let whole : byte ≡ word_of more = sym (word_of-low_bits byte 8 ∙ mod-eq_of_lt small) in
    record {
      bits = bits ++ more;
      long = omega (arith, length-append bits more, size, so_far.long);
      is = ap (bit_or word) room ∙ word_above bits more (8 * k) word byte so_far.is so_far.long whole;
      each = λ i within.
          elim (cases_lt i k) as (λ _. (byte : ℕ) × answered (first + i) byte × HoldsBits 8 byte (bits ++ more) (8 * i)) [
            | inl before ↦
                let old = so_far.each i before in (
                  old.0,
                  old.1,
                  λ b in_byte inside.
                      let there : 8 * i + b < length bits = omega (arith, before, in_byte, so_far.long) in
                      old.2 b in_byte there ∙ sym (get_or_append_left bits more false (8 * i + b) there),
                )
            | inr from ↦
                let here : i ≡ k = omega (arith, within, from) in (
                  byte,
                  subst (λ n. answered (first + n) byte) (sym here) one,
                  λ b in_byte inside.
                      let behind : 8 * k ≤ 8 * i + b = omega (arith, here) in
                      let place : 8 * i + b - 8 * k ≡ b = omega (arith, here) in
                      sym (get_or-append_right bits more (8 * k) (8 * i + b) false so_far.long behind ∙ (ap (λ n. get_or more n false) place ∙ get_or-map-range_with_len (λ n. bit_at byte n == 1) 0 8 b b false in_byte (omega arith))),
                )
          ];
    }

-- ---- all chunks

pub chunks_of_words : (by_word answered : ℕ → ℕ → Type 0) (len : ℕ) (bits : List Bool) → ((j word : ℕ) → by_word j word → GathersBytes answered (8 * j) (min 8 (div_ceil len 8 - 8 * j)) word) → AnswersWords by_word len bits → Chunked 8 answered len bits
chunks_of_words by_word answered len bits each all = record {
  count = answered_long by_word len bits all;
  each = λ c some.
      let j = c / 8 in
      let k = c % 8 in
      let word = slice_index all.words j in
      let gathered = each j word (all.each j (omega (arith, some))) in
      let within : k < min 8 (div_ceil len 8 - 8 * j) = omega (arith, some) in
      let place : 8 * j + k ≡ c = omega arith in
      let byte = gathered.each k within in (
        byte.0,
        subst (λ n. answered n byte.0) place byte.1,
        λ b in_byte inside.
            let row = 8 * c + b in
            let below : row < len = omega (arith, inside, answered_long by_word len bits all) in
            let index : row / 64 ≡ j = omega (arith, in_byte) in
            let bit : row % 64 ≡ 8 * k + b = omega (arith, in_byte) in
            let read : is_set all.words row ≡ get_or gathered.bits (8 * k + b) false = (λ i. bit_at (slice_index all.words (index i)) (bit i) == 1) ∙ (ap (λ w. bit_at w (8 * k + b) == 1) gathered.is ∙ bit_of-word_of gathered.bits (8 * k + b)) in
            byte.2 b in_byte (omega (arith, within, in_byte, gathered.long)) ∙ (sym read ∙ sym (answered_bit by_word len bits all row below)),
      );
}

-- words are chunks of 64
pub chunks_are_words : (by_word answered : ℕ → ℕ → Type 0) (len count : ℕ) (bits : List Bool) → len ≡ count → ((j word : ℕ) → by_word j word → answered j word) → AnswersWords by_word len bits → Chunked 64 answered count bits
chunks_are_words by_word answered len count bits same each all = rw (← same) record {
  count = answered_long by_word len bits all;
  each = λ j some. (
    slice_index all.words j,
    each j (slice_index all.words j) (all.each j some),
    λ k below inside.
        let row = 64 * j + k in
        let index : row / 64 ≡ j = omega (arith, below) in
        let bit : row % 64 ≡ k = omega (arith, below) in
        sym (answered_bit by_word len bits all row (omega (arith, inside, answered_long by_word len bits all)) ∙ (λ i. bit_at (slice_index all.words (index i)) (bit i) == 1)),
  );
}
