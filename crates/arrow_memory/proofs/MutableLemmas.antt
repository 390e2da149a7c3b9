-- Bitmaps under construction.
use Rattle.arrow_memory.proofs.Common.{◌≡◌, ℕ, zero, suc, ◌+◌, ◌-◌, ◌^◌, Bool, true, false, List, ◌++◌, length, replicate, ap, sym, ◌∙◌, subst, refl, arith, length-append, div_ceil, pow-suc, get_or_past, pow_pos, bits_in, word_of, Reads, IsPadded, AppendsBits}
use Rattle.arrow_memory.proofs.AppendLemmas.{reads_padded}
use Rattle.arrow_memory.proofs.BitmapLemmas.{bits_in_is}
use Rattle.arrow_memory.proofs.WordLemmas.{length-bits_in}

-- words of so many bits, which contracts see
pub record PaddedAs (words : List ℕ) (len : ℕ) (bits : List Bool) : Type 0 where
  pub padded : IsPadded words len
  pub seen : bits_in words 0 len ≡ bits

-- bits that were put behind the others, in words that may have been reserved before
pub put_behind : {words kept new : List ℕ} {len total count : ℕ} {bits : List Bool} (ys : List Bool) → IsPadded words len → bits_in words 0 len ≡ bits → kept ≡ words → total ≡ len + count → length new ≡ div_ceil (len + count) 64 → length ys ≡ count → AppendsBits kept new len ys → PaddedAs new total (bits ++ ys)
put_behind {words} {new = new} {len} {total} ys padded seen same sum full many appends =
    let long = length-bits_in words 0 len in
    let all = bits_in words 0 len ++ ys in
    let reads = appends (bits_in words 0 len) (subst (λ ws. Reads ws (bits_in words 0 len)) (sym same) (reads_padded words len padded.zeros)) long in
    let whole : total ≡ length all = omega (arith, sum, many, long, length-append (bits_in words 0 len) ys) in
    record {
      padded = record { full = full ∙ ap (λ n. div_ceil n 64) (sym sum); zeros = λ i from. reads.each i ∙ get_or_past all i false (omega arith) };
      seen = rw whole (bits_in_is new all (λ i h. reads.each i)) ∙ ap (λ front. front ++ ys) seen;
    }

pub word_of-ones : (count : ℕ) → word_of (replicate count true) ≡ 2 ^ count - 1
word_of-ones zero = refl
word_of-ones (suc count) = omega (arith, word_of-ones count, pow-suc 2 count, pow_pos count)

pub word_of-zeros : (count : ℕ) → word_of (replicate count false) ≡ 0
word_of-zeros zero = refl
word_of-zeros (suc count) = omega (arith, word_of-zeros count)
