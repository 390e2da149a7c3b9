-- Runs of equal bits: in a word, and over words.
use Rattle.arrow_memory.proofs.Common.{◌≡◌, ℕ, zero, suc, ◌+◌, ◌-◌, ◌*◌, ◌/◌, ◌^◌, ◌<◌, ◌≤◌, ◌==◌, min, w64, Bool, true, false, not, Some, List, length, get_or, drop, replicate, ◌++◌, ap, sym, ◌∙◌, arith, inl, inr, nat_eq, slice_get, slice_get_within, get_or_from_slice_get, not-true, not-false, bit_at, bit_not, trailing_zeros, trailing_of_zero, cases_lt, zero-add, get_or-take, get_or-drop, get_or-map-range_with_len, bit_at-zero, bit_at-trailing_zeros, slice_get-get_or, flat_map, flat_map-cons, flat_map-append, mul-le-mul_right, replicate-append-replicate, sliced, is_set, bits_in, low_bits, word_of, IsWordAt, IsLowRun}
use Rattle.arrow_memory.proofs.AppendLemmas.{bit_at-shr}
use Rattle.arrow_memory.proofs.BitmapLemmas.{bit_of-word, run_is}
use Rattle.arrow_memory.proofs.LogicLemmas.{not_each}
use Rattle.arrow_memory.proofs.SlicedLemmas.{length-sliced}
use Rattle.arrow_memory.proofs.WordLemmas.{length-bits_in, get_or-bits_in, bits_in-add, length-low_bits, low_bits_add}

-- ---- in a word

pub low_zeros : (word count n : ℕ) → word < 2 ^ 64 → count ≤ 64 → n ≡ min count (trailing_zeros w64 word) → IsLowRun word count false n
low_zeros zero count n small most is =
    let none : trailing_zeros w64 zero ≡ 64 = trailing_of_zero 64 in
    record {
      within = omega arith;
      alike = λ i h. ap (λ b. nat_eq b 1) (bit_at-zero i);
      ends = λ h. absurd (omega (arith, none));
    }
low_zeros (suc word) count n small most is =
    let found = bit_at-trailing_zeros w64 (suc word) (omega arith) small in
    record {
      within = omega arith;
      alike = λ i h. ap (λ b. nat_eq b 1) (found.2 i (omega arith));
      ends = λ h.
          let at : n ≡ trailing_zeros w64 (suc word) = omega arith in
          ap (λ b. nat_eq b 1) (ap (bit_at (suc word)) at ∙ found.1);
    }

pub low_ones : (word count n : ℕ) → word < 2 ^ 64 → count ≤ 64 → n ≡ min count (trailing_zeros w64 (bit_not w64 word)) → IsLowRun word count true n
low_ones word count n small most is =
    let run = low_zeros (bit_not w64 word) count n (omega arith) most is in
    record {
      within = run.within;
      alike = λ i h. not-false (bit_at word i == 1) (sym (not_each word i small (omega (arith, run.within))) ∙ run.alike i h);
      ends = λ h. not-true (bit_at word n == 1) (sym (not_each word n small (omega arith)) ∙ run.ends h);
    }

-- so many equal bits
pub low_bits_run : (word count n : ℕ) (bit : Bool) → IsLowRun word count bit n → low_bits word n ≡ replicate n bit
low_bits_run word count n bit run =
    run_is (low_bits word n) n bit (length-low_bits word n) (λ i below. get_or-map-range_with_len (λ k. bit_at word k == 1) 0 n i i false below (zero-add i) ∙ run.alike i below)

-- a run of bits that are not set, one of set bits, and what is left
pub low_bits_runs : (word count unset set left : ℕ) → IsLowRun word count false unset → IsLowRun (word / 2 ^ unset) (count - unset) true set → unset + (set + left) ≡ count → low_bits word count ≡ replicate unset false ++ (replicate set true ++ low_bits (word / 2 ^ unset / 2 ^ set) left)
low_bits_runs word count unset set left before run all =
    let front = low_bits_run word count unset false before in
    let back = low_bits_run (word / 2 ^ unset) (count - unset) set true run in
    rw (← all, low_bits_add word unset (set + left), low_bits_add (word / 2 ^ unset) set left, front, back)

-- ---- over words

-- each value from one place up to another is equal to `bit`
abbrev pub AreEqual : (ℕ → Bool) → ℕ → ℕ → Bool → Type 0
AreEqual value start place bit = (i : ℕ) → start ≤ i → i < place → value i ≡ bit

-- as many more as a word begins with, whose bits are the values from the place on
pub equal_more : (value : ℕ → Bool) (start place count n word : ℕ) (bit : Bool) → AreEqual value start place bit → ((k : ℕ) → k < count → (bit_at word k == 1) ≡ value (place + k)) → IsLowRun word count bit n → AreEqual value start (place + n) bit
equal_more value start place count n word bit equal is run i from below =
    elim (cases_lt i place) as (λ _. value i ≡ bit) [
      | inl before ↦ equal i from before
      | inr after ↦
          let at : place + (i - place) ≡ i = omega arith in
          let in_run : i - place < n = omega arith in
          ap value (sym at) ∙ (sym (is (i - place) (omega (arith, run.within))) ∙ run.alike (i - place) in_run)
    ]

-- each bit from one place up to another is equal to `bit`
abbrev pub AreAlike : List Bool → ℕ → ℕ → Bool → Type 0
AreAlike bits start place bit = (i : ℕ) → start ≤ i → i < place → get_or bits i false ≡ bit

pub alike_are : (bits : List Bool) (start place : ℕ) (bit : Bool) → start ≤ place → place ≤ length bits → AreAlike bits start place bit → sliced bits start (place - start) ≡ replicate (place - start) bit
alike_are bits start place bit order within alike =
    run_is (sliced bits start (place - start)) (place - start) bit (length-sliced bits start (place - start) (omega arith)) (λ i below.
    get_or-take (place - start) (drop start bits) i false below ∙ (get_or-drop start bits i false ∙ alike (start + i) (omega arith) (omega arith)))

-- the bit behind them
pub ends_there : (bits : List Bool) (place count n word : ℕ) (bit : Bool) → place + count ≤ length bits → word ≡ word_of (sliced bits place count) → IsLowRun word count bit n → n < count → slice_get bits (place + n) ≡ Some (not bit)
ends_there bits place count n word bit within is run short =
    slice_get-get_or bits (place + n) false (omega arith) ∙ ap (λ b. Some b) (sym (bit_of-word bits place count word n short is) ∙ run.ends short)

not_itself : (b : Bool) → b ≡ not b → ⊥
not_itself true e = cc
not_itself false e = cc

-- the first bit is in the run
pub some_alike : (bits : List Bool) (start place n : ℕ) (bit : Bool) → slice_get bits start ≡ Some bit → start ≤ place → slice_get bits (place + n) ≡ Some (not bit) → start < place + n
some_alike bits start place n bit first order ends =
    elim (cases_lt start (place + n)) as (λ _. start < place + n) [
      | inl before ↦ before
      | inr after ↦
          let at : place + n ≡ start = omega arith in
          absurd (not_itself bit (cc (first, ends, at)))
    ]

-- bits that words hold
pub bits_equal : (words : List ℕ) (start place : ℕ) (bit : Bool) → start ≤ place → AreEqual (is_set words) start place bit → bits_in words start (place - start) ≡ replicate (place - start) bit
bits_equal words start place bit order equal =
    run_is (bits_in words start (place - start)) (place - start) bit (length-bits_in words start (place - start)) (λ i below.
    get_or-bits_in words start (place - start) i false below ∙ equal (start + i) (omega arith) (omega arith))

-- the bits of a word behind its first n ones
pub word_behind : (words : List ℕ) (place count n word : ℕ) → IsWordAt words place count word → IsWordAt words (place + n) (count - n) (word / 2 ^ n)
word_behind words place count n word is k below =
    let at : place + (n + k) ≡ place + n + k = omega arith in
    ap (λ b. nat_eq b 1) (bit_at-shr word n k) ∙ (is (n + k) (omega (arith, below)) ∙ ap (is_set words) at)

-- the bits that are left, cut in a run of bits that are not set, one of set bits, and the rest
pub cut_twice : (words : List ℕ) (start set next end : ℕ) → start ≤ set → set ≤ next → next ≤ end → bits_in words start (set - start) ≡ replicate (set - start) false → bits_in words set (next - set) ≡ replicate (next - set) true → bits_in words start (end - start) ≡ replicate (set - start) false ++ (replicate (next - set) true ++ bits_in words next (end - next))
cut_twice words start set next end low mid high unset is_run =
    let all : end - start ≡ set - start + (next - set + (end - next)) = omega arith in
    let at : start + (set - start) ≡ set = omega arith in
    let there : set + (next - set) ≡ next = omega arith in
    rw (all, bits_in-add words start (set - start) (next - set + (end - next)), at, bits_in-add words set (next - set) (end - next), there, unset, is_run)

-- what is left does not begin with a set bit
pub not_first : (words : List ℕ) (next end : ℕ) → (next < end → is_set words next ≡ false) → slice_get (bits_in words next (end - next)) 0 ≡ Some true → ⊥
not_first words next end longest first =
    let bits = bits_in words next (end - next) in
    let some = slice_get_within bits 0 true first in
    let before : next < end = omega (arith, length-bits_in words next (end - next)) in
    let at : next + 0 ≡ next = omega arith in
    let here = get_or-bits_in words next (end - next) 0 false (omega arith) ∙ (ap (is_set words) at ∙ longest before) in
    cc (get_or_from_slice_get bits 0 true false first, here)

-- ---- bits that are repeated

-- a run of equal bits, each repeated
repeated_run : (t n : ℕ) (bit : Bool) → flat_map (replicate t) (replicate n bit) ≡ replicate (n * t) bit
repeated_run t zero bit =
    let none : 0 ≡ zero * t = omega arith in
    ap (λ k. replicate k bit) none
repeated_run t (suc n) bit =
    let more : t + n * t ≡ suc n * t = omega arith in
    flat_map-cons (replicate t) bit (replicate n bit) ∙ (ap (λ xs. replicate t bit ++ xs) (repeated_run t n bit) ∙ (replicate-append-replicate t (n * t) bit ∙ ap (λ k. replicate k bit) more))

-- two runs and what is left behind them
pub repeated_runs : (t unset set : ℕ) (bits left : List Bool) → bits ≡ replicate unset false ++ (replicate set true ++ left) → flat_map (replicate t) bits ≡ replicate (unset * t) false ++ (replicate (set * t) true ++ flat_map (replicate t) left)
repeated_runs t unset set bits left is =
    let front = repeated_run t unset false in
    let back = repeated_run t set true in
    ap (flat_map (replicate t)) is ∙ (flat_map-append (replicate t) (replicate unset false) (replicate set true ++ left) ∙ (λ j. front j ++ (flat_map-append (replicate t) (replicate set true) left ∙ ap (λ xs. xs ++ flat_map (replicate t) left) back) j))

-- and how many they are
pub repeated_count : (t done unset set left len : ℕ) → done + unset + set + left ≡ len → done * t + unset * t + set * t ≤ len * t
repeated_count t done unset set left len all =
    let within : done + unset + set ≤ len = omega (arith, all) in
    omega (arith, mul-le-mul_right t within)
