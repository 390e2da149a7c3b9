-- What closures answer, gathered in words and in bits.
use Rattle.arrow_memory.proofs.Common.{◌≡◌, ◌∙◌, ℕ, get_or, ◌+◌, ◌-◌, ◌*◌, ◌/◌, ◌%◌, ◌^◌, ◌<◌, ◌==◌, min, Bool, false, List, [], ◌∷◌, ◌++◌, length, slice_index, arith, ap, sym, subst, refl, inl, inr, zero-add, add-zero, bit_or, bit_at, from_bool, common_steps, cases_lt, get_or_append_left, get_or-append_right, length_push, AnswersBits, AnswersWords, GathersBits, is_set}
use Rattle.arrow_memory.proofs.BitmapLemmas.{bit_of-word_of}
use Rattle.arrow_memory.proofs.WordLemmas.{get_or-bits_in, length-bits_in, one_bit, word_and_more}

-- what is said of each member of two lists holds of one list behind the other
each_behind : {A : Type 0} (P : ℕ → A → Type 0) (xs ys : List A) (d : A) (n m : ℕ) → length xs ≡ n → ((i : ℕ) → i < n → P i (get_or xs i d)) → ((i : ℕ) → i < m → P (n + i) (get_or ys i d)) → (i : ℕ) → i < n + m → P i (get_or (xs ++ ys) i d)
each_behind P xs ys d n m long front back i within =
    elim (cases_lt i n) as (λ _. P i (get_or (xs ++ ys) i d)) [
      | inl before ↦ subst (P i) (sym (get_or_append_left xs ys d i (omega arith))) (front i before)
      | inr from ↦
          let at : n + (i - n) ≡ i = omega arith in
          rw (get_or-append_right xs ys n i d long from) (subst (λ k. P k (get_or ys (i - n) d)) at (back (i - n) (omega arith)))
    ]

each_pushed : {A : Type 0} (P : ℕ → A → Type 0) (xs : List A) (y d : A) (n : ℕ) → length xs ≡ n → ((i : ℕ) → i < n → P i (get_or xs i d)) → P n y → (i : ℕ) → i < n + 1 → P i (get_or (xs ++ y ∷ []) i d)
each_pushed P xs y d n long front last =
    each_behind P xs (y ∷ []) d n 1 long front (λ i below.
    let first : 0 ≡ i = omega arith in
    subst (λ k. P (n + k) (get_or (y ∷ []) k d)) first (rw (add-zero n) last))

-- ---- the bits of one word

pub gathers_none : (answered : ℕ → Bool → Type 0) (start : ℕ) → GathersBits answered start 0 0
gathers_none answered start = record { bits = []; long = refl; is = refl; each = λ k below. absurd (omega (arith, below)) }

-- one more, in a word of so many bits
pub gathers_more : (answered : ℕ → Bool → Type 0) (start k word w : ℕ) (bit : Bool) → k < w → GathersBits answered start k word → answered (start + k) bit → GathersBits answered start (k + 1) (bit_or word (from_bool bit * 2 ^ k % 2 ^ w))
gathers_more answered start k word w bit below so_far one = record {
  bits = so_far.bits ++ bit ∷ [];
  long = grind (arith, common_steps, so_far.long);
  is = word_and_more so_far.bits (bit ∷ []) word (from_bool bit) k w so_far.is so_far.long (omega arith) (one_bit bit);
  each = each_pushed (λ i. answered (start + i)) so_far.bits bit false k so_far.long so_far.each one;
}

-- two words, one above the other
pub gathers_both : (answered : ℕ → Bool → Type 0) (start low high : ℕ) → GathersBits answered start 32 low → GathersBits answered (start + 32) 32 high → GathersBits answered start 64 (bit_or low (high * 4294967296 % 18446744073709551616))
gathers_both answered start low high first second = record {
  bits = first.bits ++ second.bits;
  long = grind (arith, common_steps, first.long, second.long);
  is = word_and_more first.bits second.bits low high 32 64 first.is first.long (omega (arith, second.long)) second.is;
  each = each_behind (λ i. answered (start + i)) first.bits second.bits false 32 32 first.long first.each (λ i below.
      let place : start + 32 + i ≡ start + (32 + i) = omega arith in
      subst (λ row. answered row (get_or second.bits i false)) place (second.each i below));
}

pub gathers_all : (answered : ℕ → Bool → Type 0) (start k count word : ℕ) → k ≡ count → GathersBits answered start k word → GathersBits answered start count word
gathers_all answered start k count word all gathered = subst (λ n. GathersBits answered start n word) all gathered

-- ---- words one behind the other

-- the words that were answered so far
pub record AnswersUpTo (answered : ℕ → ℕ → Type 0) (words : List ℕ) (j : ℕ) : Type 0 where
  pub long : length words ≡ j
  pub each : (i : ℕ) → i < j → answered i (slice_index words i)

pub answers_more : (answered : ℕ → ℕ → Type 0) (words : List ℕ) (j word : ℕ) → AnswersUpTo answered words j → answered j word → AnswersUpTo answered (words ++ word ∷ []) (j + 1)
answers_more answered words j word so_far one = record {
  long = omega (arith, length_push words word, so_far.long);
  each = each_pushed answered words word 0 j so_far.long so_far.each one;
}

-- bits that were answered a word at a time, each word a row at a time
pub rows_by_words : (by_word : ℕ → ℕ → Type 0) (by_row : ℕ → Bool → Type 0) (len : ℕ) (bits : List Bool) → ((j word : ℕ) → by_word j word → GathersBits by_row (64 * j) (min 64 (len - 64 * j)) word) → AnswersWords by_word len bits → AnswersBits by_row len bits
rows_by_words by_word by_row len bits each all = record {
  count = ap length all.first ∙ length-bits_in all.words 0 len;
  each = λ row below.
      let j = row / 64 in
      let k = row % 64 in
      let word = slice_index all.words j in
      let gathered = each j word (all.each j (omega (arith, below))) in
      let place : 64 * j + k ≡ row = omega arith in
      let within : k < min 64 (len - 64 * j) = omega (arith, below) in
      let read : get_or bits row false ≡ get_or gathered.bits k false = ap (λ xs. get_or xs row false) all.first ∙ (get_or-bits_in all.words 0 len row false below ∙ (ap (is_set all.words) (zero-add row) ∙ (ap (λ w. bit_at w k == 1) gathered.is ∙ bit_of-word_of gathered.bits k))) in
      subst (by_row row) (sym read) (subst (λ n. by_row n (get_or gathered.bits k false)) place (gathered.each k within));
}
