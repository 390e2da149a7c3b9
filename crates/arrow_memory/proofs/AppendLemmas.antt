-- Bits that are appended a word at a time.
use Rattle.arrow_memory.proofs.Common.{◌≡◌, ℕ, ◌+◌, ◌-◌, ◌*◌, ◌/◌, ◌%◌, ◌^◌, ◌<◌, ◌≤◌, ◌==◌, Bool, true, false, ◌||◌, List, [], ◌∷◌, ◌++◌, length, get_or, take, drop, replicate, zero, suc, refl, ap, sym, ◌∙◌, subst, arith, slice_index, inl, inr, zero-add, append_assoc, length-append, post_of, bit_or, set, bit_at, cases_lt, cases_eq, get_or-set_same, get_or-set_other, get_or_append_left, get_or-append_right, get_or_past, get_or-take, get_or-drop, length-set, length-take, length-take-le, length-drop, take_all, take_at, drop_all, take-append-drop, append-nil, nil_from_length, length-replicate, replicate-append-replicate, shr-shr, pow_pos, bit_at-zero, mask_l-lt, add-mul-div_left, div-eq_of_lt, is_set, bits_in, word_of, Reads, AppendsWord, AppendsBits}
use Rattle.arrow_memory.proofs.BitmapLemmas.{bit_of-word_of}
use Rattle.arrow_memory.proofs.LogicLemmas.{or_each}
use Rattle.arrow_memory.proofs.WordLemmas.{length-bits_in, get_or-bits_in, word_of-append, bit_alone, bit_at-shl_low, bit_at-shl_high}

-- ---- one word written by `|=`

set_or-here : (words : List ℕ) (index v i : ℕ) → index < length words → i / 64 ≡ index → is_set (set words index (bit_or (slice_index words index) v)) i ≡ (is_set words i || (bit_at v (i % 64) == 1))
set_or-here words index v i within here =
    let k = i % 64 in
    let old = slice_index words index in
    let read : slice_index (set words index (bit_or old v)) (i / 64) ≡ bit_or old v = rw here (get_or-set_same words index (bit_or old v) 0 within) in
    let same : slice_index words (i / 64) ≡ old = ap (slice_index words) here in
    ap (λ w. bit_at w k == 1) read ∙ (or_each old v k ∙ ap (λ w. (bit_at w k == 1) || (bit_at v k == 1)) (sym same))

set_or-there : (words : List ℕ) (index v i : ℕ) → (i / 64 ≡ index → ⊥) → is_set (set words index v) i ≡ is_set words i
set_or-there words index v i there = ap (λ w. bit_at w (i % 64) == 1) (get_or-set_other words index (i / 64) v 0 there)

pub bit_at-shr : (word m k : ℕ) → bit_at (word / 2 ^ m) k ≡ bit_at word (m + k)
bit_at-shr word m k = ap (λ x. x % 2) (shr-shr word m k)

or-false : (b : Bool) → (b || (0 == 1)) ≡ b
or-false true = refl
or-false false = refl

-- ---- words that hold some bits

-- a bit of the words for each, and zeros behind them
reads_each : (words : List ℕ) (bits : List Bool) (n : ℕ) → length bits ≤ n → ((i : ℕ) → i < n → is_set words i ≡ get_or bits i false) → ((i : ℕ) → n ≤ i → is_set words i ≡ false) → Reads words bits
reads_each words bits n within each zeros =
    record {
      each = λ i.
          elim (cases_lt i n) as (λ _. is_set words i ≡ get_or bits i false) [
            | inl below ↦ each i below
            | inr past ↦ zeros i past ∙ sym (get_or_past bits i false (omega arith))
          ];
    }

-- the same of bits behind others
reads_both : (words : List ℕ) (xs ys : List Bool) (n : ℕ) → length xs ≡ n → ((i : ℕ) → i < n → is_set words i ≡ get_or xs i false) → ((i : ℕ) → n ≤ i → is_set words i ≡ get_or ys (i - n) false) → Reads words (xs ++ ys)
reads_both words xs ys n long front back =
    record {
      each = λ i.
          elim (cases_lt i n) as (λ _. is_set words i ≡ get_or (xs ++ ys) i false) [
            | inl below ↦ front i below ∙ sym (get_or_append_left xs ys false i (omega arith))
            | inr from ↦ back i from ∙ sym (get_or-append_right xs ys n i false long from)
          ];
    }

-- ---- what `append_word` leaves

-- as many bits as the word has room for, in which they begin
pub first_part : (words : List ℕ) (xs ys : List Bool) (place word : ℕ) → Reads words xs → length xs ≡ place → word ≡ word_of ys → place / 64 < length words
    → Reads (set words (place / 64) (bit_or (slice_index words (place / 64)) (word * 2 ^ (place % 64) % 2 ^ 64))) (xs ++ take (64 - place % 64) ys)
first_part words xs ys place word reads long is within =
    let index = place / 64 in
    let shift = place % 64 in
    let v = word * 2 ^ shift % 2 ^ 64 in
    let new = set words index (bit_or (slice_index words index) v) in
    reads_both new xs (take (64 - shift) ys) place long
    (λ i before. elim (cases_eq (i / 64) index) as (λ _. is_set new i ≡ get_or xs i false) [
      | inl here ↦ set_or-here words index v i within here ∙ (ap (λ x. is_set words i || (x == 1)) (bit_at-shl_low word shift (i % 64) (omega arith) (omega arith)) ∙ (or-false (is_set words i) ∙ reads.each i))
      | inr there ↦ set_or-there words index (bit_or (slice_index words index) v) i there ∙ reads.each i
    ])
    (λ i from.
    let clear = reads.each i ∙ get_or_past xs i false (omega arith) in
    elim (cases_eq (i / 64) index) as (λ _. is_set new i ≡ get_or (take (64 - shift) ys) (i - place) false) [
      | inl here ↦
          let at : i % 64 - shift ≡ i - place = omega arith in
          let bit = bit_at-shl_high word shift (i % 64) (omega arith) (omega arith) ∙ (λ t. bit_at (is t) (at t)) in
          set_or-here words index v i within here ∙ ((λ t. clear t || (bit t == 1)) ∙ (bit_of-word_of ys (i - place) ∙ sym (get_or-take (64 - shift) ys (i - place) false (omega arith))))
      | inr there ↦ set_or-there words index (bit_or (slice_index words index) v) i there ∙ (clear ∙ sym (get_or_past (take (64 - shift) ys) (i - place) false (omega (arith, length-take (64 - shift) ys))))
    ])

-- the bits end within the word in which they begin
pub one_word : (words : List ℕ) (xs ys : List Bool) (place word : ℕ) → Reads words xs → length xs ≡ place → word ≡ word_of ys → place / 64 < length words → place % 64 + length ys ≤ 64
    → Reads (set words (place / 64) (bit_or (slice_index words (place / 64)) (word * 2 ^ (place % 64) % 2 ^ 64))) (xs ++ ys)
one_word words xs ys place word reads long is within short =
    let all : take (64 - place % 64) ys ≡ ys = take_all (64 - place % 64) ys (omega arith) in
    subst (λ bits. Reads (set words (place / 64) (bit_or (slice_index words (place / 64)) (word * 2 ^ (place % 64) % 2 ^ 64))) (xs ++ bits)) all (first_part words xs ys place word reads long is within)

-- ---- words behind others

is_set-before : (ws vs : List ℕ) (i : ℕ) → i < 64 * length ws → is_set (ws ++ vs) i ≡ is_set ws i
is_set-before ws vs i within =
    let below : i / 64 < length ws = omega arith in
    ap (λ w. bit_at w (i % 64) == 1) (get_or_append_left ws vs 0 (i / 64) below)

is_set-behind : (ws vs : List ℕ) (i : ℕ) → 64 * length ws ≤ i → is_set (ws ++ vs) i ≡ is_set vs (i - 64 * length ws)
is_set-behind ws vs i from =
    let from_word : length ws ≤ i / 64 = omega arith in
    let index : (i - 64 * length ws) / 64 ≡ i / 64 - length ws = omega arith in
    let bit : (i - 64 * length ws) % 64 ≡ i % 64 = omega arith in
    ap (λ w. bit_at w (i % 64) == 1) (get_or-append_right ws vs (length ws) (i / 64) 0 refl from_word) ∙ rw (index, bit) refl

is_set-past : (words : List ℕ) (i : ℕ) → 64 * length words ≤ i → is_set words i ≡ false
is_set-past words i from =
    let past : length words ≤ i / 64 = omega arith in
    ap (λ w. bit_at w (i % 64) == 1) (get_or_past words (i / 64) 0 past) ∙ ap (λ x. x == 1) (bit_at-zero (i % 64))

pub reads_none : Reads [] []
reads_none = record { each = λ i. is_set-past [] i (omega arith) }

pub reads_join : (ws vs : List ℕ) (xs ys : List Bool) → Reads ws xs → Reads vs ys → length xs ≡ 64 * length ws → Reads (ws ++ vs) (xs ++ ys)
reads_join ws vs xs ys front back long =
    reads_both (ws ++ vs) xs ys (64 * length ws) long (λ i below. is_set-before ws vs i below ∙ front.each i) (λ i from. is_set-behind ws vs i from ∙ back.each (i - 64 * length ws))

pub reads_word : (ys : List Bool) (word : ℕ) → word ≡ word_of ys → length ys ≤ 64 → Reads (word ∷ []) ys
reads_word ys word is short =
    reads_each (word ∷ []) ys 64 short (λ i below. sym (bit_alone word i below) ∙ (ap (λ w. bit_at w i == 1) is ∙ bit_of-word_of ys i)) (λ i past. is_set-past (word ∷ []) i past)

word_of-drop : (ys : List Bool) (n : ℕ) → n ≤ length ys → word_of ys / 2 ^ n ≡ word_of (drop n ys)
word_of-drop ys n within =
    let low = take n ys in
    let long : length low ≡ n = length-take-le n ys within in
    let parts : word_of ys ≡ word_of low + 2 ^ n * word_of (drop n ys) = ap word_of (sym (take-append-drop n ys)) ∙ (word_of-append low (drop n ys) ∙ ap (λ k. word_of low + 2 ^ k * word_of (drop n ys)) long) in
    let small : word_of low < 2 ^ n = rw long at (mask_l-lt low) in
    ap (λ w. w / 2 ^ n) parts ∙ (add-mul-div_left (word_of low) (word_of (drop n ys)) (pow_pos n) ∙ rw (div-eq_of_lt small) (zero-add (word_of (drop n ys))))

pub no_bits : (words : List ℕ) (xs ys : List Bool) → Reads words xs → length ys ≡ 0 → Reads words (xs ++ ys)
no_bits words xs ys reads none = rw (nil_from_length ys none, append-nil xs) reads

-- ---- what `append_word` leaves: behind whole words, within the last word, and over its end

pub behind_whole : (words : List ℕ) (xs ys : List Bool) (place word : ℕ) → Reads words xs → length xs ≡ place → word ≡ word_of ys → length ys ≤ 64 → place ≡ 64 * length words → Reads (words ++ word ∷ []) (xs ++ ys)
behind_whole words xs ys place word reads long is short whole = reads_join words (word ∷ []) xs ys reads (reads_word ys word is short) (long ∙ whole)

pub over_end : (words : List ℕ) (xs ys : List Bool) (place word : ℕ) → Reads words xs → length xs ≡ place → word ≡ word_of ys → length ys ≤ 64 → 64 < place % 64 + length ys → length words ≡ place / 64 + 1
    → Reads (set words (place / 64) (bit_or (slice_index words (place / 64)) (word * 2 ^ (place % 64) % 2 ^ 64)) ++ word / 2 ^ (64 - place % 64) ∷ []) (xs ++ ys)
over_end words xs ys place word reads long is short over last =
    let n = 64 - place % 64 in
    let v = bit_or (slice_index words (place / 64)) (word * 2 ^ (place % 64) % 2 ^ 64) in
    let first = set words (place / 64) v in
    let rest = word / 2 ^ n in
    let begun = first_part words xs ys place word reads long is (omega arith) in
    let within : n ≤ length ys = omega arith in
    let rest_is : rest ≡ word_of (drop n ys) = ap (λ w. w / 2 ^ n) is ∙ word_of-drop ys n within in
    let full : length (xs ++ take n ys) ≡ 64 * length first = omega (arith, long, length-append xs (take n ys), length-take-le n ys within, length-set words (place / 64) v) in
    let joined = reads_join first (rest ∷ []) (xs ++ take n ys) (drop n ys) begun (reads_word (drop n ys) rest rest_is (omega (arith, length-drop n ys))) full in
    subst (Reads (first ++ rest ∷ [])) (append_assoc xs (take n ys) (drop n ys) ∙ ap (λ bits. xs ++ bits) (take-append-drop n ys)) joined

-- ---- what `append_words` leaves

-- words whose bits are those of others
pub reads_bits : (words others : List ℕ) (from count : ℕ) → length words ≡ count → ((i : ℕ) → i < 64 * count → is_set words i ≡ is_set others (from + i)) → Reads words (bits_in others from (64 * count))
reads_bits words others from count long each =
    reads_each words (bits_in others from (64 * count)) (64 * count) (omega (arith, length-bits_in others from (64 * count)))
    (λ i below. each i below ∙ sym (get_or-bits_in others from (64 * count) i false below))
    (λ i past. is_set-past words i (omega arith))

-- whole words of them
pub reads_part : (others : List ℕ) (from count : ℕ) → from % 64 ≡ 0 → from / 64 + count ≤ length others → Reads (take count (drop (from / 64) others)) (bits_in others from (64 * count))
reads_part others from count whole within =
    let rest = drop (from / 64) others in
    reads_bits (take count rest) others from count (omega (arith, length-take count rest, length-drop (from / 64) others)) (λ i below.
    let index : from / 64 + i / 64 ≡ (from + i) / 64 = omega arith in
    let bit : i % 64 ≡ (from + i) % 64 = omega arith in
    let read = get_or-take count rest (i / 64) 0 (omega arith) ∙ get_or-drop (from / 64) others (i / 64) 0 in
    ap (λ w. bit_at w (i % 64) == 1) read ∙ (λ t. bit_at (slice_index others (index t)) (bit t) == 1))

-- and bits of words that have zeros behind them
pub reads_padded : (words : List ℕ) (len : ℕ) → ((i : ℕ) → len ≤ i → is_set words i ≡ false) → Reads words (bits_in words 0 len)
reads_padded words len zeros =
    reads_each words (bits_in words 0 len) len (omega (arith, length-bits_in words 0 len)) (λ i below. sym (get_or-bits_in words 0 len i false below ∙ ap (is_set words) (zero-add i))) zeros

-- what a vector held before a slice of it, and the slice behind, of words that were filled up with zeros
pub part_written : (place count : ℕ) (old new seen : List ℕ) → place ≡ length old → place ≤ count → seen ≡ take count old ++ replicate (count - length old) 0 → take place seen ++ (new ++ post_of place (length seen - place) seen) ≡ old ++ new
part_written place count old new seen at more is =
    let zeros : List ℕ = replicate (count - length old) 0 in
    let filled : seen ≡ old ++ zeros = is ∙ ap (λ front. front ++ zeros) (take_all count old (omega (arith, at, more))) in
    let front = ap (take place) filled ∙ take_at old zeros place (sym at) in
    let none : post_of place (length seen - place) seen ≡ [] = drop_all (length seen - place) (drop place seen) (omega (arith, length-drop place seen)) in
    (λ i. front i ++ (new ++ none i)) ∙ ap (λ xs. old ++ xs) (append-nil new)

-- words of equal bits
pub reads_equal : (count word : ℕ) (bit : Bool) → word ≡ word_of (replicate 64 bit) → Reads (replicate count word) (replicate (64 * count) bit)
reads_equal zero word bit is = reads_none
reads_equal (suc count) word bit is =
    let next : 64 * suc count ≡ 64 + 64 * count = omega arith in
    let first = reads_word (replicate 64 bit) word is (omega (arith, length-replicate 64 bit)) in
    rw (next, ← replicate-append-replicate 64 (64 * count) bit) (reads_join (word ∷ []) (replicate count word) (replicate 64 bit) (replicate (64 * count) bit) first (reads_equal count word bit is) (length-replicate 64 bit))

-- ---- one append behind another

-- bits that are cut in two parts
pub appends_both : (parts : ℕ → ℕ → List Bool) → ((a n : ℕ) → length (parts a n) ≡ n) → ((a m n : ℕ) → parts a (m + n) ≡ parts a m ++ parts (a + m) n) → (old mid new : List ℕ) (place next from m n all : ℕ) → AppendsBits old mid place (parts from m) → AppendsBits mid new next (parts (from + m) n) → next ≡ place + m → m + n ≡ all
    → AppendsBits old new place (parts from all)
appends_both parts long cut old mid new place next from m n all front back at sum = λ xs reads held.
    let behind : length (xs ++ parts from m) ≡ next = omega (arith, at, held, length-append xs (parts from m), long from m) in
    let joined = append_assoc xs (parts from m) (parts (from + m) n) ∙ ap (λ bits. xs ++ bits) (sym (cut from m n) ∙ ap (parts from) sum) in
    subst (Reads new) joined (back (xs ++ parts from m) (front xs reads held) behind)

-- a word of these bits
pub appends_none : (words others : List ℕ) (place from count : ℕ) → count ≡ 0 → AppendsBits words words place (bits_in others from count)
appends_none words others place from count none = λ xs reads long. no_bits words xs (bits_in others from count) reads (length-bits_in others from count ∙ none)

pub word_appends : (old new : List ℕ) (place word count : ℕ) (ys : List Bool) → AppendsWord old new place word count → word ≡ word_of ys → length ys ≡ count → AppendsBits old new place ys
word_appends old new place word count ys appends is long = λ xs reads at. appends xs ys reads at is long
