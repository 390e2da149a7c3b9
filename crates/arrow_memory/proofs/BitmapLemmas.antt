-- Lists of bits against the words that hold them.
use Rattle.arrow_memory.proofs.Common.{◌≡◌, ℕ, ◌+◌, ◌-◌, ◌*◌, ◌/◌, ◌%◌, ◌^◌, ◌<◌, ◌≤◌, ◌==◌, min, replicate, Bool, true, false, not, cond, List, [], ◌∷◌, ◌++◌, length, map, get_or, take, drop, refl, ap, sym, ◌∙◌, arith, slice_index, zero-add, inl, inr, Some, nat_eq, bit_and, slice_get, beq, Decides, one_answer, booleans_Decides, pointwise, pointwise_decides, bit_at, count_by, cases_lt, length-append, length-replicate, ext_get_or, fill_by_all, range_with_len, get_or-replicate, get_or-take, get_or-drop, get_or_append_left, get_or_push, take_all, take_at, drop_at, take_min, drop_min, drop-drop, sum_by-cons, shr_and_one, slice_get-get_or, bit_mask_l, sliced, is_set, bits_in, word_of, set_count}
use Rattle.arrow_memory.proofs.SlicedLemmas.{length-sliced, same_joined, sliced-clamped}
use Rattle.arrow_memory.proofs.WordLemmas.{length-bits_in, get_or-bits_in}

-- each bit is set or not
pub count_by-not : (bits : List Bool) → count_by not bits + set_count bits ≡ length bits
count_by-not [] = refl
count_by-not (true ∷ bits) =
    omega (arith, count_by-not bits, sum_by-cons (λ (bit : Bool). cond (not bit) 1 0) true bits, sum_by-cons (λ (bit : Bool). cond bit 1 0) true bits)
count_by-not (false ∷ bits) =
    omega (arith, count_by-not bits, sum_by-cons (λ (bit : Bool). cond (not bit) 1 0) false bits, sum_by-cons (λ (bit : Bool). cond bit 1 0) false bits)

digit_is : (b : Bool) → cond b 1 0 == 1 ≡ b
digit_is true = refl
digit_is false = refl

-- a bit of a word that holds a list of bits
pub bit_of-word_of : (bits : List Bool) (k : ℕ) → (bit_at (word_of bits) k == 1) ≡ get_or bits k false
bit_of-word_of bits k = ap (λ x. nat_eq x 1) (bit_mask_l bits k) ∙ digit_is (get_or bits k false)

-- a bit of a word that holds a part of a list
pub bit_of-word : (bits : List Bool) (place count word k : ℕ) → k < count → word ≡ word_of (sliced bits place count) → (bit_at word k == 1) ≡ get_or bits (place + k) false
bit_of-word bits place count word k within read =
    ap (λ w. bit_at w k == 1) read ∙ (bit_of-word_of (sliced bits place count) k ∙ (get_or-take count (drop place bits) k false within ∙ get_or-drop place bits k false))

-- ---- equality by words

-- bits that are as many are the same where the word that holds them is
words_same : (xs ys : List Bool) → length xs ≡ length ys → word_of xs ≡ word_of ys → xs ≡ ys
words_same xs ys long same =
    ext_get_or false xs ys long (λ i h. sym (bit_of-word_of xs i) ∙ (ap (λ word. bit_at word i == 1) same ∙ bit_of-word_of ys i))

-- so many bits more of two lists, given as words
pub same_more : (xs ys : List Bool) (a b m n : ℕ) → a + (m + n) ≤ length xs → b + (m + n) ≤ length ys → sliced xs a m ≡ sliced ys b m → word_of (sliced xs (a + m) n) ≡ word_of (sliced ys (b + m) n) → sliced xs a (m + n) ≡ sliced ys b (m + n)
same_more xs ys a b m n here there before words =
    let left = length-sliced xs (a + m) n (omega arith) in
    let right = length-sliced ys (b + m) n (omega arith) in
    same_joined xs ys a b m n before (words_same (sliced xs (a + m) n) (sliced ys (b + m) n) (left ∙ sym right) words)

-- a test of all bits of two lists that are as long is their equality
pub all_decide : (xs ys : List Bool) (n : ℕ) (result : Bool) → length xs ≡ n → length ys ≡ n → Decides result (sliced xs 0 n ≡ sliced ys 0 n) → result ≡ pointwise beq xs ys
all_decide xs ys n result long other_long told =
    let left = take_all n xs (omega arith) in
    let right = take_all n ys (omega arith) in
    one_answer result (pointwise beq xs ys)
    (λ e. sym left ∙ (told.0 e ∙ right), λ same. told.1 (ap (take n) same))
    (pointwise_decides booleans_Decides xs ys)

-- ---- packing

-- the words hold the bits as far as they go, with zeros past the end
pub record Packs (words : List ℕ) (bits : List Bool) : Type 0 where
  pub each : (i : ℕ) → i < 64 * length words → is_set words i ≡ get_or bits i false

-- the next 64 bits, or what is left, and those behind them
next_bits : (rest chunk next : List Bool) → rest ≡ chunk ++ next → length chunk ≡ min 64 (length rest) → (chunk ≡ take 64 rest) × (next ≡ drop 64 rest)
next_bits rest chunk next e long = (
  sym (take_at chunk next (length chunk) refl) ∙ ((λ i. take (long i) (sym e i)) ∙ take_min 64 rest),
  sym (drop_at chunk next (length chunk) refl) ∙ ((λ i. drop (long i) (sym e i)) ∙ drop_min 64 rest),
)

-- one more word, of the next 64 bits
pub Packs-more : (words : List ℕ) (bits rest chunk next : List Bool) → Packs words bits → rest ≡ drop (64 * length words) bits → rest ≡ chunk ++ next → length chunk ≡ min 64 (length rest) → Packs (words ++ word_of chunk ∷ []) bits
Packs-more words bits rest chunk next packs left e long =
    record {
      each = λ i h.
          let more = words ++ word_of chunk ∷ [] in
          let longer = length-append words (word_of chunk ∷ []) in
          elim (cases_lt i (64 * length words)) as (λ _. is_set more i ≡ get_or bits i false) [
            | inl before ↦
                let earlier : i / 64 < length words = omega arith in
                ap (λ word. bit_at word (i % 64) == 1) (get_or_append_left words (word_of chunk ∷ []) 0 (i / 64) earlier) ∙ packs.each i before
            | inr from ↦
                let last : length words ≡ i / 64 = omega arith in
                let place : 64 * length words + i % 64 ≡ i = omega arith in
                let made = ap word_of ((next_bits rest chunk next e long).0 ∙ ap (take 64) left) in
                ap (λ word. bit_at word (i % 64) == 1) (get_or_push words (word_of chunk) 0 (i / 64) last) ∙ (bit_of-word bits (64 * length words) 64 (word_of chunk) (i % 64) (omega arith) made ∙ ap (λ k. get_or bits k false) place)
          ];
    }

pub drop-more : (n : ℕ) (bits rest chunk next : List Bool) → rest ≡ drop (64 * n) bits → rest ≡ chunk ++ next → length chunk ≡ min 64 (length rest) → next ≡ drop (64 * (n + 1)) bits
drop-more n bits rest chunk next left e long =
    let place : 64 * n + 64 ≡ 64 * (n + 1) = omega arith in
    (next_bits rest chunk next e long).1 ∙ (ap (drop 64) left ∙ (drop-drop 64 (64 * n) bits ∙ ap (λ k. drop k bits) place))

-- ---- what the methods read

-- one bit, as `get_bit` reads it
pub slice_get-bits_in : (words : List ℕ) (offset len i : ℕ) (seen : List Bool) (word : ℕ) → bits_in words offset len ≡ seen → i < len → word ≡ slice_index words ((offset + i) / 64) → slice_get seen i ≡ Some (nat_eq (bit_and (word / 2 ^ ((offset + i) % 64)) 1) 1)
slice_get-bits_in words offset len i seen word e h read =
    let long = length-bits_in words offset len in
    let within : i < length (bits_in words offset len) = omega arith in
    rw (← e, slice_get-get_or (bits_in words offset len) i false within, get_or-bits_in words offset len i false h, shr_and_one, read)

-- the count of unset bits, as `unset_bits` finds it
pub unset_count : (words : List ℕ) (offset len : ℕ) (seen : List Bool) (ones : ℕ) → bits_in words offset len ≡ seen → ones ≡ set_count (bits_in words offset (offset + len - offset)) → (ones ≤ len) × (len - ones ≡ count_by not seen)
unset_count words offset len seen ones e counted =
    let width : offset + len - offset ≡ len = omega arith in
    let all = rw (width, e) at counted in
    let long = ap length e in
    (omega (arith, count_by-not seen, length-bits_in words offset len), omega (arith, count_by-not seen, length-bits_in words offset len))

-- ---- bits of words

-- a list by its places, and the bits that words hold
pub by_place : (bits : List Bool) (n : ℕ) → length bits ≡ n → bits ≡ map (λ k. get_or bits k false) (range_with_len 0 n)
by_place bits n long = fill_by_all (λ k. get_or bits k false) bits n false long (λ k below. refl)

pub bits_by_place : (words : List ℕ) (n : ℕ) (f : ℕ → Bool) → ((k : ℕ) → k < n → is_set words k ≡ f k) → bits_in words 0 n ≡ map f (range_with_len 0 n)
bits_by_place words n f each =
    fill_by_all f (bits_in words 0 n) n false (length-bits_in words 0 n) (λ k below. get_or-bits_in words 0 n k false below ∙ (ap (is_set words) (zero-add k) ∙ each k below))

pub bits_in_is : (words : List ℕ) (bits : List Bool) → ((i : ℕ) → i < length bits → is_set words i ≡ get_or bits i false) → bits_in words 0 (length bits) ≡ bits
bits_in_is words bits each = bits_by_place words (length bits) (λ k. get_or bits k false) each ∙ sym (by_place bits (length bits) refl)

-- bits that are all equal
pub run_is : (bits : List Bool) (n : ℕ) (bit : Bool) → length bits ≡ n → ((i : ℕ) → i < n → get_or bits i false ≡ bit) → bits ≡ replicate n bit
run_is bits n bit long each =
    ext_get_or false bits (replicate n bit) (long ∙ sym (length-replicate n bit)) (λ i within.
    let below : i < n = omega arith in
    each i below ∙ sym (get_or-replicate n i bit false below))

-- words of equal bits hold such bits
pub bits_in-constant : (words : List ℕ) (value : Bool) (n word len : ℕ) → words ≡ replicate n word → len ≤ 64 * n → word ≡ word_of (replicate 64 value) → bits_in words 0 len ≡ replicate len value
bits_in-constant words value n word len all within is =
    run_is (bits_in words 0 len) len value (length-bits_in words 0 len) (λ i below.
    let read = ap (λ xs. slice_index xs (i / 64)) all ∙ get_or-replicate n (i / 64) word 0 (omega arith) in
    let bit = ap (λ w. bit_at w (i % 64) == 1) (read ∙ is) ∙ (bit_of-word_of (replicate 64 value) (i % 64) ∙ get_or-replicate 64 (i % 64) value false (omega arith)) in
    get_or-bits_in words 0 len i false below ∙ (ap (is_set words) (zero-add i) ∙ bit))

-- ---- one word of the bits

-- the 64 bits from 64 j on, where j may be far behind the last
pub word_clamped : (bits : List Bool) (j len product start count word : ℕ) → len ≡ length bits → len < 2 ^ 64 → product ≡ min (j * 64) 18446744073709551615 → start ≡ min product len → count ≡ min 64 (len - start) → word ≡ word_of (sliced bits start count) → word ≡ word_of (sliced bits (64 * j) 64)
word_clamped bits j len product start count word counted small product_is start_is count_is read =
    let from : start ≡ min (64 * j) (length bits) = omega (arith, counted, small, product_is, start_is) in
    let many : count ≡ min 64 (length bits - min (64 * j) (length bits)) = omega (arith, count_is, counted, from) in
    read ∙ ap word_of ((λ t. sliced bits (from t) (many t)) ∙ sliced-clamped bits (64 * j) 64)
