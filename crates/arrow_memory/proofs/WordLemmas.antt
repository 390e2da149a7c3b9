-- Bits as they lie in words.
use Rattle.arrow_memory.proofs.Common.{◌≡◌, ℕ, zero, suc, ◌+◌, ◌-◌, ◌*◌, ◌/◌, ◌%◌, ◌^◌, ◌<◌, ◌≤◌, ◌==◌, Bool, true, false, cond, List, [], ◌∷◌, ◌++◌, length, map, get_or, take, drop, refl, ap, sym, ◌∙◌, arith, inl, inr, slice_index, Fits, w64, zero-add, add-zero, count_ones, bit_or, bit_at, from_bool, range_with_len, nat_tests, cases_lt, same_lists, length-take, get_or-take, get_or-drop, take_at, drop_at, map-id, map-append, count_by-le-length, sum_by-append, length-map-range_with_len, get_or-map-range_with_len, shr-shr, shr_le, shr_split, shl_whole, mod_below, pow_pos, or_lt, or_comm, or_shifted_r, mul-mod_first, pow-suc, mod-eq_of_lt, mul_assoc, mul_comm, bit_at-lt, bit_at-zero, bit_at_above, bit_at_cat_high, bit_at_cat_low, bit_at_or, bit_mask_l, same_from_bits_below, ones-mask_l, mask_l-lt, sliced, is_set, bits_in, low_bits, word_of, set_count, IsWordAt}

-- ---- lists of bits

-- lists over numbers are the same where their members are, one by one
pub map_alike : (f g : ℕ → Bool) (a b n : ℕ) → ((k : ℕ) → k < n → f (a + k) ≡ g (b + k)) → map f (range_with_len a n) ≡ map g (range_with_len b n)
map_alike f g a b n same =
    let long = length-map-range_with_len f a n in
    same_lists _ _ (long ∙ sym (length-map-range_with_len g b n))
    (λ k d within.
    let below : k < n = omega arith in
    get_or-map-range_with_len f a n k (a + k) d below refl ∙ (same k below ∙ sym (get_or-map-range_with_len g b n k (b + k) d below refl)))

pub length-bits_in : (words : List ℕ) (offset len : ℕ) → length (bits_in words offset len) ≡ len
unfolding bits_in
length-bits_in words offset len = length-map-range_with_len (is_set words) offset len

pub get_or-bits_in : (words : List ℕ) (offset len i : ℕ) (d : Bool) → i < len → get_or (bits_in words offset len) i d ≡ is_set words (offset + i)
unfolding bits_in
get_or-bits_in words offset len i d h = get_or-map-range_with_len (is_set words) offset len i (offset + i) d h refl

pub bits_in-none : (words : List ℕ) (offset : ℕ) → bits_in words offset 0 ≡ []
unfolding bits_in
bits_in-none words offset = refl

pub range-add : (a m n : ℕ) → range_with_len a (m + n) ≡ range_with_len a m ++ range_with_len (a + m) n
range-add a zero n = simp (zero-add, add-zero)
range-add a (suc m) n =
    let front : suc m + n ≡ suc (m + n) = omega arith in
    let place : a + suc m ≡ a + 1 + m = omega arith in
    rw (front, place) (ap (λ places. a ∷ places) (range-add (a + 1) m n))

-- two runs of bits, one behind the other
pub bits_in-add : (words : List ℕ) (offset m n : ℕ) → bits_in words offset (m + n) ≡ bits_in words offset m ++ bits_in words (offset + m) n
unfolding bits_in
bits_in-add words offset m n = ap (map (is_set words)) (range-add offset m n) ∙ map-append (is_set words) (range_with_len offset m) (range_with_len (offset + m) n)

sliced-bits_in : (words : List ℕ) (offset len o n : ℕ) → o + n ≤ len → sliced (bits_in words offset len) o n ≡ bits_in words (offset + o) n
sliced-bits_in words offset len o n h =
    let m = len - (o + n) in
    let all : len ≡ o + (n + m) = omega arith in
    let front = drop_at (bits_in words offset o) (bits_in words (offset + o) (n + m)) o (length-bits_in words offset o) in
    let part = take_at (bits_in words (offset + o) n) (bits_in words (offset + o + n) m) n (length-bits_in words (offset + o) n) in
    rw (all, bits_in-add words offset o (n + m), front, bits_in-add words (offset + o) n m) part

-- a part of the bits that words hold
pub part_seen : (read words : List ℕ) (offset len o n : ℕ) (seen : List Bool) → read ≡ words → bits_in words offset len ≡ seen → o + n ≤ length seen → bits_in read (offset + o) n ≡ sliced seen o n
part_seen read words offset len o n seen same is within =
    let inside : o + n ≤ len = omega (arith, ap length is, length-bits_in words offset len) in
    ap (λ ws. bits_in ws (offset + o) n) same ∙ (sym (sliced-bits_in words offset len o n inside) ∙ ap (λ bits. sliced bits o n) is)

pub set_count-add : (words : List ℕ) (offset m n : ℕ) → set_count (bits_in words offset (m + n)) ≡ set_count (bits_in words offset m) + set_count (bits_in words (offset + m) n)
set_count-add words offset m n = ap set_count (bits_in-add words offset m n) ∙ sum_by-append (λ (bit : Bool). cond bit 1 0) (bits_in words offset m) (bits_in words (offset + m) n)

pub set_count-le : (words : List ℕ) (offset len : ℕ) → set_count (bits_in words offset len) ≤ len
set_count-le words offset len = omega (arith, count_by-le-length (λ (bit : Bool). bit) (bits_in words offset len), length-bits_in words offset len)

-- ---- the bits of a word

bit_number : (x : ℕ) → x < 2 → cond (x == 1) 1 0 ≡ x
bit_number x h = grind (arith, nat_tests)

pub bit_at-low : (n w k : ℕ) → k < w → bit_at (n % 2 ^ w) k ≡ bit_at n k
bit_at-low n w k below = sym (bit_at_cat_low (n / 2 ^ w) w (n % 2 ^ w) k below) ∙ ap (λ m. bit_at m k) (shr_split n w)

-- its lowest bits, and as a number
pub length-low_bits : (word n : ℕ) → length (low_bits word n) ≡ n
length-low_bits word n = length-map-range_with_len (λ k. bit_at word k == 1) 0 n

pub word_of-low_bits : (word n : ℕ) → word_of (low_bits word n) ≡ word % 2 ^ n
word_of-low_bits word n =
    let bits = low_bits word n in
    let small : word_of bits < 2 ^ n = rw (length-low_bits word n) at (mask_l-lt bits) in
    same_from_bits_below n (word_of bits) (word % 2 ^ n) small (mod_below word (2 ^ n) (pow_pos n))
    (λ i below.
    let one = get_or-map-range_with_len (λ k. bit_at word k == 1) 0 n i i false below (zero-add i) in
    bit_mask_l bits i ∙ (ap (λ b. cond b 1 0) one ∙ (bit_number (bit_at word i) (bit_at-lt word i) ∙ sym (bit_at-low word n i below))))

-- those that words have from a place on
pub low_bits_at : (words : List ℕ) (place count word : ℕ) → IsWordAt words place count word → low_bits word count ≡ bits_in words place count
unfolding bits_in
low_bits_at words place count word at =
    map_alike (λ k. bit_at word k == 1) (is_set words) 0 place count (λ k below. ap (λ i. bit_at word i == 1) (zero-add k) ∙ at k below)

pub word_of-at : (words : List ℕ) (place count word : ℕ) → IsWordAt words place count word → word % 2 ^ count ≡ word_of (bits_in words place count)
word_of-at words place count word at = sym (word_of-low_bits word count) ∙ ap word_of (low_bits_at words place count word at)

-- so many of them, and those behind
pub low_bits_add : (word m n : ℕ) → low_bits word (m + n) ≡ low_bits word m ++ low_bits (word / 2 ^ m) n
low_bits_add word m n =
    let one = λ (k : ℕ). bit_at word k == 1 in
    let rest = map_alike one (λ k. bit_at (word / 2 ^ m) k == 1) (0 + m) 0 n (λ k below.
    let at : 0 + m + k ≡ m + (0 + k) = omega arith in
    ap one at ∙ sym (ap (λ x. x % 2 == 1) (shr-shr word m (0 + k)))) in
    ap (map one) (range-add 0 m n) ∙ (map-append one (range_with_len 0 m) (range_with_len (0 + m) n) ∙ ap (λ bits. low_bits word m ++ bits) rest)

-- the words from their first bit on, and from a place in them on
at_start : (words : List ℕ) (i n : ℕ) → n ≤ 64 → IsWordAt words (64 * i) n (slice_index words i)
at_start words i n few k below =
    let index : i ≡ (64 * i + k) / 64 = omega (arith, few, below) in
    let bit : k ≡ (64 * i + k) % 64 = omega (arith, few, below) in
    λ t. bit_at (slice_index words (index t)) (bit t) == 1

pub at_place : (words : List ℕ) (place n : ℕ) → place % 64 + n ≤ 64 → IsWordAt words place n (slice_index words (place / 64) / 2 ^ (place % 64))
at_place words place n within k below =
    let index : place / 64 ≡ (place + k) / 64 = omega (arith, within, below) in
    let bit : place % 64 + k ≡ (place + k) % 64 = omega (arith, within, below) in
    ap (λ x. x % 2 == 1) (shr-shr (slice_index words (place / 64)) (place % 64) k) ∙ (λ t. bit_at (slice_index words (index t)) (bit t) == 1)

-- a word alone
pub bit_alone : (word k : ℕ) → k < 64 → (bit_at word k == 1) ≡ is_set (word ∷ []) k
bit_alone word k below = at_start (word ∷ []) 0 64 (omega arith) k below ∙ ap (is_set (word ∷ [])) (zero-add k)

pub low_bits_in : (word len : ℕ) → len ≤ 64 → bits_in (word ∷ []) 0 len ≡ low_bits word len
low_bits_in word len few = sym (low_bits_at (word ∷ []) 0 len word (at_start (word ∷ []) 0 len few))

-- a count of bits is the count of ones of the number that they make
pub count_ones-word_of : (bits : List Bool) → count_ones (word_of bits) ≡ set_count bits
count_ones-word_of bits = ap (λ xs. count_ones (word_of xs)) (sym (map-id bits)) ∙ ones-mask_l (λ bit. bit) bits

-- of the first bits of a word
set_count-start : (words : List ℕ) (i n : ℕ) → n ≤ 64 → set_count (bits_in words (64 * i) n) ≡ count_ones (slice_index words i % 2 ^ n)
set_count-start words i n few =
    sym (count_ones-word_of (bits_in words (64 * i) n)) ∙ ap count_ones (sym (word_of-at words (64 * i) n (slice_index words i) (at_start words i n few)))

-- the bits of a word below a place in it
pub set_count-below : (words : List ℕ) (place : ℕ) → set_count (bits_in words (place - place % 64) (place % 64)) ≡ count_ones (slice_index words (place / 64) % 2 ^ (place % 64))
set_count-below words place =
    let whole : place - place % 64 ≡ 64 * (place / 64) = omega arith in
    rw whole (set_count-start words (place / 64) (place % 64) (omega arith))

-- one more word of a run of whole words
pub set_count-more : (words : List ℕ) (first n i : ℕ) → ((k : ℕ) → Fits w64 (get_or words k 0)) → i < length (take n (drop first words)) → set_count (bits_in words (64 * first) (64 * (i + 1))) ≡ set_count (bits_in words (64 * first) (64 * i)) + count_ones (get_or (take n (drop first words)) i 0)
set_count-more words first n i fits h =
    let below : i < n = omega (arith, length-take n (drop first words)) in
    let next : 64 * (i + 1) ≡ 64 * i + 64 = omega arith in
    let place : 64 * first + 64 * i ≡ 64 * (first + i) = omega arith in
    let word = set_count-start words (first + i) 64 (omega arith) ∙ ap count_ones (mod-eq_of_lt (fits (first + i)).fits) in
    let all = set_count-add words (64 * first) (64 * i) 64 in
    rw (next, all, place, word, get_or-take n (drop first words) i 0 below, get_or-drop first words i 0)

-- whole words and the bits behind them, counted from the first word of `start` on, less the bits before `start`
pub set_count-between : (words : List ℕ) (start end n : ℕ) → start ≤ end → n ≡ end / 64 - start / 64 → set_count (bits_in words (end - end % 64) (end % 64)) + set_count (bits_in words (64 * (start / 64)) (64 * n)) ≡ set_count (bits_in words (start - start % 64) (start % 64)) + set_count (bits_in words start (end - start))
set_count-between words start end n h e =
    let tail : 64 * (start / 64) + 64 * n ≡ end - end % 64 = omega arith in
    let front : 64 * (start / 64) + start % 64 ≡ start = omega arith in
    let whole : start - start % 64 ≡ 64 * (start / 64) = omega arith in
    let same : 64 * n + end % 64 ≡ start % 64 + (end - start) = omega arith in
    let upto_end = rw (tail, same) at (set_count-add words (64 * (start / 64)) (64 * n) (end % 64)) in
    let from_start = rw front at (set_count-add words (64 * (start / 64)) (start % 64) (end - start)) in
    rw whole (omega (arith, upto_end, from_start))

-- ---- a word that is shifted, and 64 bits across two words

pub bit_at-shl_low : (word shift k : ℕ) → k < 64 → k < shift → bit_at (word * 2 ^ shift % 2 ^ 64) k ≡ 0
bit_at-shl_low word shift k below before =
    bit_at-low (word * 2 ^ shift) 64 k below ∙ (ap (λ n. bit_at n k) (sym (add-zero (word * 2 ^ shift))) ∙ (bit_at_cat_low word shift 0 k before ∙ bit_at-zero k))

pub bit_at-shl_high : (word shift k : ℕ) → k < 64 → shift ≤ k → bit_at (word * 2 ^ shift % 2 ^ 64) k ≡ bit_at word (k - shift)
bit_at-shl_high word shift k below from =
    bit_at-low (word * 2 ^ shift) 64 k below ∙ (ap (λ n. bit_at n k) (sym (add-zero (word * 2 ^ shift))) ∙ bit_at_cat_high word shift 0 k (pow_pos shift) from)

-- the bits from a place on, of the word in which they begin and that in which they end
across_at : (words : List ℕ) (place count high : ℕ) → slice_index words (place / 64) < 2 ^ 64 → count ≤ 64 → (64 < place % 64 + count → high ≡ slice_index words (place / 64 + 1))
    → IsWordAt words place count (bit_or (slice_index words (place / 64) / 2 ^ (place % 64)) (high * 2 ^ (64 - place % 64) % 2 ^ 64))
across_at words place count high small few next k below =
    let low = slice_index words (place / 64) in
    let shift = place % 64 in
    let up = high * 2 ^ (64 - shift) % 2 ^ 64 in
    let both = bit_at_or (low / 2 ^ shift) up k in
    elim (cases_lt (shift + k) 64) as (λ _. (bit_at (bit_or (low / 2 ^ shift) up) k == 1) ≡ is_set words (place + k)) [
      | inl within ↦
          let none = bit_at-shl_low high (64 - shift) k (omega arith) (omega arith) in
          let one : bit_at (bit_or (low / 2 ^ shift) up) k ≡ bit_at (low / 2 ^ shift) k = omega arith in
          ap (λ x. x == 1) one ∙ at_place words place (k + 1) (omega arith) k (omega arith)
      | inr from ↦
          let none = ap (λ x. x % 2) (shr-shr low shift k) ∙ bit_at_above low 64 (shift + k) small from in
          let one : bit_at (bit_or (low / 2 ^ shift) up) k ≡ bit_at high (k - (64 - shift)) = omega (arith, bit_at-shl_high high (64 - shift) k (omega arith) (omega arith)) in
          let word : high ≡ slice_index words ((place + k) / 64) = next (omega arith) ∙ ap (slice_index words) (omega arith) in
          let bit : k - (64 - shift) ≡ (place + k) % 64 = omega arith in
          ap (λ x. x == 1) (one ∙ (λ t. bit_at (word t) (bit t)))
    ]

pub word_of-ends : (words : List ℕ) (place count high : ℕ) → slice_index words (place / 64) < 2 ^ 64 → count ≤ 64 → (64 < place % 64 + count → high ≡ slice_index words (place / 64 + 1)) → bit_or (slice_index words (place / 64) / 2 ^ (place % 64)) (high * 2 ^ (64 - place % 64) % 2 ^ 64) % 2 ^ count ≡ word_of (bits_in words place count)
word_of-ends words place count high small few next =
    word_of-at words place count (bit_or (slice_index words (place / 64) / 2 ^ (place % 64)) (high * 2 ^ (64 - place % 64) % 2 ^ 64)) (across_at words place count high small few next)

pub word_of-across : (words : List ℕ) (place : ℕ) → slice_index words (place / 64) < 2 ^ 64 → bit_or (slice_index words (place / 64) / 2 ^ (place % 64)) (slice_index words (place / 64 + 1) * 2 ^ (64 - place % 64) % 2 ^ 64) ≡ word_of (bits_in words place 64)
word_of-across words place small =
    let low = slice_index words (place / 64) / 2 ^ (place % 64) in
    let up = slice_index words (place / 64 + 1) * 2 ^ (64 - place % 64) % 2 ^ 64 in
    let whole = or_lt 64 low up (omega (arith, shr_le (slice_index words (place / 64)) (place % 64))) (omega arith) in
    sym (mod-eq_of_lt whole) ∙ word_of-ends words place 64 (slice_index words (place / 64 + 1)) small (omega arith) (λ _. refl)

pub word_of-aligned : (words : List ℕ) (place : ℕ) → slice_index words (place / 64) < 2 ^ 64 → place % 64 ≡ 0 → slice_index words (place / 64) / 2 ^ (place % 64) ≡ word_of (bits_in words place 64)
word_of-aligned words place small aligned =
    let word = slice_index words (place / 64) / 2 ^ (place % 64) in
    let whole : word < 2 ^ 64 = omega (arith, shr_le (slice_index words (place / 64)) (place % 64)) in
    sym (mod-eq_of_lt whole) ∙ word_of-at words place 64 word (at_place words place 64 (omega arith))

-- shifted up by one and then by the others: nothing is left of it where both are a whole word
pub shifted_twice : (high shift : ℕ) → shift < 64 → high * 2 % 2 ^ 64 * 2 ^ (63 - shift) % 2 ^ 64 ≡ high * 2 ^ (64 - shift) % 2 ^ 64
shifted_twice high shift below =
    let power : 2 ^ (64 - shift) ≡ 2 * 2 ^ (63 - shift) = ap (λ n. 2 ^ n) (omega arith) ∙ (pow-suc 2 (63 - shift) ∙ mul_comm (2 ^ (63 - shift)) 2) in
    mul-mod_first (high * 2) (2 ^ (63 - shift)) (2 ^ 64) ∙ ap (λ n. n % 2 ^ 64) (mul_assoc high 2 (2 ^ (63 - shift)) ∙ ap (λ n. high * n) (sym power))

-- ---- packing

pub word_of-append : (xs ys : List Bool) → word_of (xs ++ ys) ≡ word_of xs + 2 ^ length xs * word_of ys
word_of-append [] ys = omega arith
word_of-append (x ∷ xs) ys =
    let rest = word_of-append xs ys in
    let power = pow-suc 2 (length xs) in
    rw (rest, power) (omega arith)

-- more bits above those of a word
pub word_and_more : (xs ys : List Bool) (word run n w : ℕ) → word ≡ word_of xs → length xs ≡ n → n + length ys ≤ w → run ≡ word_of ys → bit_or word (run * 2 ^ n % 2 ^ w) ≡ word_of (xs ++ ys)
word_and_more xs ys word run n w is long few same =
    let small : word < 2 ^ n = rw (is, sym long) (mask_l-lt xs) in
    let below : run < 2 ^ length ys = rw same (mask_l-lt ys) in
    rw (shl_whole run (length ys) n w below (omega arith), or_shifted_r run n word small, word_of-append xs ys, long, is, same) (omega arith)

pub one_bit : (b : Bool) → from_bool b ≡ word_of (b ∷ [])
one_bit true = refl
one_bit false = refl

-- one more bit below the word
pub pushed_below : (packed : List Bool) (b : Bool) (word : ℕ) → length packed < 64 → word ≡ word_of packed → bit_or (word * 2 % 18446744073709551616) (from_bool b) ≡ word_of (b ∷ packed)
pushed_below packed b word h e =
    or_comm (word * 2 % 18446744073709551616) (from_bool b) ∙ word_and_more (b ∷ []) packed (from_bool b) word 1 64 (one_bit b) refl (omega arith) e

-- for the tactics of the methods of `Bitmap`
pub ruleset bit_lengths = (length-bits_in, bits_in-none)
