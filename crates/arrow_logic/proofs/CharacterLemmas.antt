-- Characters of a row of 16 bytes at most, by the bits of a word.
use Rattle.arrow_logic.proofs.Common.{◌≡◌, ℕ, zero, suc, ◌+◌, ◌-◌, ◌/◌, ◌%◌, ◌^◌, ◌<◌, ◌≤◌, min, Bool, true, false, not, cond, leb, List, [], ◌∷◌, length, map, take, drop, replicate, get_or, w64, if◌then◌else◌, refl, ap, sym, subst, ◌∙◌, arith, inl, inr, trailing_zeros, IsUtf8, mask_l, top, zip2, cases_lt, le-leb, lt-leb, length-map, length-take-le, map-map, begins, skipped, without, eq-zero-or-pos, bit_and, prefix_len, map-id, take-map, leading_from_mask_l, trailing_mask_l, zip2_splat, word_of}
use lib.Bits.{and_step}
use Rattle.std.specs.Int.Bits.{and_self, and_zero_l}
use lib.Count.{trailing_of_zero}
use Rattle.arrow_logic.proofs.AsciiLemmas.{mask_of_16}
use Rattle.arrow_logic.proofs.TextLemmas.{begins_high, begins_low, goes_on, skipped_more}

-- ---- which of 16 bytes begin one

one_begins : (b : ℕ) → b < 256 → leb 64 ((b + 128) % 256) ≡ begins b
one_begins b fits =
    elim (cases_lt b 128) as (λ _. leb 64 ((b + 128) % 256) ≡ begins b) [
      | inl low ↦ le-leb 64 ((b + 128) % 256) (omega (arith, low)) ∙ sym (begins_low b low)
      | inr from ↦
          elim (cases_lt b 192) as (λ _. leb 64 ((b + 128) % 256) ≡ begins b) [
            | inl on ↦ lt-leb 64 ((b + 128) % 256) (omega (arith, from, on)) ∙ sym (goes_on b from on)
            | inr high ↦ le-leb 64 ((b + 128) % 256) (omega (arith, fits, high)) ∙ sym (begins_high b high)
          ]
    ]

each_begins : (xs : List ℕ) → ((k : ℕ) → get_or xs k 0 < 256) → map (λ b. leb 64 ((b + 128) % 256)) xs ≡ map begins xs
each_begins [] fits = refl
each_begins (x ∷ xs) fits = λ i. one_begins x (fits 0) i ∷ each_begins xs (λ k. fits (suc k)) i

pub characters_are : (xs : List ℕ) (word : ℕ) → 16 ≤ length xs → ((k : ℕ) → get_or xs k 0 < 256) → word ≡ mask_l (map (top 7) (zip2 (λ a b. cond (leb a b) 255 0) (replicate 16 64) (zip2 (λ a b. (a + b) % 256) (take 16 xs) (replicate 16 128)))) % 2 ^ 64 → word ≡ word_of (map begins (take 16 xs))
characters_are xs word long fits is =
    let moved = λ (b : ℕ). (b + 128) % 256 in
    let count = length-take-le 16 xs long in
    let lanes = map moved (take 16 xs) in
    let all : length lanes ≡ 16 = length-map (take 16 xs) moved ∙ count in
    let same : map (leb 64) lanes ≡ map begins (take 16 xs) = map-map (leb 64) moved (take 16 xs) ∙ (sym (take-map (λ b. leb 64 (moved b)) 16 xs) ∙ (ap (take 16) (each_begins xs fits) ∙ take-map begins 16 xs)) in
    let read = ap (λ ls. mask_l (map (top 7) (zip2 (λ a b. cond (leb a b) 255 0) (replicate 16 64) ls)) % 2 ^ 64) (zip2_splat (λ a b. (a + b) % 256) (take 16 xs) 16 128 count) in
    is ∙ (read ∙ (mask_of_16 64 lanes all ∙ ap mask_l same))

-- ---- without the lowest bits that are set

pub length-without : (k : ℕ) (bits : List Bool) → length (without k bits) ≡ length bits
length-without (suc k) (true ∷ bits) = ap suc (length-without k bits)
length-without (suc k) (false ∷ bits) = ap suc (length-without (suc k) bits)
length-without k bits = refl

without_nil : (k : ℕ) → without k [] ≡ []
without_nil zero = refl
without_nil (suc k) = refl

without_behind : (k : ℕ) (bits : List Bool) → without k (false ∷ bits) ≡ false ∷ without k bits
without_behind zero bits = refl
without_behind (suc k) bits = refl

-- so many, and more of them
pub without_more : (k n : ℕ) (bits : List Bool) → without n (without k bits) ≡ without (k + n) bits
without_more zero n bits =
    let all : n ≡ 0 + n = omega arith in
    ap (λ m. without m bits) all
without_more (suc k) n [] = without_nil n ∙ sym (without_nil (suc k + n))
without_more (suc k) n (true ∷ bits) =
    let next : suc (k + n) ≡ suc k + n = omega arith in
    without_behind n (without k bits) ∙ (ap (λ bs. false ∷ bs) (without_more k n bits) ∙ ap (λ m. without m (true ∷ bits)) next)
without_more (suc k) n (false ∷ bits) =
    without_behind n (without (suc k) bits) ∙ (ap (λ bs. false ∷ bs) (without_more (suc k) n bits) ∙ sym (without_behind (suc k + n) bits))

-- no more are set than there are
without_all : (k n : ℕ) (bits : List Bool) → length bits ≤ k → k ≤ n → without k bits ≡ without n bits
without_all k n [] long more = without_nil k ∙ sym (without_nil n)
without_all (suc k) (suc n) (true ∷ bits) long more = ap (λ bs. false ∷ bs) (without_all k n bits (omega (arith, long)) (omega (arith, more)))
without_all (suc k) (suc n) (false ∷ bits) long more = ap (λ bs. false ∷ bs) (without_all (suc k) (suc n) bits (omega (arith, long)) more)
without_all k n bits long more = absurd (omega (arith, long, more))

-- as many are gone as were looked for, where 16 turns are enough for all
pub without_min : (count turns : ℕ) (bits : List Bool) → turns ≡ min count 16 → length bits ≡ 16 → without turns bits ≡ without count bits
without_min count turns bits is long =
    elim (cases_lt count 16) as (λ _. without turns bits ≡ without count bits) [
      | inl few ↦ let all : turns ≡ count = omega (arith, is, few) in ap (λ k. without k bits) all
      | inr many ↦ without_all turns count bits (omega (arith, is, long, many)) (omega (arith, is, many))
    ]

-- one less than a word has its bits but for the lowest that is set, and other bits below that one
loses_lowest : (bits : List Bool) → bit_and (word_of bits) (word_of bits - 1) ≡ word_of (without 1 bits)
loses_lowest [] = and_zero_l 0
loses_lowest (true ∷ bits) =
    let x = word_of (true ∷ bits) in
    let half : x / 2 ≡ word_of bits = omega arith in
    let less : (x - 1) / 2 ≡ word_of bits = omega arith in
    let rest = (λ i. bit_and (half i) (less i)) ∙ and_self (word_of bits) in
    omega (arith, and_step x (x - 1), rest)
loses_lowest (false ∷ bits) =
    let x = word_of (false ∷ bits) in
    let half : x / 2 ≡ word_of bits = omega arith in
    let less : (x - 1) / 2 ≡ word_of bits - 1 = omega arith in
    let rest = (λ i. bit_and (half i) (less i)) ∙ loses_lowest bits in
    omega (arith, and_step x (x - 1), rest)

-- and a word of none stays one of none, which one less than it wraps round
pub drops_lowest : (x : ℕ) (bits : List Bool) → x ≡ word_of bits → x < 2 ^ 64 → bit_and x ((x + (2 ^ 64 - 1)) % 2 ^ 64) ≡ word_of (without 1 bits)
drops_lowest x bits is fits =
    let by_one = λ (y : ℕ). bit_and x y ≡ word_of (without 1 bits) in
    let plain = subst (λ x. bit_and x (x - 1) ≡ word_of (without 1 bits)) (sym is) (loses_lowest bits) in
    elim (eq-zero-or-pos x) as (λ _. by_one ((x + (2 ^ 64 - 1)) % 2 ^ 64)) [
      | inl none ↦ subst (λ x. bit_and x ((x + (2 ^ 64 - 1)) % 2 ^ 64) ≡ bit_and x (x - 1)) (sym none) (and_zero_l (2 ^ 64 - 1) ∙ sym (and_zero_l 0)) ∙ plain
      | inr some ↦
          let less : (x + (2 ^ 64 - 1)) % 2 ^ 64 ≡ x - 1 = omega (arith, some, fits) in
          subst by_one (sym less) plain
    ]

-- ---- where character k begins

none_before : (t : Bool) (n m : ℕ) → n ≡ m → cond (not t) (1 + n) 0 ≡ (if t then 0 else suc m)
none_before true n m same = refl
none_before false n m same = omega (arith, same)

after_first : (t : Bool) (k : ℕ) (bits : List Bool) (f : ℕ → ℕ) → prefix_len (λ b. not b) (without k bits) ≡ f k → prefix_len (λ b. not b) (without (suc k) bits) ≡ f (suc k) → prefix_len (λ b. not b) (without (suc k) (t ∷ bits)) ≡ suc (f (if t then k else suc k))
after_first true k bits f one other = omega (arith, one)
after_first false k bits f one other = omega (arith, other)

first_left : (k : ℕ) (xs : List ℕ) → prefix_len (λ b. not b) (without k (map begins xs)) ≡ skipped k xs
first_left k [] = ap (prefix_len (λ b. not b)) (without_nil k)
first_left zero (x ∷ xs) = none_before (begins x) _ (skipped zero xs) (first_left zero xs)
first_left (suc k) (x ∷ xs) =
    after_first (begins x) k (map begins xs) (λ n. skipped n xs) (first_left k xs) (first_left (suc k) xs)

cut_first : (t : Bool) (n a b : ℕ) → a ≡ min n b → (if t then 0 else suc a) ≡ min (suc n) (if t then 0 else suc b)
cut_first true n a b same = omega arith
cut_first false n a b same = omega (arith, same)

-- of a row that ends before the bytes do
skipped_take : (k n : ℕ) (xs : List ℕ) → skipped k (take n xs) ≡ min n (skipped k xs)
skipped_take zero (suc n) (x ∷ xs) = cut_first (begins x) n (skipped zero (take n xs)) (skipped zero xs) (skipped_take zero n xs)
skipped_take (suc k) (suc n) (x ∷ xs) = omega (arith, skipped_take (if begins x then k else suc k) n xs)
skipped_take k n xs = omega arith

-- the lowest bit that is left is there, where the row goes on so far
lowest_place : (bits : List Bool) (len word : ℕ) → word ≡ word_of bits → length bits ≡ 16 → len ≤ 16 → min len (trailing_zeros w64 word) ≡ min len (prefix_len (λ b. not b) bits)
lowest_place bits len word is long few =
    let same : word ≡ mask_l (map (λ b. b) bits) = is ∙ sym (ap word_of (map-id bits)) in
    elim (eq-zero-or-pos word) as (λ _. min len (trailing_zeros w64 word) ≡ min len (prefix_len (λ b. not b) bits)) [
      | inl none ↦ omega (arith, few, long, ap (trailing_zeros w64) none ∙ trailing_of_zero 64, leading_from_mask_l (λ b. b) bits (sym same ∙ none))
      | inr some ↦ omega (arith, ap (trailing_zeros w64) same ∙ trailing_mask_l (λ b. b) 64 bits (omega (arith, long)) (omega (arith, some, same)))
    ]

-- of a row that begins with the bytes of a block, and has no more than them
module _ (xs : List ℕ) (len word : ℕ) (long : 16 ≤ length xs) (few : len ≤ 16) (is : word ≡ word_of (map begins (take 16 xs))) where
  abbrev bits : List Bool
  bits = map begins (take 16 xs)

  all : length bits ≡ 16
  all = length-map (take 16 xs) begins ∙ length-take-le 16 xs long

  place_of : (k left place : ℕ) → left ≡ word_of (without k bits) → place ≡ min len (trailing_zeros w64 left) → place ≡ skipped k (take len xs)
  place_of k left place has at =
      omega (arith, at, few, lowest_place (without k bits) len left has (length-without k bits ∙ all) few, first_left k (take 16 xs), skipped_take k 16 xs, skipped_take k len xs)

  -- where the part begins, and where it ends
  pub begin_at : (k left begin : ℕ) → ((bits : List Bool) → length bits ≡ 16 → word ≡ word_of bits → left ≡ word_of (without k bits)) → begin ≡ min len (trailing_zeros w64 left) → begin ≡ skipped k (take len xs)
  begin_at k left begin loses at = place_of k left begin (loses bits all is) at

  pub end_at : IsUtf8 (take len xs) → (k n left right begin end : ℕ) → ((bits : List Bool) → length bits ≡ 16 → word ≡ word_of bits → left ≡ word_of (without k bits)) → begin ≡ min len (trailing_zeros w64 left) → ((bits : List Bool) → length bits ≡ 16 → left ≡ word_of bits → right ≡ word_of (without n bits)) → end ≡ min len (trailing_zeros w64 right) → end ≡ begin + skipped n (drop begin (take len xs))
  end_at text k n left right begin end first at more to =
      let one = begin_at k left begin first at in
      let both = more (without k bits) (length-without k bits ∙ all) (first bits all is) ∙ ap word_of (without_more k n bits) in
      omega (arith, place_of (k + n) right end both to, skipped_more (take len xs) text k n, one, ap (λ m. skipped n (drop m (take len xs))) one)
