-- Logic on bits and on the words that hold them.
use Rattle.arrow_memory.proofs.Common.{◌≡◌, ℕ, ◌+◌, ◌-◌, ◌*◌, ◌/◌, ◌%◌, ◌^◌, ◌<◌, ◌≤◌, ◌==◌, min, max, map, w64, ◌&&◌, ◌||◌, Bool, false, not, List, [], ◌∷◌, length, get_or, refl, ap, sym, ◌∙◌, arith, slice_index, inl, inr, bit_and, bit_or, set, bit_at, bit_not, cases_eq, nat_tests, range_with_len, get_or-set_same, get_or-set_other, bit_at_and, bit_at_or, bit_at_not, bit_at-lt, paired, is_set, bits_in, word_of}
use Rattle.arrow_memory.proofs.BitmapLemmas.{bit_of-word_of, bits_by_place, by_place}
use Rattle.arrow_memory.proofs.WordLemmas.{get_or-bits_in}

-- ---- of two bits, as numbers

min_is : (a b : ℕ) → a < 2 → b < 2 → (min a b == 1) ≡ ((a == 1) && (b == 1))
min_is a b small other = grind (arith, nat_tests)

pub max_is : (a b : ℕ) → a < 2 → b < 2 → (max a b == 1) ≡ ((a == 1) || (b == 1))
max_is a b small other = grind (arith, nat_tests)

turned_is : (a : ℕ) → a < 2 → (1 - a == 1) ≡ not (a == 1)
turned_is a small = grind (arith, nat_tests)

pub and_each : (a b k : ℕ) → (bit_at (bit_and a b) k == 1) ≡ ((bit_at a k == 1) && (bit_at b k == 1))
and_each a b k = ap (λ x. x == 1) (bit_at_and a b k) ∙ min_is (bit_at a k) (bit_at b k) (bit_at-lt a k) (bit_at-lt b k)

pub or_each : (a b k : ℕ) → (bit_at (bit_or a b) k == 1) ≡ ((bit_at a k == 1) || (bit_at b k == 1))
or_each a b k = ap (λ x. x == 1) (bit_at_or a b k) ∙ max_is (bit_at a k) (bit_at b k) (bit_at-lt a k) (bit_at-lt b k)

pub not_each : (a k : ℕ) → a < 2 ^ 64 → k < 64 → (bit_at (bit_not w64 a) k == 1) ≡ not (bit_at a k == 1)
not_each a k small below = ap (λ x. x == 1) (bit_at_not w64 a k small below) ∙ turned_is (bit_at a k) (bit_at-lt a k)

pub and_not_each : (a b k : ℕ) → b < 2 ^ 64 → k < 64 → (bit_at (bit_and a (bit_not w64 b)) k == 1) ≡ ((bit_at a k == 1) && not (bit_at b k == 1))
and_not_each a b k small below =
    and_each a (bit_not w64 b) k ∙ ap (λ bit. (bit_at a k == 1) && bit) (not_each b k small below)

-- ---- one word after the other

-- what is written up to a word, and left as it was from there on
pub record GivesUpTo (give : Bool → ℕ → Bool) (old new : List ℕ) (j : ℕ) : Type 0 where
  pub given : (i : ℕ) → i < 64 * j → is_set new i ≡ give (is_set old i) i
  pub left : (i : ℕ) → 64 * j ≤ i → is_set new i ≡ is_set old i

pub gives_more : (give : Bool → ℕ → Bool) (old words : List ℕ) (j value : ℕ) → GivesUpTo give old words j → j < length words → ((i : ℕ) → i / 64 ≡ j → (bit_at value (i % 64) == 1) ≡ give (is_set words i) i) → GivesUpTo give old (set words j value) (j + 1)
gives_more give old words j value before within word =
    let other : (i : ℕ) → (i / 64 ≡ j → ⊥) → is_set (set words j value) i ≡ is_set words i = λ i there. ap (λ w. bit_at w (i % 64) == 1) (get_or-set_other words j (i / 64) value 0 there) in
    record {
      given = λ i below.
          elim (cases_eq (i / 64) j) as (λ _. is_set (set words j value) i ≡ give (is_set old i) i) [
            | inl here ↦
                let read : slice_index (set words j value) (i / 64) ≡ value = rw here (get_or-set_same words j value 0 within) in
                ap (λ w. bit_at w (i % 64) == 1) read ∙ (word i here ∙ ap (λ bit. give bit i) (before.left i (omega arith)))
            | inr there ↦ other i there ∙ before.given i (omega arith)
          ];
      left = λ i from. other i (λ here. omega arith) ∙ before.left i (omega arith);
    }

-- a bit of a word that is read of others
pub read_at : (words : List ℕ) (from j value i : ℕ) → value ≡ word_of (bits_in words (from + 64 * j) 64) → i / 64 ≡ j → (bit_at value (i % 64) == 1) ≡ is_set words (from + i)
read_at words from j value i is here =
    let at : from + 64 * j + i % 64 ≡ from + i = omega arith in
    ap (λ w. bit_at w (i % 64) == 1) is ∙ (bit_of-word_of (bits_in words (from + 64 * j) 64) (i % 64) ∙ (get_or-bits_in words (from + 64 * j) 64 (i % 64) false (omega arith) ∙ ap (is_set words) at))

-- one word more, given with that of others
pub combines_more : (bits : Bool → Bool → Bool) (old words others : List ℕ) (from j left right value : ℕ) → GivesUpTo (λ bit i. bits bit (is_set others (from + i))) old words j → j < length words → left ≡ slice_index words j → right ≡ word_of (bits_in others (from + 64 * j) 64)
    → ((k : ℕ) → k < 64 → (bit_at value k == 1) ≡ bits (bit_at left k == 1) (bit_at right k == 1)) → GivesUpTo (λ bit i. bits bit (is_set others (from + i))) old (set words j value) (j + 1)
combines_more bits old words others from j left right value before within left_is right_is gives =
    gives_more (λ bit i. bits bit (is_set others (from + i))) old words j value before within (λ i here.
    let own = ap (λ w. bit_at w (i % 64) == 1) (left_is ∙ ap (slice_index words) (sym here)) in
    let other = read_at others from j right i right_is here in
    gives (i % 64) (omega arith) ∙ (λ t. bits (own t) (other t)))

-- ---- lists of bits

pub length-paired : (give : Bool → Bool → Bool) (xs ys : List Bool) → length xs ≡ length ys → length (paired give xs ys) ≡ length xs
length-paired give [] ys h = refl
length-paired give (x ∷ xs) [] h = absurd (omega (arith, h))
length-paired give (x ∷ xs) (y ∷ ys) h = omega (arith, length-paired give xs ys (omega (arith, h)))

pub pairs : (f g : ℕ → Bool) (give : Bool → Bool → Bool) (ns : List ℕ) → paired give (map f ns) (map g ns) ≡ map (λ n. give (f n) (g n)) ns
pairs f g give [] = refl
pairs f g give (n ∷ ns) = ap (λ bits. give (f n) (g n) ∷ bits) (pairs f g give ns)

pub bits_in-paired : (give : Bool → Bool → Bool) (words : List ℕ) (xs ys : List Bool) → length xs ≡ length ys → ((i : ℕ) → i < length xs → is_set words i ≡ give (get_or xs i false) (get_or ys i false)) → bits_in words 0 (length xs) ≡ paired give xs ys
bits_in-paired give words xs ys same each =
    let places = pairs (λ k. get_or xs k false) (λ k. get_or ys k false) give (range_with_len 0 (length xs)) in
    bits_by_place words (length xs) (λ k. give (get_or xs k false) (get_or ys k false)) each ∙ sym ((λ t. paired give (by_place xs (length xs) refl t) (by_place ys (length xs) (sym same) t)) ∙ places)

turned_all : (f : ℕ → Bool) (ns : List ℕ) → map not (map f ns) ≡ map (λ n. not (f n)) ns
turned_all f [] = refl
turned_all f (n ∷ ns) = ap (λ bits. not (f n) ∷ bits) (turned_all f ns)

pub bits_in-turned : (words : List ℕ) (xs : List Bool) → ((i : ℕ) → i < length xs → is_set words i ≡ not (get_or xs i false)) → bits_in words 0 (length xs) ≡ map not xs
bits_in-turned words xs each =
    bits_by_place words (length xs) (λ k. not (get_or xs k false)) each ∙ sym (ap (map not) (by_place xs (length xs) refl) ∙ turned_all (λ k. get_or xs k false) (range_with_len 0 (length xs)))
