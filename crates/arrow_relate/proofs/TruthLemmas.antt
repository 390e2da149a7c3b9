-- Relations of truth values, bit by bit.
use Rattle.std.proofs.Common.{◌≡◌, ◌∙◌, ℕ, ◌+◌, ◌%◌, ◌^◌, ◌<◌, w64, Bool, true, false, ◌&&◌, ◌||◌, arith, ap, refl}
use Rattle.std.specs.Prelude.{◌==◌, bit_and, bit_or, not}
use Rattle.std.specs.Int.{bit_at, bit_not}
use Rattle.std.specs.Int.Bits.{bit_xor}
use Rattle.std.proofs.lemmas.Bool.Decides.{nat_tests}
use Rattle.std.proofs.lemmas.Nat.{xor_lt}
use Rattle.std.proofs.lemmas.Nat.Bits.{bit_at-lt, bit_at_xor}
use Rattle.arrow_types.specs.Relation.{Relation, eq, neq, lt, lt_eq, gt, gt_eq, bool_order, holds}
use Rattle.arrow_memory.proofs.LogicLemmas.{and_each, not_each, or_each}

-- ---- of two truth values

abbrev pub relates : Relation → Bool → Bool → Bool
relates op x y = holds op (bool_order x y)

by_neq : (x y : Bool) → not (relates neq x y) ≡ relates eq x y
by_neq true true = refl
by_neq false false = refl
by_neq x y = refl

less_is : (x y : Bool) → not x && y ≡ relates lt x y
less_is true true = refl
less_is false false = refl
less_is x y = refl

at_most_is : (x y : Bool) → not x || y ≡ relates lt_eq x y
at_most_is true true = refl
at_most_is false false = refl
at_most_is x y = refl

more_is : (x y : Bool) → x && not y ≡ relates gt x y
more_is true true = refl
more_is false false = refl
more_is x y = refl

at_least_is : (x y : Bool) → x || not y ≡ relates gt_eq x y
at_least_is true true = refl
at_least_is false false = refl
at_least_is x y = refl

-- as numbers that are 0 or 1
xor_is : (a b : ℕ) → a < 2 → b < 2 → ((a + b) % 2 == 1) ≡ relates neq (a == 1) (b == 1)
xor_is a b small other = grind (arith, nat_tests)

-- ---- of each bit of two words

abbrev pub is_one : ℕ → ℕ → Bool
is_one word k = bit_at word k == 1

pub not_equal_word : (a b k : ℕ) → is_one (bit_xor a b) k ≡ relates neq (is_one a k) (is_one b k)
not_equal_word a b k =
    ap (λ x. x == 1) (bit_at_xor a b k) ∙ xor_is (bit_at a k) (bit_at b k) (bit_at-lt a k) (bit_at-lt b k)

pub equal_word : (a b k : ℕ) → a < 2 ^ 64 → b < 2 ^ 64 → k < 64 → is_one (bit_not w64 (bit_xor a b)) k ≡ relates eq (is_one a k) (is_one b k)
equal_word a b k small other below =
    not_each (bit_xor a b) k (xor_lt 64 a b small other) below ∙ (ap not (not_equal_word a b k) ∙ by_neq (is_one a k) (is_one b k))

pub less_word : (a b k : ℕ) → a < 2 ^ 64 → k < 64 → is_one (bit_and (bit_not w64 a) b) k ≡ relates lt (is_one a k) (is_one b k)
less_word a b k small below =
    and_each (bit_not w64 a) b k ∙ (ap (λ x. x && is_one b k) (not_each a k small below) ∙ less_is (is_one a k) (is_one b k))

pub at_most_word : (a b k : ℕ) → a < 2 ^ 64 → k < 64 → is_one (bit_or (bit_not w64 a) b) k ≡ relates lt_eq (is_one a k) (is_one b k)
at_most_word a b k small below =
    or_each (bit_not w64 a) b k ∙ (ap (λ x. x || is_one b k) (not_each a k small below) ∙ at_most_is (is_one a k) (is_one b k))

pub more_word : (a b k : ℕ) → b < 2 ^ 64 → k < 64 → is_one (bit_and a (bit_not w64 b)) k ≡ relates gt (is_one a k) (is_one b k)
more_word a b k small below =
    and_each a (bit_not w64 b) k ∙ (ap (λ y. is_one a k && y) (not_each b k small below) ∙ more_is (is_one a k) (is_one b k))

pub at_least_word : (a b k : ℕ) → b < 2 ^ 64 → k < 64 → is_one (bit_or a (bit_not w64 b)) k ≡ relates gt_eq (is_one a k) (is_one b k)
at_least_word a b k small below =
    or_each a (bit_not w64 b) k ∙ (ap (λ y. is_one a k || y) (not_each b k small below) ∙ at_least_is (is_one a k) (is_one b k))
