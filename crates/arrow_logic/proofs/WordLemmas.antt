-- Truth values that are true: in a word of rows, some, and all.
use Rattle.arrow_logic.proofs.Common.{◌≡◌, ℕ, zero, suc, ◌+◌, ◌-◌, ◌*◌, ◌^◌, ◌<◌, ◌≤◌, ◌&&◌, Bool, true, false, not, cond, Option, List, [], ◌∷◌, length, map, get_or, if◌then◌else◌, refl, ap, sym, subst, ◌∙◌, arith, inl, inr, w64, Contains, bit_at, trailing_zeros, All, cases_lt, nat_tests, length-map, All-nil, All-cons, sum_by-cons, bit_at-zero, bit_at-trailing_zeros, is_null, mask, masked, selects, Slot, Null, Boolean, FitsRows, ◌==◌, count_by}
use Rattle.arrow_logic.proofs.MaskedLemmas.{bits_of, length-bits_of, masked-by_bits}

-- ---- one row

and_false : (b : Bool) → b && false ≡ false
and_false true = refl
and_false false = refl

valid_row : (b x : Bool) → x && b ≡ selects (if b then Boolean x else Null)
valid_row true true = refl
valid_row true false = refl
valid_row false x = and_false x

pub valid_selects : (bits xs : List Bool) (i : ℕ) → (get_or xs i false && get_or bits i false) ≡ selects (get_or (mask bits (map Boolean xs)) i Null)
valid_selects [] xs i = and_false (get_or xs i false)
valid_selects (b ∷ bits) [] i = refl
valid_selects (b ∷ bits) (x ∷ xs) zero = valid_row b x
valid_selects (b ∷ bits) (x ∷ xs) (suc i) = valid_selects bits xs i

-- a row that is true, and where it stands
selected_is_true : (s : Slot) → selects s ≡ true → s ≡ Boolean true
selected_is_true (Boolean true) is = refl
selected_is_true _ is = cc

true_at : (rows : List Slot) (i : ℕ) → selects (get_or rows i Null) ≡ true → (i < length rows) × (get_or rows i (Boolean true) ≡ Boolean true)
true_at [] i is = cc
true_at (s ∷ rows) zero is = (omega arith, selected_is_true s is)
true_at (s ∷ rows) (suc i) is =
    let rest = true_at rows i is in
    (omega (arith, rest.0), rest.1)

true_selects : (rows : List Slot) (i : ℕ) → i < length rows → get_or rows i (Boolean true) ≡ Boolean true → selects (get_or rows i Null) ≡ true
true_selects [] i within is = absurd (omega (arith, within))
true_selects (s ∷ rows) zero within is = ap selects is
true_selects (s ∷ rows) (suc i) within is = true_selects rows i (omega (arith, within)) is

-- ---- words

-- each bit of a word says which of the 64 rows from a place on are true
abbrev pub IsWordOf : ℕ → List Slot → ℕ → Type 0
IsWordOf word rows from = (k : ℕ) → k < 64 → (bit_at word k == 1) ≡ selects (get_or rows (from + k) Null)

-- no row up to a place is true
abbrev pub NoneTrueUpTo : List Slot → ℕ → Type 0
NoneTrueUpTo rows n = (i : ℕ) → i < n → selects (get_or rows i Null) ≡ false

pub found : (word : ℕ) (rows : List Slot) (from : ℕ) → word < 2 ^ 64 → 0 < word → IsWordOf word rows from → Contains rows (Boolean true)
found word rows from fits some is =
    let k = trailing_zeros w64 word in
    let lowest = bit_at-trailing_zeros w64 word some fits in
    let set : selects (get_or rows (from + k) Null) ≡ true = sym (is k lowest.0) ∙ ap (λ b. b == 1) lowest.1 in
    let row = true_at rows (from + k) set in
    (from + k, row.0, row.1)

pub none_more : (word : ℕ) (rows : List Slot) (j : ℕ) → word ≡ 0 → IsWordOf word rows (64 * j) → NoneTrueUpTo rows (64 * j) → NoneTrueUpTo rows (64 * (j + 1))
none_more word rows j none is before i within =
    elim (cases_lt i (64 * j)) as (λ _. selects (get_or rows i Null) ≡ false) [
      | inl below ↦ before i below
      | inr from ↦
          let at : 64 * j + (i - 64 * j) ≡ i = omega (arith, from) in
          subst (λ n. selects (get_or rows n Null) ≡ false) at (sym (is (i - 64 * j) (omega (arith, within, from))) ∙ ap (λ b. b == 1) (ap (λ w. bit_at w (i - 64 * j)) none ∙ bit_at-zero (i - 64 * j)))
    ]

pub none_contained : (rows : List Slot) (n : ℕ) → length rows ≤ n → NoneTrueUpTo rows n → Contains rows (Boolean true) → ⊥
none_contained rows n long none has =
    let is = true_selects rows has.0 has.1 has.2 in
    let not_is = none has.0 (omega (arith, long, has.1)) in
    cc

-- ---- all rows

next_true : (s : Slot) (rows : List Slot) → All (λ s. s ≡ Boolean true) (s ∷ rows) → All (λ s. s ≡ Boolean true) rows
next_true s rows all = λ k d within. all (suc k) d (omega (arith, within))

all_of_mask : (bits xs : List Bool) → count_by is_null (mask bits (map Boolean xs)) ≡ 0 → count_by not xs ≡ 0 → All (λ s. s ≡ Boolean true) (mask bits (map Boolean xs))
all_of_mask (true ∷ bits) (true ∷ xs) nulls unset =
    let none : count_by is_null (mask bits (map Boolean xs)) ≡ 0 = omega (arith, nulls, sum_by-cons (λ s. cond (is_null s) 1 0) (Boolean true) (mask bits (map Boolean xs))) in
    let no_more : count_by not xs ≡ 0 = omega (arith, unset, sum_by-cons (λ b. cond (not b) 1 0) true xs) in
    All-cons (λ s. s ≡ Boolean true) (Boolean true) (mask bits (map Boolean xs)) refl (all_of_mask bits xs none no_more)
all_of_mask (true ∷ bits) (false ∷ xs) nulls unset =
    absurd (omega (arith, unset, sum_by-cons (λ b. cond (not b) 1 0) false xs))
all_of_mask (false ∷ bits) (x ∷ xs) nulls unset =
    absurd (omega (arith, nulls, sum_by-cons (λ s. cond (is_null s) 1 0) Null (mask bits (map Boolean xs))))
all_of_mask bits xs nulls unset = All-nil (λ s. s ≡ Boolean true)

none_of_mask : (bits xs : List Bool) → length bits ≡ length xs → All (λ s. s ≡ Boolean true) (mask bits (map Boolean xs)) → (count_by is_null (mask bits (map Boolean xs)) ≡ 0) × (count_by not xs ≡ 0)
none_of_mask [] [] fits all = (refl, refl)
none_of_mask (true ∷ bits) (true ∷ xs) fits all =
    let rest = none_of_mask bits xs (omega (arith, fits)) (next_true (Boolean true) (mask bits (map Boolean xs)) all) in
    (omega (arith, rest.0, sum_by-cons (λ s. cond (is_null s) 1 0) (Boolean true) (mask bits (map Boolean xs))), omega (arith, rest.1, sum_by-cons (λ b. cond (not b) 1 0) true xs))
none_of_mask (true ∷ bits) (false ∷ xs) fits all =
    let first : Boolean false ≡ Boolean true = all 0 Null (omega arith) in
    absurd (cc)
none_of_mask (false ∷ bits) (x ∷ xs) fits all =
    let first : Null ≡ Boolean true = all 0 Null (omega arith) in
    absurd (cc)
none_of_mask bits xs fits all = absurd (omega (arith, fits))

-- every row is true exactly where none is null and no value is false
pub all_true : (v : Option (List Bool)) (xs : List Bool) → count_by is_null (masked v (map Boolean xs)) ≡ 0 → count_by not xs ≡ 0 → All (λ s. s ≡ Boolean true) (masked v (map Boolean xs))
all_true v xs nulls unset =
    let rows = masked-by_bits v xs in
    subst (All (λ s. s ≡ Boolean true)) (sym rows) (all_of_mask (bits_of v (length xs)) xs (ap (count_by is_null) (sym rows) ∙ nulls) unset)

pub none_left : (v : Option (List Bool)) (xs : List Bool) → FitsRows v (length (map Boolean xs)) → All (λ s. s ≡ Boolean true) (masked v (map Boolean xs)) → (count_by is_null (masked v (map Boolean xs)) ≡ 0) × (count_by not xs ≡ 0)
none_left v xs fits all =
    let rows = masked-by_bits v xs in
    let here = subst (FitsRows v) (length-map xs Boolean) fits in
    let none = none_of_mask (bits_of v (length xs)) xs (length-bits_of v (length xs) here) (subst (All (λ s. s ≡ Boolean true)) rows all) in
    (ap (count_by is_null) rows ∙ none.0, none.1)

pub zero_of : (n : ℕ) → (n == 0) ≡ true → n ≡ 0
zero_of n is = grind (arith, nat_tests)
