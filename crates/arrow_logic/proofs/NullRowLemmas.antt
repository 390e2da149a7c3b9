-- Which rows are null, by the validity.
use Rattle.arrow_logic.proofs.Common.{fits_combined, not-not, ◌≡◌, ◌∙◌, ℕ, zero, suc, Bool, true, false, Option, Some, None, List, [], ◌∷◌, length, map, replicate, arith, ap, subst, sym, refl, All, All-head, All-tail, is_null, Slot, both_bits, either_bits, FitsRows, IsValue, MarksNulls, length-map, masked, length-masked, marks-masked, nulls, combined, not}

-- which of so many rows a validity marks as null
abbrev pub unset_bits : Option (List Bool) → ℕ → List Bool
unset_bits None n = replicate n false
unset_bits (Some bits) n = map not bits

no_nulls : (rows : List Slot) → All IsValue rows → nulls rows ≡ replicate (length rows) false
no_nulls [] none = refl
no_nulls (row ∷ rows) none =
    let first = All-head IsValue row rows none in
    let rest = no_nulls rows (All-tail IsValue row rows none) in
    λ i. first i ∷ rest i

null_where_unset : (rows : List Slot) → map not (map (λ s. not (is_null s)) rows) ≡ nulls rows
null_where_unset [] = refl
null_where_unset (row ∷ rows) =
    let first = not-not (is_null row) in
    let rest = null_where_unset rows in
    λ i. first i ∷ rest i

-- rows are null where the validity that marks them is not set
pub nulls_marked : (v : Option (List Bool)) (rows : List Slot) → MarksNulls v rows → nulls rows ≡ unset_bits v (length rows)
nulls_marked None rows marks = no_nulls rows marks
nulls_marked (Some bits) rows marks = sym (ap (map not) marks ∙ null_where_unset rows)

unset_left : (bits : List Bool) (n : ℕ) → length bits ≡ n → map not bits ≡ either_bits (map not bits) (replicate n false)
unset_left [] zero long = refl
unset_left (true ∷ bits) (suc n) long = ap (λ xs. false ∷ xs) (unset_left bits n (omega (arith, long)))
unset_left (false ∷ bits) (suc n) long = ap (λ xs. true ∷ xs) (unset_left bits n (omega (arith, long)))
unset_left bits n long = absurd (omega (arith, long))

unset_right : (bits : List Bool) (n : ℕ) → length bits ≡ n → map not bits ≡ either_bits (replicate n false) (map not bits)
unset_right [] zero long = refl
unset_right (b ∷ bits) (suc n) long = ap (λ xs. not b ∷ xs) (unset_right bits n (omega (arith, long)))
unset_right bits n long = absurd (omega (arith, long))

none_unset : (n : ℕ) → replicate n false ≡ either_bits (replicate n false) (replicate n false)
none_unset zero = refl
none_unset (suc n) = ap (λ xs. false ∷ xs) (none_unset n)

unset_both : (bits others : List Bool) → map not (both_bits bits others) ≡ either_bits (map not bits) (map not others)
unset_both (true ∷ bits) (o ∷ others) = ap (λ xs. not o ∷ xs) (unset_both bits others)
unset_both (false ∷ bits) (o ∷ others) = ap (λ xs. true ∷ xs) (unset_both bits others)
unset_both bits others = refl

-- the validity of two marks a row as null where one of them does
pub unset_combined : (v w : Option (List Bool)) (n : ℕ) → FitsRows v n → FitsRows w n → unset_bits (combined v w) n ≡ either_bits (unset_bits v n) (unset_bits w n)
unset_combined None None n left right = none_unset n
unset_combined None (Some bits) n left right = unset_right bits n right
unset_combined (Some bits) None n left right = unset_left bits n left
unset_combined (Some bits) (Some others) n left right = unset_both bits others

-- a validity has a bit for each value, where it has one for each row
pub fits_values : {A : Type 0} (slot : A → Slot) (values : List A) (v : Option (List Bool)) (n : ℕ) → length values ≡ n → FitsRows v (length (map slot values)) → FitsRows v n
fits_values slot values v n long fits = subst (FitsRows v) (length-map values slot ∙ long) fits

-- the null rows of an array, by what is stored and its validity
pub nulls_stored : {A : Type 0} (slot : A → Slot) (values : List A) (v : Option (List Bool)) (n : ℕ) → All IsValue (map slot values) → length values ≡ n → FitsRows v n → nulls (masked v (map slot values)) ≡ unset_bits v n
nulls_stored slot values v n none long fits =
    let all = length-map values slot ∙ long in
    let covers = subst (FitsRows v) (sym all) fits in
    nulls_marked v (masked v (map slot values)) (marks-masked v (map slot values) none covers) ∙ ap (unset_bits v) (length-masked v (map slot values) covers ∙ all)

-- a validity alone
pub combined_none : (v : Option (List Bool)) → combined v None ≡ v
combined_none None = refl
combined_none (Some bits) = refl

-- where the validities of two are taken together, a row is null where it is in one of them
pub nulls_of_two : {A B C : Type 0} (slot : A → Slot) (left_slot : B → Slot) (right_slot : C → Slot) (values : List A) (left : List B) (right : List C) (v w u : Option (List Bool)) (n : ℕ) → All IsValue (map slot values) → All IsValue (map left_slot left) → All IsValue (map right_slot right) → length values ≡ n → length left ≡ n → length right ≡ n → FitsRows v n → FitsRows w n → u ≡ combined v w → nulls (masked u (map slot values)) ≡ either_bits (nulls (masked v (map left_slot left))) (nulls (masked w (map right_slot right)))
nulls_of_two slot left_slot right_slot values left right v w u n some_values left_values right_values long left_long right_long fits others together =
    let first = nulls_stored left_slot left v n left_values left_long fits in
    let second = nulls_stored right_slot right w n right_values right_long others in
    ap (λ x. nulls (masked x (map slot values))) together ∙ (nulls_stored slot values (combined v w) n some_values long (fits_combined v w n fits others) ∙ (unset_combined v w n fits others ∙ sym (λ i. either_bits (first i) (second i))))

-- and where one of them is a bit a row, where it is in the other or the bit is not set
pub nulls_under : {A : Type 0} (slot : A → Slot) (values : List A) (bits : List Bool) (v u : Option (List Bool)) → All IsValue (map slot values) → length bits ≡ length values → FitsRows v (length values) → u ≡ combined v (Some bits) → nulls (masked u (map slot values)) ≡ either_bits (nulls (masked v (map slot values))) (map not bits)
nulls_under slot values bits v u some_values long fits together =
    let n = length values in
    let first = nulls_stored slot values v n some_values refl fits in
    ap (λ x. nulls (masked x (map slot values))) together ∙ (nulls_stored slot values (combined v (Some bits)) n some_values refl (fits_combined v (Some bits) n fits long) ∙ (unset_combined v (Some bits) n fits long ∙ sym (ap (λ xs. either_bits xs (map not bits)) first)))
