-- What a connective makes of two arrays of truth values, row by row.
use Rattle.arrow_logic.proofs.Common.{fits_combined, ◌≡◌, ℕ, ◌^◌, ◌<◌, w64, ◌&&◌, ◌||◌, Bool, true, false, not, Option, Some, None, List, [], ◌∷◌, length, map, if◌then◌else◌, refl, ap, sym, subst, ◌∙◌, arith, bit_or, bit_at, bit_not, length-map, both, either, kleene_both, kleene_either, mask, masked, Slot, Null, Boolean, both_bits, by_fours, either_bits, first_bits, paired, FitsRows, length-masked, bits_by, slot_by, kleene_by, decides, known_bit, known_side, row_by_row, combined, Connective, And, Or, and_each, and_not_each, length-paired, or_each, ◌==◌, bit_and}
use Rattle.arrow_logic.proofs.MaskedLemmas.{bits_of, masked-by_bits, length-bits_of, bits_of-combined, bits_of-known_side, fits_known_side}

-- one row: what is stored, where it is valid
abbrev row : Bool → Bool → Slot
row valid x = if valid then Boolean x else Null

-- the rows of lists that are as long, one row at a time

paired_rows : (bit : Bool → Bool → Bool) (give : Slot → Slot → Slot) → ((v x w y : Bool) → row (v && w) (bit x y) ≡ give (row v x) (row w y)) → (vs xs ws ys : List Bool) → length vs ≡ length xs → length ws ≡ length ys → length xs ≡ length ys
    → mask (both_bits vs ws) (map Boolean (paired bit xs ys)) ≡ row_by_row give (mask vs (map Boolean xs)) (mask ws (map Boolean ys))
paired_rows bit give one [] [] [] [] v w same = refl
paired_rows bit give one (b ∷ vs) (x ∷ xs) (c ∷ ws) (y ∷ ys) v w same =
    let rest = paired_rows bit give one vs xs ws ys (omega (arith, v)) (omega (arith, w)) (omega (arith, same)) in
    λ i. one b x c y i ∷ rest i
paired_rows bit give one vs xs ws ys v w same = absurd (omega (arith, same, w, v))

known_rows : (bit : Bool → Bool → Bool) (give : Slot → Slot → Slot) (decided : Slot → Bool) → ((v x w y : Bool) → row ((v || decided (row w y)) && (w || decided (row v x))) (bit x y) ≡ give (row v x) (row w y)) → (vs xs ws ys : List Bool) → length vs ≡ length xs → length ws ≡ length ys → length xs ≡ length ys
    → mask (both_bits (either_bits vs (map decided (mask ws (map Boolean ys)))) (either_bits ws (map decided (mask vs (map Boolean xs))))) (map Boolean (paired bit xs ys)) ≡ row_by_row give (mask vs (map Boolean xs)) (mask ws (map Boolean ys))
known_rows bit give decided one [] [] [] [] v w same = refl
known_rows bit give decided one (b ∷ vs) (x ∷ xs) (c ∷ ws) (y ∷ ys) v w same =
    let rest = known_rows bit give decided one vs xs ws ys (omega (arith, v)) (omega (arith, w)) (omega (arith, same)) in
    λ i. one b x c y i ∷ rest i
known_rows bit give decided one vs xs ws ys v w same = absurd (omega (arith, same, w, v))

-- the tables, by whether each side is valid and what it stores

both_table : (v x w y : Bool) → row (v && w) (x && y) ≡ both (row v x) (row w y)
both_table false x w y = refl
both_table true x false y = refl
both_table true x true y = refl

either_table : (v x w y : Bool) → row (v && w) (x || y) ≡ either (row v x) (row w y)
either_table false x w y = refl
either_table true x false y = refl
either_table true x true y = refl

kleene_both_table : (v x w y : Bool) → row ((v || decides And (row w y)) && (w || decides And (row v x))) (x && y) ≡ kleene_both (row v x) (row w y)
kleene_both_table true true true true = refl
kleene_both_table true false true y = refl
kleene_both_table false true true false = refl
kleene_both_table false x true true = refl
kleene_both_table v x w y = refl

kleene_either_table : (v x w y : Bool) → row ((v || decides Or (row w y)) && (w || decides Or (row v x))) (x || y) ≡ kleene_either (row v x) (row w y)
kleene_either_table true false true true = refl
kleene_either_table true true true y = refl
kleene_either_table false true true true = refl
kleene_either_table false x true false = refl
kleene_either_table v x w y = refl

-- the same by a connective

slot_rows : (op : Connective) (vs xs ws ys : List Bool) → length vs ≡ length xs → length ws ≡ length ys → length xs ≡ length ys → mask (both_bits vs ws) (map Boolean (bits_by op xs ys)) ≡ row_by_row (slot_by op) (mask vs (map Boolean xs)) (mask ws (map Boolean ys))
slot_rows And vs xs ws ys v w same = paired_rows (λ x y. x && y) both both_table vs xs ws ys v w same
slot_rows Or vs xs ws ys v w same = paired_rows (λ x y. x || y) either either_table vs xs ws ys v w same

kleene_rows : (op : Connective) (vs xs ws ys : List Bool) → length vs ≡ length xs → length ws ≡ length ys → length xs ≡ length ys
    → mask (both_bits (either_bits vs (map (decides op) (mask ws (map Boolean ys)))) (either_bits ws (map (decides op) (mask vs (map Boolean xs))))) (map Boolean (bits_by op xs ys)) ≡ row_by_row (kleene_by op) (mask vs (map Boolean xs)) (mask ws (map Boolean ys))
kleene_rows And vs xs ws ys v w same =
    known_rows (λ x y. x && y) kleene_both (decides And) kleene_both_table vs xs ws ys v w same
kleene_rows Or vs xs ws ys v w same =
    known_rows (λ x y. x || y) kleene_either (decides Or) kleene_either_table vs xs ws ys v w same

pub length-bits_by : (op : Connective) (xs ys : List Bool) → length xs ≡ length ys → length (bits_by op xs ys) ≡ length xs
length-bits_by And xs ys same = length-paired (λ x y. x && y) xs ys same
length-bits_by Or xs ys same = length-paired (λ x y. x || y) xs ys same

-- two arrays with as many rows have as many values
pub as_many_values : (v w : Option (List Bool)) (xs ys : List Bool) → FitsRows v (length (map Boolean xs)) → FitsRows w (length (map Boolean ys)) → length (masked v (map Boolean xs)) ≡ length (masked w (map Boolean ys)) → length xs ≡ length ys
as_many_values v w xs ys fits other same =
    omega (arith, same, length-masked v (map Boolean xs) fits, length-masked w (map Boolean ys) other, length-map xs Boolean, length-map ys Boolean)

fits_values : (v : Option (List Bool)) (xs : List Bool) (n : ℕ) → FitsRows v (length (map Boolean xs)) → length xs ≡ n → FitsRows v n
fits_values None xs n fits long = tt
fits_values (Some bits) xs n fits long = fits ∙ (length-map xs Boolean ∙ long)

-- rows of two-valued logic
pub fits_both : (op : Connective) (v w : Option (List Bool)) (xs ys : List Bool) → FitsRows v (length (map Boolean xs)) → FitsRows w (length (map Boolean ys)) → length xs ≡ length ys → FitsRows (combined v w) (length (bits_by op xs ys))
fits_both op v w xs ys fits other same =
    rw (length-bits_by op xs ys same) (fits_combined v w (length xs) (fits_values v xs (length xs) fits refl) (fits_values w ys (length xs) other (sym same)))

pub connected_rows : (op : Connective) (v w : Option (List Bool)) (xs ys : List Bool) → FitsRows v (length (map Boolean xs)) → FitsRows w (length (map Boolean ys)) → length xs ≡ length ys → masked (combined v w) (map Boolean (bits_by op xs ys)) ≡ row_by_row (slot_by op) (masked v (map Boolean xs)) (masked w (map Boolean ys))
connected_rows op v w xs ys fits other same =
    let n = length xs in
    let left = fits_values v xs n fits refl in
    let right = fits_values w ys n other (sym same) in
    let here = length-bits_of v n left in
    let there = length-bits_of w (length ys) (fits_values w ys (length ys) other refl) in
    let bits : bits_of (combined v w) (length (bits_by op xs ys)) ≡ both_bits (bits_of v n) (bits_of w (length ys)) =
    ap (bits_of (combined v w)) (length-bits_by op xs ys same) ∙ (bits_of-combined v w n left right ∙ ap (λ k. both_bits (bits_of v n) (bits_of w k)) same) in
    masked-by_bits (combined v w) (bits_by op xs ys) ∙ (ap (λ bs. mask bs (map Boolean (bits_by op xs ys))) bits ∙ (slot_rows op (bits_of v n) xs (bits_of w (length ys)) ys here there same
    ∙ (λ i. row_by_row (slot_by op) (sym (masked-by_bits v xs) i) (sym (masked-by_bits w ys) i))))

-- rows of Kleene's
abbrev pub known_of : Connective → Option (List Bool) → List Bool → Option (List Bool) → List Bool → Option (List Bool)
known_of op v xs w ys =
    combined (known_side v (map (decides op) (masked w (map Boolean ys)))) (known_side w (map (decides op) (masked v (map Boolean xs))))

pub length-deciding : (op : Connective) (v : Option (List Bool)) (xs : List Bool) → FitsRows v (length (map Boolean xs)) → length (map (decides op) (masked v (map Boolean xs))) ≡ length xs
length-deciding op v xs fits =
    length-map (masked v (map Boolean xs)) (decides op) ∙ (length-masked v (map Boolean xs) fits ∙ length-map xs Boolean)

pub fits_side : (op : Connective) (v w : Option (List Bool)) (xs ys : List Bool) → FitsRows v (length (map Boolean xs)) → FitsRows w (length (map Boolean ys)) → length xs ≡ length ys → FitsRows (known_side v (map (decides op) (masked w (map Boolean ys)))) (length xs)
fits_side op v w xs ys fits other same =
    fits_known_side v _ (length xs) (fits_values v xs (length xs) fits refl) (length-deciding op w ys other ∙ sym same)

pub fits_known : (op : Connective) (v w : Option (List Bool)) (xs ys : List Bool) → FitsRows v (length (map Boolean xs)) → FitsRows w (length (map Boolean ys)) → length xs ≡ length ys → FitsRows (known_of op v xs w ys) (length (bits_by op xs ys))
fits_known op v w xs ys fits other same =
    let there = subst (FitsRows (known_side w (map (decides op) (masked v (map Boolean xs))))) (sym same) (fits_side op w v ys xs other fits (sym same)) in
    rw (length-bits_by op xs ys same) (fits_combined (known_side v (map (decides op) (masked w (map Boolean ys)))) (known_side w (map (decides op) (masked v (map Boolean xs)))) (length xs) (fits_side op v w xs ys fits other same) there)

pub kleene_connected_rows : (op : Connective) (v w : Option (List Bool)) (xs ys : List Bool) → FitsRows v (length (map Boolean xs)) → FitsRows w (length (map Boolean ys)) → length xs ≡ length ys → masked (known_of op v xs w ys) (map Boolean (bits_by op xs ys)) ≡ row_by_row (kleene_by op) (masked v (map Boolean xs)) (masked w (map Boolean ys))
kleene_connected_rows op v w xs ys fits other same =
    let n = length xs in
    let m = length ys in
    let left = map (decides op) (masked v (map Boolean xs)) in
    let right = map (decides op) (masked w (map Boolean ys)) in
    let side = fits_side op v w xs ys fits other same in
    let other_side = subst (FitsRows (known_side w left)) (sym same) (fits_side op w v ys xs other fits (sym same)) in
    let here = length-bits_of v n (fits_values v xs n fits refl) in
    let there = length-bits_of w m (fits_values w ys m other refl) in
    let seen : either_bits (bits_of v n) right ≡ either_bits (bits_of v n) (map (decides op) (mask (bits_of w m) (map Boolean ys))) = ap (λ rows. either_bits (bits_of v n) (map (decides op) rows)) (masked-by_bits w ys) in
    let other_seen : either_bits (bits_of w n) left ≡ either_bits (bits_of w m) (map (decides op) (mask (bits_of v n) (map Boolean xs))) = λ i. either_bits (bits_of w (same i)) (map (decides op) (masked-by_bits v xs i)) in
    let bits = bits_of-combined (known_side v right) (known_side w left) n side other_side in
    let sides : both_bits (bits_of (known_side v right) n) (bits_of (known_side w left) n) ≡ both_bits (either_bits (bits_of v n) (map (decides op) (mask (bits_of w m) (map Boolean ys)))) (either_bits (bits_of w m) (map (decides op) (mask (bits_of v n) (map Boolean xs)))) = λ i. both_bits ((bits_of-known_side v right n (length-deciding op w ys other ∙ sym same) ∙ seen) i) ((bits_of-known_side w left n (length-deciding op v xs fits) ∙ other_seen) i) in
    masked-by_bits (known_of op v xs w ys) (bits_by op xs ys) ∙ (ap (λ bs. mask bs (map Boolean (bits_by op xs ys))) (ap (bits_of (known_of op v xs w ys)) (length-bits_by op xs ys same) ∙ (bits ∙ sides)) ∙ (kleene_rows op (bits_of v n) xs (bits_of w m) ys here there same
    ∙ (λ i. row_by_row (kleene_by op) (sym (masked-by_bits v xs) i) (sym (masked-by_bits w ys) i))))

-- ---- which rows decide

one_decides : (op : Connective) (give : Bool → Bool → Bool) → ((v x : Bool) → give v x ≡ decides op (row v x)) → (vs xs : List Bool) → length vs ≡ length xs → paired give vs xs ≡ map (decides op) (mask vs (map Boolean xs))
one_decides op give one [] xs fits = refl
one_decides op give one (b ∷ vs) [] fits = refl
one_decides op give one (b ∷ vs) (x ∷ xs) fits =
    λ i. one b x i ∷ one_decides op give one vs xs (omega (arith, fits)) i

not_decides : (v x : Bool) → v && not x ≡ decides And (row v x)
not_decides false x = refl
not_decides true true = refl
not_decides true false = refl

value_decides : (v x : Bool) → v && x ≡ decides Or (row v x)
value_decides false x = refl
value_decides true true = refl
value_decides true false = refl

unset_decide : (xs : List Bool) → map not xs ≡ map (decides And) (map Boolean xs)
unset_decide [] = refl
unset_decide (x ∷ xs) = λ i. not_decides true x i ∷ unset_decide xs i

set_decide : (xs : List Bool) → xs ≡ map (decides Or) (map Boolean xs)
set_decide [] = refl
set_decide (x ∷ xs) = λ i. value_decides true x i ∷ set_decide xs i

valid_unset_decide : (vs xs : List Bool) → length vs ≡ length (map Boolean xs) → first_bits vs xs ≡ map (decides And) (mask vs (map Boolean xs))
valid_unset_decide vs xs fits = one_decides And (λ v x. v && not x) not_decides vs xs (fits ∙ length-map xs Boolean)

valid_set_decide : (vs xs : List Bool) → length vs ≡ length (map Boolean xs) → both_bits vs xs ≡ map (decides Or) (mask vs (map Boolean xs))
valid_set_decide vs xs fits = one_decides Or (λ v x. v && x) value_decides vs xs (fits ∙ length-map xs Boolean)

-- the bits of an array by which a connective is decided
abbrev pub deciding_bits : Connective → Option (List Bool) → List Bool → List Bool
deciding_bits And None xs = map not xs
deciding_bits And (Some vs) xs = first_bits vs xs
deciding_bits Or None xs = xs
deciding_bits Or (Some vs) xs = both_bits vs xs

pub deciding_is : (op : Connective) (v : Option (List Bool)) (xs : List Bool) → FitsRows v (length (map Boolean xs)) → deciding_bits op v xs ≡ map (decides op) (masked v (map Boolean xs))
deciding_is And None xs fits = unset_decide xs
deciding_is And (Some vs) xs fits = valid_unset_decide vs xs fits
deciding_is Or None xs fits = set_decide xs
deciding_is Or (Some vs) xs fits = valid_set_decide vs xs fits

-- ---- which rows are known, of four bits

known_of_one : (op : Connective) (v x w y : Bool) → known_bit op v x w y ≡ ((v || decides op (row w y)) && (w || decides op (row v x)))
known_of_one And v x w y = λ i. (v || not_decides w y i) && (w || not_decides v x i)
known_of_one Or v x w y = λ i. (v || value_decides w y i) && (w || value_decides v x i)

known_of_bits : (op : Connective) (vs xs ws ys : List Bool) → length vs ≡ length xs → length ws ≡ length ys → length xs ≡ length ys → by_fours (known_bit op) vs xs ws ys ≡ both_bits (either_bits vs (map (decides op) (mask ws (map Boolean ys)))) (either_bits ws (map (decides op) (mask vs (map Boolean xs))))
known_of_bits op [] xs ws ys v w same = refl
known_of_bits op (b ∷ vs) (x ∷ xs) (c ∷ ws) (y ∷ ys) v w same =
    let rest = known_of_bits op vs xs ws ys (omega (arith, v)) (omega (arith, w)) (omega (arith, same)) in
    λ i. known_of_one op b x c y i ∷ rest i
known_of_bits op vs xs ws ys v w same = absurd (omega (arith, v, same, w))

-- of two arrays with a validity, and of one
pub known_in_both : (op : Connective) (v w : Option (List Bool)) (vs xs ws ys : List Bool) → v ≡ Some vs → w ≡ Some ws → FitsRows v (length (map Boolean xs)) → FitsRows w (length (map Boolean ys)) → length xs ≡ length ys → Some (by_fours (known_bit op) vs xs ws ys) ≡ known_of op v xs w ys
known_in_both op v w vs xs ws ys left right fits other same =
    let here = subst (λ o. FitsRows o (length (map Boolean xs))) left fits ∙ length-map xs Boolean in
    let there = subst (λ o. FitsRows o (length (map Boolean ys))) right other ∙ length-map ys Boolean in
    ap Some (known_of_bits op vs xs ws ys here there same) ∙ (λ i. known_of op (sym left i) xs (sym right i) ys)

-- and the words that tell it of 64 rows
pub known_of_and : (v x w y k : ℕ) → x < 2 ^ 64 → y < 2 ^ 64 → k < 64 → (bit_at (bit_and (bit_or v (bit_and w (bit_not w64 y))) (bit_or w (bit_and v (bit_not w64 x)))) k == 1) ≡ known_bit And (bit_at v k == 1) (bit_at x k == 1) (bit_at w k == 1) (bit_at y k == 1)
known_of_and v x w y k fits other below =
    let left = or_each v (bit_and w (bit_not w64 y)) k ∙ ap (λ b. (bit_at v k == 1) || b) (and_not_each w y k other below) in
    let right = or_each w (bit_and v (bit_not w64 x)) k ∙ ap (λ b. (bit_at w k == 1) || b) (and_not_each v x k fits below) in
    and_each (bit_or v (bit_and w (bit_not w64 y))) (bit_or w (bit_and v (bit_not w64 x))) k ∙ (λ i. left i && right i)

pub known_of_or : (v x w y k : ℕ) → (bit_at (bit_and (bit_or v (bit_and w y)) (bit_or w (bit_and v x))) k == 1) ≡ known_bit Or (bit_at v k == 1) (bit_at x k == 1) (bit_at w k == 1) (bit_at y k == 1)
known_of_or v x w y k =
    let left = or_each v (bit_and w y) k ∙ ap (λ b. (bit_at v k == 1) || b) (and_each w y k) in
    let right = or_each w (bit_and v x) k ∙ ap (λ b. (bit_at w k == 1) || b) (and_each v x k) in
    and_each (bit_or v (bit_and w y)) (bit_or w (bit_and v x)) k ∙ (λ i. left i && right i)
