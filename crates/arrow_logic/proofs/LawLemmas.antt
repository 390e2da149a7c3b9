-- The laws of both logics, of one row and of all, and of parts.
use Rattle.arrow_logic.proofs.Common.{◌≡◌, ℕ, zero, suc, ◌+◌, ◌-◌, pos, min, Bool, true, false, not, Option, Some, None, List, [], ◌∷◌, length, map, take, drop, refl, ap, sym, ◌∙◌, arith, and_assoc, and_comm, not-not, or_assoc, or_comm, take-nil, scalar, scalars, drop-drop, drop_min, chars-encodes, scalars-chars, both, either, kleene_both, kleene_either, negated, at_most, cut, part, masked, Slot, Boolean, Bytes, Text, length_within, row_by_row, ◌&&◌, IsUtf8, encode_utf8_all, chars}
use native.Mathlib.Numerals.{unary_clauses}
use Rattle.arrow_logic.proofs.ScalarLemmas.{turned_rows}

-- ---- lists, by what holds of each pair

pub swapped : (give : Slot → Slot → Slot) → ((x y : Slot) → give x y ≡ give y x) → (xs ys : List Slot) → row_by_row give xs ys ≡ row_by_row give ys xs
swapped give one [] [] = refl
swapped give one [] (y ∷ ys) = refl
swapped give one (x ∷ xs) [] = refl
swapped give one (x ∷ xs) (y ∷ ys) = λ i. one x y i ∷ swapped give one xs ys i

pub regrouped : (give : Slot → Slot → Slot) → ((x y z : Slot) → give (give x y) z ≡ give x (give y z)) → (xs ys zs : List Slot) → row_by_row give (row_by_row give xs ys) zs ≡ row_by_row give xs (row_by_row give ys zs)
regrouped give one [] ys zs = refl
regrouped give one (x ∷ xs) [] zs = refl
regrouped give one (x ∷ xs) (y ∷ ys) [] = refl
regrouped give one (x ∷ xs) (y ∷ ys) (z ∷ zs) = λ i. one x y z i ∷ regrouped give one xs ys zs i

pub turned_pairs : (give other : Slot → Slot → Slot) → ((x y : Slot) → negated (give x y) ≡ other (negated x) (negated y)) → (xs ys : List Slot) → map negated (row_by_row give xs ys) ≡ row_by_row other (map negated xs) (map negated ys)
turned_pairs give other one [] ys = refl
turned_pairs give other one (x ∷ xs) [] = refl
turned_pairs give other one (x ∷ xs) (y ∷ ys) = λ i. one x y i ∷ turned_pairs give other one xs ys i

-- ---- one pair

pub both_swap : (x y : Slot) → both x y ≡ both y x
both_swap (Boolean a) (Boolean b) = ap Boolean (and_comm a b)
both_swap (Boolean a) y = refl
both_swap x (Boolean b) = refl
both_swap x y = refl

pub either_swap : (x y : Slot) → either x y ≡ either y x
either_swap (Boolean a) (Boolean b) = ap Boolean (or_comm a b)
either_swap (Boolean a) y = refl
either_swap x (Boolean b) = refl
either_swap x y = refl

pub both_group : (x y z : Slot) → both (both x y) z ≡ both x (both y z)
both_group (Boolean a) (Boolean b) (Boolean c) = ap Boolean (and_assoc a b c)
both_group (Boolean a) (Boolean b) z = refl
both_group (Boolean a) y z = refl
both_group x y z = refl

pub either_group : (x y z : Slot) → either (either x y) z ≡ either x (either y z)
either_group (Boolean a) (Boolean b) (Boolean c) = ap Boolean (or_assoc a b c)
either_group (Boolean a) (Boolean b) z = refl
either_group (Boolean a) y z = refl
either_group x y z = refl

pub kleene_both_swap : (x y : Slot) → kleene_both x y ≡ kleene_both y x
kleene_both_swap (Boolean false) (Boolean true) = refl
kleene_both_swap x (Boolean false) = refl
kleene_both_swap x y = refl

pub kleene_either_swap : (x y : Slot) → kleene_either x y ≡ kleene_either y x
kleene_either_swap (Boolean true) (Boolean false) = refl
kleene_either_swap x (Boolean true) = refl
kleene_either_swap x y = refl

pub kleene_both_group : (x y z : Slot) → kleene_both (kleene_both x y) z ≡ kleene_both x (kleene_both y z)
kleene_both_group (Boolean false) y z = refl
kleene_both_group x (Boolean false) z = refl
kleene_both_group x y (Boolean false) = refl
kleene_both_group x y z = refl

pub kleene_either_group : (x y z : Slot) → kleene_either (kleene_either x y) z ≡ kleene_either x (kleene_either y z)
kleene_either_group (Boolean true) y z = refl
kleene_either_group x (Boolean true) z = refl
kleene_either_group x y (Boolean true) = refl
kleene_either_group x y z = refl

pub kleene_both_turned : (x y : Slot) → negated (kleene_both x y) ≡ kleene_either (negated x) (negated y)
kleene_both_turned (Boolean false) y = refl
kleene_both_turned x (Boolean false) = refl
kleene_both_turned x y = refl

pub kleene_either_turned : (x y : Slot) → negated (kleene_either x y) ≡ kleene_both (negated x) (negated y)
kleene_either_turned (Boolean true) y = refl
kleene_either_turned x (Boolean true) = refl
kleene_either_turned x y = refl

-- ---- truth values that are turned twice

turned_bits : (xs : List Bool) → map not (map not xs) ≡ xs
turned_bits [] = refl
turned_bits (x ∷ xs) = λ i. not-not x i ∷ turned_bits xs i

pub turned_twice : (v : Option (List Bool)) (xs : List Bool) → map negated (map negated (masked v (map Boolean xs))) ≡ masked v (map Boolean xs)
turned_twice v xs =
    ap (map negated) (sym (turned_rows v xs)) ∙ (sym (turned_rows v (map not xs)) ∙ ap (λ ys. masked v (map Boolean ys)) (turned_bits xs))

-- ---- parts of parts

behind : (begin : ℕ) (len : Option ℕ) (units : List ℕ) → cut (pos begin) len units ≡ at_most len (drop begin units)
behind begin len units = ap (at_most len) (drop_min begin units)

drop_part : (begin k : ℕ) (units : List ℕ) → drop begin (take k units) ≡ take (k - begin) (drop begin units)
drop_part zero k units = simp unary_clauses refl
drop_part (suc begin) zero units =
    let none : 0 ≡ 0 - suc begin = omega arith in
    ap (λ n. take n (drop (suc begin) units)) none
drop_part (suc begin) (suc k) [] = sym (take-nil (suc k - suc begin))
drop_part (suc begin) (suc k) (x ∷ units) = simp unary_clauses (drop_part begin k units)

take_twice : (k n : ℕ) (units : List ℕ) → take k (take n units) ≡ take (min k n) units
take_twice zero n units = simp unary_clauses refl
take_twice (suc k) zero units = simp unary_clauses refl
take_twice (suc k) (suc n) [] = sym (take-nil (min (suc k) (suc n)))
take_twice (suc k) (suc n) (x ∷ units) = simp unary_clauses (ap (λ ys. x ∷ ys) (take_twice k n units))

limited : (len : Option ℕ) (begin : ℕ) (next : Option ℕ) (units : List ℕ) → at_most next (drop begin (at_most len units)) ≡ at_most (length_within len begin next) (drop begin units)
limited None begin next units = refl
limited (Some n) begin None units = drop_part begin n units
limited (Some n) begin (Some k) units = ap (take k) (drop_part begin n units) ∙ take_twice k (n - begin) (drop begin units)

cut_of_cut : (begin : ℕ) (len : Option ℕ) (next_begin : ℕ) (next : Option ℕ) (units : List ℕ) → cut (pos next_begin) next (cut (pos begin) len units) ≡ cut (pos (begin + next_begin)) (length_within len next_begin next) units
cut_of_cut begin len next_begin next units =
    behind next_begin next (cut (pos begin) len units) ∙ (ap (λ us. at_most next (drop next_begin us)) (behind begin len units) ∙ (limited len next_begin next (drop begin units)
    ∙ (ap (at_most (length_within len next_begin next)) (drop-drop next_begin begin units) ∙ sym (behind (begin + next_begin) (length_within len next_begin next) units))))

pub bytes_part_of_part : (begin : ℕ) (len : Option ℕ) (next_begin : ℕ) (next : Option ℕ) (bytes : List ℕ) → part (pos next_begin) next (part (pos begin) len (Bytes bytes)) ≡ part (pos (begin + next_begin)) (length_within len next_begin next) (Bytes bytes)
bytes_part_of_part begin len next_begin next bytes = ap Bytes (cut_of_cut begin len next_begin next bytes)

-- characters of a part of a text
and_both : (a b : Bool) → (a && b) ≡ true → (a ≡ true) × (b ≡ true)
and_both true b are = (refl, are)
and_both false b are = (are, cc)

scalars_drop : (n : ℕ) (cs : List ℕ) → scalars cs ≡ true → scalars (drop n cs) ≡ true
scalars_drop zero cs are = are
scalars_drop (suc n) [] are = are
scalars_drop (suc n) (c ∷ cs) are = scalars_drop n cs (and_both (scalar c) (scalars cs) are).1

scalars_take : (n : ℕ) (cs : List ℕ) → scalars cs ≡ true → scalars (take n cs) ≡ true
scalars_take zero cs are = refl
scalars_take (suc n) [] are = are
scalars_take (suc n) (c ∷ cs) are =
    (λ i. (and_both (scalar c) (scalars cs) are).0 i && scalars_take n cs (and_both (scalar c) (scalars cs) are).1 i)

scalars_cut : (begin : ℕ) (len : Option ℕ) (cs : List ℕ) → scalars cs ≡ true → scalars (cut (pos begin) len cs) ≡ true
scalars_cut begin None cs are = scalars_drop (min begin (length cs)) cs are
scalars_cut begin (Some n) cs are =
    scalars_take n (drop (min begin (length cs)) cs) (scalars_drop (min begin (length cs)) cs are)

pub text_part_of_part : (begin : ℕ) (len : Option ℕ) (next_begin : ℕ) (next : Option ℕ) (bytes : List ℕ) → IsUtf8 bytes → part (pos next_begin) next (part (pos begin) len (Text bytes)) ≡ part (pos (begin + next_begin)) (length_within len next_begin next) (Text bytes)
text_part_of_part begin len next_begin next bytes is =
    let cs = chars bytes in
    let spelled : chars (encode_utf8_all (cut (pos begin) len cs)) ≡ cut (pos begin) len cs = chars-encodes (cut (pos begin) len cs) (scalars_cut begin len cs (scalars-chars bytes is)) in
    ap (λ us. Text (encode_utf8_all (cut (pos next_begin) next us))) spelled ∙ ap (λ us. Text (encode_utf8_all us)) (cut_of_cut begin len next_begin next cs)
