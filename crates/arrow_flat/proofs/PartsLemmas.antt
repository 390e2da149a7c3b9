-- Rows of a flat array, by what is stored and its validity.
use Rattle.std.proofs.Common.{◌≡◌, ℕ, zero, suc, ◌+◌, ◌-◌, ◌<◌, ◌≤◌, Bool, true, false, not, Option, Some, None, List, [], ◌∷◌, length, map, take, drop, get_or, replicate, if◌then◌else◌, refl, ap, sym, subst, ◌∙◌, arith}
use Rattle.std.specs.Prelude.{cond, count_by, option_map, IfSome}
use Rattle.std.specs.Bool.{Decides}
use Rattle.std.specs.List.{All}
use Rattle.std.proofs.lemmas.Bool.Decides.{same_from_decides}
use Rattle.std.proofs.Math.Bool.{not-not}
use Rattle.std.proofs.Math.Seq.{take-suc}
use Rattle.std.proofs.lemmas.List.{drop-replicate, take-replicate, get_or-drop, length-drop}
use Rattle.std.proofs.lemmas.List.Sums.{sum_by-cons}
use Rattle.arrow_types.specs.ArrowType.{ArrowType}
use Rattle.arrow_types.specs.Relation.{is_null}
use Rattle.arrow_types.specs.Rows.{mask, masked, valid_at}
use Rattle.arrow_types.specs.Slot.{Slot, Null}
use Rattle.arrow_types.proofs.RowsLemmas.{length-mask}
use Rattle.arrow_memory.specs.Sliced.{sliced}
use Rattle.arrow_memory.proofs.SlicedLemmas.{length-sliced}
use Rattle.arrow_types.specs.StoredType.{type_code}
use Rattle.arrow_types.specs.SameTree.{same_by, same_by-decides}
use Rattle.arrow_flat.specs.Laws.{marked_row}
use Rattle.arrow_flat.specs.Parts.{Parts, meaning_code, FitsRows, IsValue, IsArray, rows_by, slice_by, unset_in, MarksNulls}

-- as many rows as are stored

pub length-masked : (v : Option (List Bool)) (xs : List Slot) → FitsRows v (length xs) → length (masked v xs) ≡ length xs
length-masked None xs fits = refl
length-masked (Some bits) xs fits = length-mask bits xs fits

-- a part of the rows

take-mask : (n : ℕ) (bits : List Bool) (xs : List Slot) → take n (mask bits xs) ≡ mask (take n bits) (take n xs)
take-mask (suc n) (b ∷ bits) (x ∷ xs) = ap (λ ys. (if b then x else Null) ∷ ys) (take-mask n bits xs)
take-mask n bits xs = refl

mask-none : (bits : List Bool) → mask bits [] ≡ []
mask-none [] = refl
mask-none (b ∷ bits) = refl

drop-mask : (n : ℕ) (bits : List Bool) (xs : List Slot) → drop n (mask bits xs) ≡ mask (drop n bits) (drop n xs)
drop-mask zero bits xs = refl
drop-mask (suc n) [] xs = refl
drop-mask (suc n) (b ∷ bits) [] = sym (mask-none (drop n bits))
drop-mask (suc n) (b ∷ bits) (x ∷ xs) = drop-mask n bits xs

pub masked-sliced : (v : Option (List Bool)) (xs : List Slot) (offset len : ℕ) → masked (option_map (λ bits. sliced bits offset len) v) (sliced xs offset len) ≡ sliced (masked v xs) offset len
masked-sliced None xs offset len = refl
masked-sliced (Some bits) xs offset len =
    sym (take-mask len (drop offset bits) (drop offset xs)) ∙ ap (take len) (sym (drop-mask offset bits xs))

-- the rows of a part are that part of the rows
pub rows_of_slice : {V : Type 0} (slots : V → List Slot) (part : V → ℕ → ℕ → V) (p : Parts V) (offset len : ℕ) → slots (part p.values offset len) ≡ sliced (slots p.values) offset len → rows_by slots (slice_by part p offset len) ≡ sliced (rows_by slots p) offset len
rows_of_slice slots part p offset len stored =
    ap (masked (option_map (λ bits. sliced bits offset len) p.validity)) stored ∙ masked-sliced p.validity (slots p.values) offset len

pub fits_part : (v : Option (List Bool)) (n offset len : ℕ) → FitsRows v n → offset + len ≤ n → FitsRows (option_map (λ bits. sliced bits offset len) v) len
fits_part None n offset len fits within = tt
fits_part (Some bits) n offset len fits within = length-sliced bits offset len (omega (arith, fits))

-- and they are an array again
pub array_of_part : {V : Type 0} (slots : V → List Slot) (are_of : V → ArrowType → Type 0) (part : V → ℕ → ℕ → V) (p : Parts V) (offset len : ℕ) → IsArray slots are_of p → offset + len ≤ length (slots p.values) → are_of (part p.values offset len) p.arrow_type → slots (part p.values offset len) ≡ sliced (slots p.values) offset len → IsArray slots are_of (slice_by part p offset len)
array_of_part slots are_of part p offset len array within kind stored =
    record {
      carried = array.carried;
      kind = kind;
      fits = rw (stored, length-sliced (slots p.values) offset len within) (fits_part p.validity (length (slots p.values)) offset len array.fits within);
    }

-- a validity is as long as its rows
pub fits_within : (v : Option (List Bool)) (n k : ℕ) → FitsRows v n → k ≤ n → IfSome v (λ bits. k ≤ length bits)
fits_within None n k fits within = tt
fits_within (Some bits) n k fits within = omega (arith, fits)

-- null rows

next_values : (x : Slot) (xs : List Slot) → All IsValue (x ∷ xs) → All IsValue xs
next_values x xs values = λ k d within. values (suc k) d (omega (arith, within))

none_null : (xs : List Slot) → All IsValue xs → count_by is_null xs ≡ 0
none_null [] values = refl
none_null (x ∷ xs) values =
    let first : is_null x ≡ false = values 0 x (omega arith) in
    let rest = none_null xs (next_values x xs values) in
    sum_by-cons (λ s. cond (is_null s) 1 0) x xs ∙ rw (first, rest) refl

null_count-mask : (bits : List Bool) (xs : List Slot) → All IsValue xs → length bits ≡ length xs → count_by is_null (mask bits xs) ≡ count_by not bits
null_count-mask [] xs values fits = refl
null_count-mask (b ∷ bits) [] values fits = absurd (omega (arith, fits))
null_count-mask (true ∷ bits) (x ∷ xs) values fits =
    let first : is_null x ≡ false = values 0 x (omega arith) in
    let rest = null_count-mask bits xs (next_values x xs values) (omega (arith, fits)) in
    sum_by-cons (λ s. cond (is_null s) 1 0) x (mask bits xs) ∙ rw (first, rest) (sym (sum_by-cons (λ b. cond (not b) 1 0) true bits))
null_count-mask (false ∷ bits) (x ∷ xs) values fits =
    let rest = null_count-mask bits xs (next_values x xs values) (omega (arith, fits)) in
    sum_by-cons (λ s. cond (is_null s) 1 0) Null (mask bits xs) ∙ rw rest (sym (sum_by-cons (λ b. cond (not b) 1 0) false bits))

-- as many rows are null as bits are not set
pub null_count-masked : (v : Option (List Bool)) (xs : List Slot) → All IsValue xs → FitsRows v (length xs) → count_by is_null (masked v xs) ≡ unset_in v
null_count-masked None xs values fits = none_null xs values
null_count-masked (Some bits) xs values fits = null_count-mask bits xs values fits

unset_are_null : (xs : List Slot) → count_by not (map (λ s. not (is_null s)) xs) ≡ count_by is_null xs
unset_are_null [] = refl
unset_are_null (x ∷ xs) =
    let first : cond (not (not (is_null x))) 1 0 ≡ cond (is_null x) 1 0 = ap (λ b. cond {A = ℕ} b 1 0) (not-not (is_null x)) in
    omega (arith, first, unset_are_null xs, sum_by-cons (λ b. cond (not b) 1 0) (not (is_null x)) (map (λ s. not (is_null s)) xs), sum_by-cons (λ s. cond (is_null s) 1 0) x xs)

pub null_count-marked : (v : Option (List Bool)) (xs : List Slot) → MarksNulls v xs → count_by is_null xs ≡ unset_in v
null_count-marked None xs values = none_null xs values
null_count-marked (Some bits) xs marks = sym (ap (count_by not) marks ∙ unset_are_null xs)

-- and they mark which
marks-mask : (bits : List Bool) (xs : List Slot) → All IsValue xs → length bits ≡ length xs → bits ≡ map (λ s. not (is_null s)) (mask bits xs)
marks-mask [] xs values fits = refl
marks-mask (b ∷ bits) [] values fits = absurd (omega (arith, fits))
marks-mask (true ∷ bits) (x ∷ xs) values fits =
    let first : is_null x ≡ false = values 0 x (omega arith) in
    let rest = marks-mask bits xs (next_values x xs values) (omega (arith, fits)) in
    λ i. not (sym first i) ∷ rest i
marks-mask (false ∷ bits) (x ∷ xs) values fits =
    let rest = marks-mask bits xs (next_values x xs values) (omega (arith, fits)) in
    λ i. false ∷ rest i

pub marks-masked : (v : Option (List Bool)) (xs : List Slot) → All IsValue xs → FitsRows v (length xs) → MarksNulls v (masked v xs)
marks-masked None xs values fits = values
marks-masked (Some bits) xs values fits = marks-mask bits xs values fits

-- one row

mask_at : (bits : List Bool) (xs : List Slot) (i : ℕ) → length bits ≡ length xs → i < length xs → get_or (mask bits xs) i Null ≡ (if get_or bits i true then get_or xs i Null else Null)
mask_at bits [] i fits within = absurd (omega (arith, within))
mask_at [] (x ∷ xs) i fits within = absurd (omega (arith, fits))
mask_at (b ∷ bits) (x ∷ xs) zero fits within = refl
mask_at (b ∷ bits) (x ∷ xs) (suc i) fits within = mask_at bits xs i (omega (arith, fits)) (omega (arith, within))

pub row_at : (v : Option (List Bool)) (xs : List Slot) (i : ℕ) → FitsRows v (length xs) → i < length xs → get_or (masked v xs) i Null ≡ (if valid_at v i then get_or xs i Null else Null)
row_at None xs i fits within = refl
row_at (Some bits) xs i fits within = mask_at bits xs i fits within

-- a row that is valid is what is stored
pub row_valid : {V : Type 0} {slots : V → List Slot} {are_of : V → ArrowType → Type 0} (p : Parts V) (i : ℕ) → IsArray slots are_of p → i < length (slots p.values) → true ≡ valid_at p.validity i → get_or (rows_by slots p) i Null ≡ get_or (slots p.values) i Null
row_valid {V} {slots} p i array within told =
    row_at p.validity (slots p.values) i array.fits within ∙ ap (λ b. if b then get_or (slots p.values) i Null else Null) (sym told)

-- and one that is not is null
pub row_null : {V : Type 0} {slots : V → List Slot} {are_of : V → ArrowType → Type 0} (p : Parts V) (i : ℕ) → IsArray slots are_of p → i < length (slots p.values) → false ≡ valid_at p.validity i → get_or (rows_by slots p) i Null ≡ Null
row_null {V} {slots} p i array within told =
    row_at p.validity (slots p.values) i array.fits within ∙ ap (λ b. if b then get_or (slots p.values) i Null else Null) (sym told)

-- which of them a row is, its bit says
pub row_marked : {V : Type 0} {slots : V → List Slot} {are_of : V → ArrowType → Type 0} (p : Parts V) (i : ℕ) → IsArray slots are_of p → All IsValue (slots p.values) → i < length (slots p.values) → valid_at p.validity i ≡ not (is_null (get_or (rows_by slots p) i Null))
row_marked {V} {slots} p i array values within =
    marked_row p.validity (rows_by slots p) i (marks-masked p.validity (slots p.values) values array.fits) (omega (arith, within, length-masked p.validity (slots p.values) array.fits))

-- a place among the rows is one among what is stored, where the parts are seen so
pub within_stored : {V : Type 0} {slots : V → List Slot} {are_of : V → ArrowType → Type 0} (p q : Parts V) (k : ℕ) → IsArray slots are_of p → p ≡ q → k ≤ length (rows_by slots q) → k ≤ length (slots p.values)
within_stored {V} {slots} p q k array seen within =
    let there = subst (λ r. k ≤ length (rows_by slots r)) (sym seen) within in
    omega (arith, there, length-masked p.validity (slots p.values) array.fits)

pub length-rows_by : {V : Type 0} {slots : V → List Slot} {are_of : V → ArrowType → Type 0} (p : Parts V) → IsArray slots are_of p → length (rows_by slots p) ≡ length (slots p.values)
length-rows_by {V} {slots} p array = length-masked p.validity (slots p.values) array.fits

-- two parts with one more row of each
pub sliced_next : {A : Type 0} (xs ys : List A) (start other_start i : ℕ) (d : A) → start + i < length xs → other_start + i < length ys → sliced xs start i ≡ sliced ys other_start i → get_or xs (start + i) d ≡ get_or ys (other_start + i) d → sliced xs start (i + 1) ≡ sliced ys other_start (i + 1)
sliced_next xs ys start other_start i d here there same row =
    let next : i + 1 ≡ suc i = omega arith in
    let left = take-suc (drop start xs) i d (omega (arith, here, length-drop start xs)) in
    let right = take-suc (drop other_start ys) i d (omega (arith, there, length-drop other_start ys)) in
    rw (next, left, right, get_or-drop start xs i d, get_or-drop other_start ys i d, same, row) refl

-- a validity has a bit for each row that it is asked of
pub bit_within : (v : Option (List Bool)) (n i : ℕ) → FitsRows v n → i < n → IfSome v (λ bits. i < length bits)
bit_within None n i fits within = tt
bit_within (Some bits) n i fits within = omega (arith, fits, within)

-- equality by type and rows, as a test of both tells it
pub same_by_meaning : (x y : ArrowType × List Slot) (r : Bool) → Decides r ((x.0 ≡ y.0) × (x.1 ≡ y.1)) → r ≡ same_by meaning_code x y
same_by_meaning x y r told =
    same_from_decides r (same_by meaning_code x y) (λ e i. ((told.0 e).0 i, (told.0 e).1 i), λ e. told.1 (ap (λ m. m.0) e, ap (λ m. m.1) e)) (same_by-decides meaning_code x y)

-- nulls of a part are nulls
pub nulls-sliced : (count offset len : ℕ) → offset + len ≤ count → sliced (replicate count Null) offset len ≡ replicate len Null
nulls-sliced count offset len within =
    ap (take len) (drop-replicate offset count Null) ∙ take-replicate len (count - offset) Null (omega (arith, within))

-- types are equal where a test by how they are stored says so
pub types_decide : (s t other_s other_t : ArrowType) (r : Bool) → r ≡ same_by type_code s t → s ≡ other_s → t ≡ other_t → Decides r (other_s ≡ other_t)
types_decide s t other_s other_t r told left right =
    rw (← left, ← right, told) (same_by-decides type_code s t)
