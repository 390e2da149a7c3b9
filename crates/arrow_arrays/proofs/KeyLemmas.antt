-- Keys of dictionaries, and the rows that they name.
use Rattle.std.proofs.Common.{◌≡◌, ℕ, zero, suc, ◌+◌, ◌<◌, ◌≤◌, ℤ, pos, negsuc, ◌≤ℤ◌, ◌<ℤ◌, ◌↔◌, Bool, true, false, not, Option, Some, None, List, [], ◌∷◌, length, map, get_or, refl, sym, ap, subst, ◌∙◌, arith}
use Rattle.std.specs.Prelude.{cond, count_by, slice_get, IsTrue}
use Rattle.std.specs.List.{All}
use Rattle.std.proofs.lemmas.Int.{ints}
use Rattle.std.proofs.lemmas.List.{length-map, get_or_default}
use Rattle.std.proofs.lemmas.List.Sums.{sum_by-cons}
use Rattle.arrow_types.specs.ArrowType.{plain, null}
use Rattle.arrow_types.specs.Relation.{is_null}
use Rattle.arrow_types.specs.Rows.{masked, valid_at}
use Rattle.arrow_types.specs.Slot.{Slot, Null, Number}
use Rattle.arrow_flat.specs.Parts.{Parts, FitsRows, IsArray, IsValue, MarksNulls}
use Rattle.arrow_flat.proofs.PartsLemmas.{length-masked, row_valid, row_null}
use Rattle.arrow_flat.proofs.PieceLemmas.{slot_of_row}
use Rattle.arrow_arrays.specs.KeyedParts.{IsKey, IsKeyIn, AreKeys, key_in, keys_in}
use Rattle.arrow_arrays.specs.Layout.{keyed_item}

-- one row of an array of keys

-- a place among the rows is one among the keys that are stored
pub stored_within : (v : Option (List Bool)) (xs : List Slot) (i : ℕ) → FitsRows v (length xs) → i < length (masked v xs) → i < length xs
stored_within v xs i fits within = omega (arith, within, length-masked v xs fits)

pub key_within : {K : Type 0} (slot : K → Slot) (v : Option (List Bool)) (keys : List K) (i : ℕ) → FitsRows v (length (map slot keys)) → i < length (masked v (map slot keys)) → i < length keys
key_within slot v keys i fits within =
    omega (arith, stored_within v (map slot keys) i fits within, length-map keys slot)

abbrev slices_of : Option (List Bool) → List Slot → Parts (List Slot)
slices_of v xs = record { arrow_type = plain null; values = xs; validity = v }

array_of : (v : Option (List Bool)) (xs : List Slot) → FitsRows v (length xs) → IsArray (λ slots. slots) (λ slots t. Unit {0}) (slices_of v xs)
array_of v xs fits = record { carried = tt; kind = tt; fits = fits }

-- the row of a key that is null
pub null_row : (v : Option (List Bool)) (xs : List Slot) (i : ℕ) → FitsRows v (length xs) → i < length (masked v xs) → false ≡ valid_at v i → get_or (masked v xs) i Null ≡ Null
null_row v xs i fits within told =
    row_null (slices_of v xs) i (array_of v xs fits) (stored_within v xs i fits within) told

-- the row of a key that is not
pub number_row : {K : Type 0} (slot : K → Slot) (number : K → ℤ) → ((x : K) → slot x ≡ Number (number x)) → (v : Option (List Bool)) (keys : List K) (i : ℕ) (x : K) → FitsRows v (length (map slot keys)) → i < length (masked v (map slot keys)) → true ≡ valid_at v i → slice_get keys i ≡ Some x → get_or (masked v (map slot keys)) i Null ≡ Number (number x)
number_row slot number is v keys i x fits within told read =
    let xs = map slot keys in
    row_valid (slices_of v xs) i (array_of v xs fits) (stored_within v xs i fits within) told ∙ (slot_of_row slot keys i x read ∙ is x)

-- a number that is a key is not negative
pub not_negative : (s : Slot) (z : ℤ) → IsKeyIn s → s ≡ Number z → pos 0 ≤ℤ z
not_negative s (pos n) key is = omega (arith, ints)
not_negative s (negsuc n) key is = absurd (subst IsKeyIn is key)

-- a number names one of so many values where it is in range
pub key_in_range : (count : ℕ) (s : Slot) (z : ℤ) (r : Bool) → s ≡ Number z → IsTrue r ↔ ((pos 0 ≤ℤ z) × (z <ℤ pos count)) → IsTrue r ↔ IsKey count s
key_in_range count s (pos n) r is told =
    rw is (λ e. omega (arith, ints, told.0 e), λ key. told.1 (omega (arith, ints), omega (arith, ints, key)))
key_in_range count s (negsuc n) r is told =
    rw is (λ e. omega (arith, ints, told.0 e), λ key. absurd key)

-- a row that was read is its key among those of all rows
pub key_read : (rows : List Slot) (i : ℕ) (key : Option ℕ) → i < length rows → key ≡ key_in (get_or rows i Null) → slice_get (keys_in rows) i ≡ Some key
key_read [] i key within read = absurd (omega (arith, within))
key_read (s ∷ rows) zero key within read = ap Some (sym read)
key_read (s ∷ rows) (suc i) key within read = key_read rows i key (omega (arith, within)) read

-- the keys are those of all rows where each row's is
pub are_keys : (count : ℕ) (rows : List Slot) → ((k : ℕ) → k < length rows → IsKey count (get_or rows k Null)) → AreKeys count rows
are_keys count rows each =
    λ k d within. subst (IsKey count) (get_or_default rows k Null d within) (each k within)

-- the rows of a dictionary

next_keys : (count : ℕ) (s : Slot) (keys : List Slot) → AreKeys count (s ∷ keys) → AreKeys count keys
next_keys count s keys held = λ k d within. held (suc k) d (omega (arith, within))

first_key : (count : ℕ) (s : Slot) (keys : List Slot) → AreKeys count (s ∷ keys) → IsKey count s
first_key count s keys held = held 0 s (omega arith)

-- a key is null or names one of so many values
pub each_key : (count : ℕ) (P : Slot → Type 0) → P Null → ((n : ℕ) → n < count → P (Number (pos n))) → (s : Slot) → IsKey count s → P s
each_key count P none one Null key = none
each_key count P none one (Number (pos n)) key = one n key
each_key count P none one s key = absurd key

-- a row is null exactly where its key is
null_with_key : (count : ℕ) (xs : List Slot) (s : Slot) → IsKey count s → is_null (keyed_item xs (key_in s)) ≡ is_null s
null_with_key count xs = each_key count (λ s. is_null (keyed_item xs (key_in s)) ≡ is_null s) refl (λ n within. refl)

-- as many rows are null as keys are
pub null_count-keyed : (count : ℕ) (xs keys : List Slot) → AreKeys count keys → count_by is_null (map (keyed_item xs) (keys_in keys)) ≡ count_by is_null keys
null_count-keyed count xs [] held = refl
null_count-keyed count xs (s ∷ keys) held =
    let first = null_with_key count xs s (first_key count s keys held) in
    let rest = null_count-keyed count xs keys (next_keys count s keys held) in
    sum_by-cons (λ s. cond (is_null s) 1 0) (keyed_item xs (key_in s)) (map (keyed_item xs) (keys_in keys)) ∙ rw (first, rest) (sym (sum_by-cons (λ s. cond (is_null s) 1 0) s keys))

values-keyed : (count : ℕ) (xs keys : List Slot) → AreKeys count keys → (k : ℕ) (d : Slot) → All IsValue keys → k < length keys → IsValue (get_or (map (keyed_item xs) (keys_in keys)) k d)
values-keyed count xs [] held k d values within = absurd (omega (arith, within))
values-keyed count xs (s ∷ keys) held zero d values within =
    null_with_key count xs s (first_key count s keys held) ∙ values 0 s (omega arith)
values-keyed count xs (s ∷ keys) held (suc k) d values within =
    values-keyed count xs keys (next_keys count s keys held) k d (λ j e here. values (suc j) e (omega (arith, here))) (omega (arith, within))

marks-keyed : (count : ℕ) (xs keys : List Slot) → AreKeys count keys → map (λ s. not (is_null s)) (map (keyed_item xs) (keys_in keys)) ≡ map (λ s. not (is_null s)) keys
marks-keyed count xs [] held = refl
marks-keyed count xs (s ∷ keys) held =
    let first = null_with_key count xs s (first_key count s keys held) in
    let rest = marks-keyed count xs keys (next_keys count s keys held) in
    λ i. not (first i) ∷ rest i

-- and the same rows are marked
pub marks_of_keys : (v : Option (List Bool)) (count : ℕ) (xs keys : List Slot) → AreKeys count keys → MarksNulls v keys → MarksNulls v (map (keyed_item xs) (keys_in keys))
marks_of_keys None count xs keys held marks =
    let long = length-map (keys_in keys) (keyed_item xs) in
    λ k d within. values-keyed count xs keys held k d marks (omega (arith, within, long, length-map keys key_in))
marks_of_keys (Some bits) count xs keys held marks = marks ∙ sym (marks-keyed count xs keys held)

-- a key names one of the values
some_below : (count n k : ℕ) → n < count → ◌≡◌ {A = Option ℕ} (Some n) (Some k) → k < count
some_below count n k within is =
    let same : n ≡ k = cc in
    omega (arith, within, same)

named : (count : ℕ) (s : Slot) (k : ℕ) → IsKey count s → key_in s ≡ Some k → k < count
named count s k key is =
    each_key count (λ s. key_in s ≡ Some k → k < count) (λ is. absurd cc) (λ n within. some_below count n k within) s key is

pub key_below : (count : ℕ) (keys : List Slot) (i k : ℕ) → AreKeys count keys → slice_get (keys_in keys) i ≡ Some (Some k) → k + 1 ≤ count
key_below count [] i k held read = absurd (cc)
key_below count (s ∷ keys) zero k held read =
    let is : key_in s ≡ Some k = cc in
    omega (arith, named count s k (first_key count s keys held) is)
key_below count (s ∷ keys) (suc i) k held read = key_below count keys i k (next_keys count s keys held) read
