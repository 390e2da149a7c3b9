-- Slots of stored values: those that are appended, and how many fit.
use Rattle.arrow_flat_growable.proofs.Common.{◌≡◌, ℕ, ◌+◌, ◌-◌, ◌<◌, ◌≤◌, ◌^◌, true, List, [], ◌++◌, length, map, take, replicate, ap, ◌∙◌, arith, length-append, lt_of_not-le, append-nil, length-map, length-replicate, map-append, take_all, ArrowType, Fits, physical_type_of, Slot, sliced, map_sliced, length-sliced, map_constant, Part, with_parts, fits_count}
use Rattle.std.specs.Prelude.{OnOk, Result, Ok, Err}
use Rattle.arrow_flat_growable.proofs.FitsLemmas.{is_only_counted, fits_only_counted}

module _ {A : Type 0} (slot : A → Slot) where
  -- a part of others behind one's own
  pub slots_part : (seen old values from new : List A) (start len : ℕ) → old ≡ seen → from ≡ values → new ≡ old ++ sliced from start len → map slot new ≡ map slot seen ++ sliced (map slot values) start len
  slots_part seen old values from new start len old_is from_is is =
      ap (map slot) (is ∙ (λ i. old_is i ++ sliced (from_is i) start len)) ∙ (map-append slot seen (sliced values start len) ∙ ap (λ ys. map slot seen ++ ys) (map_sliced slot values start len))

  -- and copies of one
  pub slots_constant : (seen old new : List A) (n : ℕ) (x z : A) → old ≡ seen → x ≡ z → new ≡ old ++ replicate n x → map slot new ≡ map slot seen ++ replicate n (slot z)
  slots_constant seen old new n x z old_is same is =
      ap (map slot) (is ∙ (λ i. old_is i ++ replicate n (same i))) ∙ (map-append slot seen (replicate n z) ∙ ap (λ ys. map slot seen ++ ys) (map_constant slot n z))

  -- slots fit where they are counted
  pub slots_fit : (t : ArrowType) (xs : List A) → is_only_counted (physical_type_of t) ≡ true → length xs < 2 ^ 64 → Fits t (map slot xs)
  slots_fit t xs kind count = fits_only_counted t (map slot xs) kind (omega (arith, count, length-map xs slot))

  -- and do not where there are too many
  pub part_too_many : (t : ArrowType) (seen old values : List A) (start len : ℕ) → old ≡ seen → start + len ≤ length (map slot values) → 2 ^ 64 ≤ length old + len → Fits t (map slot seen ++ sliced (map slot values) start len) → ⊥
  part_too_many t seen old values start len old_is within many fits =
      omega (arith, many, ap length old_is, fits_count t (map slot seen ++ sliced (map slot values) start len) fits, length-append (map slot seen) (sliced (map slot values) start len), length-map seen slot, length-sliced (map slot values) start len within)

  pub constant_fits : (t : ArrowType) (seen : List A) (n : ℕ) (s : Slot) → Fits t (map slot seen ++ replicate n s) → length seen + n < 2 ^ 64
  constant_fits t seen n s fits =
      omega (arith, fits_count t (map slot seen ++ replicate n s) fits, length-append (map slot seen) (replicate n s), length-map seen slot, length-replicate n s)

  pub constant_too_many : (t : ArrowType) (seen old : List A) (n : ℕ) (s : Slot) → old ≡ seen → 2 ^ 64 ≤ length old + n → Fits t (map slot seen ++ replicate n s) → ⊥
  constant_too_many t seen old n s old_is many fits =
      omega (arith, many, ap length old_is, constant_fits t seen n s fits)

-- a part behind rows of a type that fit by their count, where there is room for it
pub part_fits : (t : ArrowType) → is_only_counted (physical_type_of t) ≡ true → (seen part new : List Slot) (n : ℕ) → new ≡ seen ++ part → length part ≡ n → length seen + n < 2 ^ 64 → Fits t new
part_fits t kind seen part new n is many room =
    fits_only_counted t new kind (omega (arith, ap length is, length-append seen part, many, room))

-- what is appended without overflow is counted
pub counted_on_ok : {T E X : Type 0} (r : Result T E) (e : E) (old more new : List X) (n : ℕ) → length more ≡ n → (2 ^ 64 ≤ length old + n → r ≡ Err e) → OnOk r (new ≡ old ++ more) → OnOk r (length new < 2 ^ 64)
counted_on_ok (Ok x) e old more new n long full is =
    lt_of_not-le (λ many. absurd (cc (full (omega (arith, many, ap length is, length-append old more, long)))))
counted_on_ok (Err e) other old more new n long full is = tt

-- a list that grew to n values
pub grown_to : {A : Type 0} (xs new : List A) (x : A) (n m k : ℕ) → new ≡ take n xs ++ replicate (n - m) x → length xs ≡ m → n ≡ m + k → new ≡ xs ++ replicate k x
grown_to xs new x n m k is long grown =
    let whole : take n xs ≡ xs = take_all n xs (omega (arith, long, grown)) in
    let count : n - m ≡ k = omega (arith, grown) in
    is ∙ (λ i. whole i ++ replicate (count i) x)

-- what no part waits behind
pub copied_view : {A : Type 0} (sources : List (List A)) (values : List A) (parts : List (Part A)) → parts ≡ [] → with_parts sources values parts ≡ values
copied_view sources values parts none = ap (with_parts sources values) none ∙ append-nil values
