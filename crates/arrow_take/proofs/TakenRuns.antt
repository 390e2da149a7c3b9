-- Runs of indices, and the rows that they name.
use Rattle.arrow_take.proofs.Common.{arith, ◌≡◌, ◌+◌, ℕ, zero, suc, ◌<◌, ◌≤◌, pos, Option, Some, None, IfSome, List, [], ◌∷◌, ◌++◌, length, take, drop, get_or, replicate, refl, ap, sym, ◌∙◌, unwrap_or, map-append, take-append-drop, map-range_with_len_more, slice_get-get_or, ArrowType, gather, gathered, Slot, Null, Number, null_slot, drop_at_read, sliced, sliced-cut, one_row, AreKeys, IsKey, key_in, run_of, each_key}

-- the rows of a run of places
rows_of_places : (xs : List Slot) (t : ArrowType) (start count : ℕ) → start + count ≤ length xs → gather xs (run_of (Some start) count) t ≡ sliced xs start count
rows_of_places xs t start zero within = refl
rows_of_places xs t start (suc count) within =
    let read = slice_get-get_or xs start Null (omega (arith, within)) in
    let first = ap (λ o. unwrap_or o (null_slot t)) read in
    let rest = rows_of_places xs t (start + 1) count (omega (arith, within)) in
    (λ i. first i ∷ rest i) ∙ sym (ap (take (suc count)) (drop_at_read xs start _ read))

rows_of_nulls : (xs : List Slot) (t : ArrowType) (count : ℕ) → gather xs (run_of None count) t ≡ replicate count (null_slot t)
rows_of_nulls xs t zero = refl
rows_of_nulls xs t (suc count) = ap (λ ys. null_slot t ∷ ys) (rows_of_nulls xs t count)

-- what an index is, by its key
number_by : (count n : ℕ) (s : Slot) → IsKey count s → key_in s ≡ Some n → s ≡ Number (pos n)
number_by count n =
    each_key count (λ s. key_in s ≡ Some n → s ≡ Number (pos n)) (λ is. absurd (cc)) (λ m has is. cc)

null_by : (count : ℕ) (s : Slot) → IsKey count s → key_in s ≡ None → s ≡ Null
null_by count = each_key count (λ s. key_in s ≡ None → s ≡ Null) (λ is. refl) (λ m has is. absurd (cc))

-- a run of one, and one more
module _ (indices : List Slot) (len : ℕ) (keys : AreKeys len indices) (row : ℕ) where
  next_of : (count : ℕ) (s : Slot) → row + count < length indices → get_or indices (row + count) Null ≡ s → sliced indices row (count + 1) ≡ sliced indices row count ++ s ∷ []
  next_of count s within is =
      sliced-cut indices row count 1 ∙ (ap (λ xs. sliced indices row count ++ xs) (one_row indices (row + count) Null within) ∙ ap (λ x. sliced indices row count ++ x ∷ []) is)

  pub place_more : (start count : ℕ) → row + count < length indices → key_in (get_or indices (row + count) Null) ≡ Some (start + count) → sliced indices row count ≡ run_of (Some start) count → sliced indices row (count + 1) ≡ run_of (Some start) (count + 1)
  place_more start count within key so_far =
      next_of count _ within (number_by len (start + count) (get_or indices (row + count) Null) (keys (row + count) Null within) key) ∙ (ap (λ xs. xs ++ Number (pos (start + count)) ∷ []) so_far ∙ sym (map-range_with_len_more (λ n. Number (pos n)) start count (start + count) refl))

  more_nulls : (count : ℕ) → run_of None (count + 1) ≡ run_of None count ++ Null ∷ []
  more_nulls zero = refl
  more_nulls (suc count) =
      let next : suc count + 1 ≡ suc (count + 1) = omega arith in
      rw next (ap (λ xs. Null ∷ xs) (more_nulls count))

  pub null_more : (count : ℕ) → row + count < length indices → key_in (get_or indices (row + count) Null) ≡ None → sliced indices row count ≡ run_of None count → sliced indices row (count + 1) ≡ run_of None (count + 1)
  null_more count within key so_far =
      next_of count _ within (null_by len (get_or indices (row + count) Null) (keys (row + count) Null within) key) ∙ (ap (λ xs. xs ++ Null ∷ []) so_far ∙ sym (more_nulls count))

  pub null_first : row < length indices → key_in (get_or indices row Null) ≡ None → sliced indices row 1 ≡ run_of None 1
  null_first within key =
      one_row indices row Null within ∙ ap (λ s. s ∷ []) (null_by len (get_or indices row Null) (keys row Null within) key)

-- the rows of the indices so far, and of a run behind them
module _ (xs indices : List Slot) (t : ArrowType) (row count : ℕ) where
  cut_at : take (row + count) indices ≡ take row indices ++ sliced indices row count
  cut_at =
      let start : 0 + row ≡ row = omega arith in
      sliced-cut indices 0 row count ∙ ap (λ n. take row indices ++ sliced indices n count) start

  pub gather_more : (more : List Slot) → gather xs (sliced indices row count) t ≡ more → gather xs (take (row + count) indices) t ≡ gather xs (take row indices) t ++ more
  gather_more more is =
      ap (λ is. gather xs is t) cut_at ∙ (map-append (gathered xs t) (take row indices) (sliced indices row count) ∙ ap (λ ys. gather xs (take row indices) t ++ ys) is)

  -- and of those that are left
  pub gather_all : (more : List Slot) → gather xs (sliced indices row count) t ≡ more → gather xs indices t ≡ (gather xs (take row indices) t ++ more) ++ gather xs (drop (row + count) indices) t
  gather_all more is =
      ap (λ is. gather xs is t) (sym (take-append-drop (row + count) indices)) ∙ (map-append (gathered xs t) (take (row + count) indices) (drop (row + count) indices) ∙ ap (λ ys. ys ++ gather xs (drop (row + count) indices) t) (gather_more more is))

-- what a run appends
abbrev pub rows_of_run : List Slot → ArrowType → Option ℕ → ℕ → List Slot
rows_of_run xs t None count = replicate count (null_slot t)
rows_of_run xs t (Some start) count = sliced xs start count

pub run_appends : (xs indices : List Slot) (t : ArrowType) (row count : ℕ) (place : Option ℕ) → sliced indices row count ≡ run_of place count → IfSome place (λ start. start + count ≤ length xs) → gather xs (sliced indices row count) t ≡ rows_of_run xs t place count
run_appends xs indices t row count None run within = ap (λ is. gather xs is t) run ∙ rows_of_nulls xs t count
run_appends xs indices t row count (Some start) run within =
    ap (λ is. gather xs is t) run ∙ rows_of_places xs t start count within
