-- Members of a list in ranges, which are those at which a mask is set, and the bytes of rows in ranges.
use Rattle.arrow_select.proofs.Common.{arith, ◌≡◌, ◌+◌, ◌-◌, ◌<◌, ◌≤◌, ℕ, zero, suc, Bool, true, false, List, [], ◌∷◌, ◌++◌, length, map, replicate, take, drop, drop-cons, get_or, slice_index, if◌then◌else◌, refl, ap, sym, ◌∙◌, append_assoc, count_by, concat, range_with_len, take-append-add, take-suc, flat_map-append, append-nil, length-append, map-append, take-take, take_all, concat-append, named, rows_from, true_rows, IsOffsets, last_of, sliced, length-sliced, valid_values, set_run, places_from, IsRangesOf, at_set, spanned, ends_from, row_length, row_in, spanned_more, flat_map, length-flat_map-take}
use Rattle.arrow_select.proofs.SetBytes.{EndsUpTo, set_bytes, set_places}
use Rattle.arrow_select.proofs.SetLemmas.{length-at_set}

-- ---- rows by their places

-- the rows at places of a list, none where it ends before
abbrev at : {A : Type 0} → List A → List ℕ → List A
at xs = flat_map (λ i. take 1 (drop i xs))

-- a row off the front
row_off : {A : Type 0} (s : ℕ) (n : ℕ) (xs : List A) → take 1 (drop s xs) ++ take n (drop (suc s) xs) ≡ take (suc n) (drop s xs)
row_off zero zero [] = refl
row_off zero (suc n) [] = refl
row_off (suc s) zero [] = refl
row_off (suc s) (suc n) [] = refl
row_off zero n (x ∷ xs) = refl
row_off (suc s) n (x ∷ xs) = row_off s n xs

at_range : {A : Type 0} (s n : ℕ) (xs : List A) → at xs (rows_from s n) ≡ sliced xs s n
at_range s zero xs = refl
at_range s (suc n) xs =
    ap (λ ys. take 1 (drop s xs) ++ ys) (at_range (suc s) n xs) ∙ row_off s n xs

at_named : {A : Type 0} (xs : List A) (rs : List (ℕ × ℕ)) → at xs (named rs) ≡ flat_map (λ (r : ℕ × ℕ). sliced xs r.0 r.1) rs
at_named xs [] = refl
at_named xs (r ∷ rs) =
    flat_map-append (λ i. take 1 (drop i xs)) (rows_from r.0 r.1) (named rs) ∙ (λ i. at_range r.0 r.1 xs i ++ at_named xs rs i)

row_behind : {A : Type 0} (before xs : List A) (x : A) → take 1 (drop (length before) (before ++ x ∷ xs)) ≡ x ∷ []
row_behind [] xs x = refl
row_behind (y ∷ before) xs x = row_behind before xs x

at_true : {A : Type 0} (before xs : List A) (mask : List Bool) → length mask ≡ length xs → at (before ++ xs) (true_rows (length before) mask) ≡ at_set mask xs
at_true before [] [] same = refl
at_true before (x ∷ xs) (b ∷ mask) same =
    let all = sym (append_assoc before (x ∷ []) xs) in
    let next : suc (length before) ≡ length (before ++ x ∷ []) = omega (arith, length-append before (x ∷ [])) in
    let rest : at (before ++ x ∷ xs) (true_rows (suc (length before)) mask) ≡ at_set mask xs = (λ i. at (all i) (true_rows (next i) mask)) ∙ at_true (before ++ x ∷ []) xs mask (omega (arith, same)) in
    let by : (chosen : Bool) → at (before ++ x ∷ xs) (true_rows (length before) (chosen ∷ mask)) ≡ at_set (chosen ∷ mask) (x ∷ xs) = elim [ true ↦ (λ i. row_behind before xs x i ++ rest i) | false ↦ rest ] in
    by b
at_true before xs mask same = absurd (omega (arith, same))

-- so members in ranges are those at which the mask is set
pub ranged_set : {A : Type 0} (ranges : List (ℕ × ℕ)) (mask : List Bool) (xs : List A) → named ranges ≡ true_rows 0 mask → length mask ≡ length xs → flat_map (λ (r : ℕ × ℕ). sliced xs r.0 r.1) ranges ≡ at_set mask xs
ranged_set ranges mask xs names same =
    sym (at_named xs ranges) ∙ (ap (at xs) names ∙ at_true [] xs mask same)

pub length-rows_from : (start n : ℕ) → length (rows_from start n) ≡ n
length-rows_from start zero = refl
length-rows_from start (suc n) = ap suc (length-rows_from (suc start) n)

-- ---- a range at a time

-- those of all ranges are as many as the mask keeps
pub ranged_below : {A : Type 0} (ranges : List (ℕ × ℕ)) (mask : List Bool) (xs : List A) (k : ℕ) → IsRangesOf ranges mask → length mask ≡ length xs → k < length ranges → length (flat_map (λ (r : ℕ × ℕ). sliced xs r.0 r.1) (take k ranges)) + (get_or ranges k (0, 0)).1 ≤ count_by (λ is_kept. is_kept) mask
ranged_below ranges mask xs k are same within =
    let f = λ (r : ℕ × ℕ). sliced xs r.0 r.1 in
    let r = get_or ranges k (0, 0) in
    let here : length (f r) ≡ r.1 = length-sliced xs r.0 r.1 (omega (arith, are.within k (0, 0) within, same)) in
    omega (arith, here, length-flat_map-take f ranges k (0, 0) within, ap length (ranged_set ranges mask xs are.names same), length-at_set mask xs same)

-- all of them
pub ranged_all : {A : Type 0} (ranges : List (ℕ × ℕ)) (mask : List Bool) (xs : List A) (k : ℕ) → named ranges ≡ true_rows 0 mask → length mask ≡ length xs → length ranges ≤ k → flat_map (λ (r : ℕ × ℕ). sliced xs r.0 r.1) (take k ranges) ≡ at_set mask xs
ranged_all ranges mask xs k names same past =
    ap (flat_map (λ (r : ℕ × ℕ). sliced xs r.0 r.1)) (take_all k ranges past) ∙ ranged_set ranges mask xs names same

-- a block that is copied and cut
pub block_cut : {A : Type 0} (old values put cut : List A) (done start len block n : ℕ) → done ≡ length old → len ≤ block → n ≡ block → put ≡ old ++ take n (drop start values) → cut ≡ take (done + len) put → cut ≡ old ++ sliced values start len
block_cut old values put cut done start len block n place short long is cuts =
    let rest = drop start values in
    let whole : put ≡ old ++ take block rest = is ∙ ap (λ n. old ++ take n rest) long in
    cuts ∙ ((λ i. take (place i + len) (whole i)) ∙ (take-append-add old (take block rest) len ∙ ap (λ xs. old ++ xs) (take-take len block rest short)))

named-append : (xs ys : List (ℕ × ℕ)) → named (xs ++ ys) ≡ named xs ++ named ys
named-append [] ys = refl
named-append (r ∷ xs) ys =
    ap (λ rows. rows_from r.0 r.1 ++ rows) (named-append xs ys) ∙ sym (append_assoc (rows_from r.0 r.1) (named xs) (named ys))

named_next : (ranges : List (ℕ × ℕ)) (k : ℕ) → k < length ranges → named (take (k + 1) ranges) ≡ named (take k ranges) ++ rows_from (get_or ranges k (0, 0)).0 (get_or ranges k (0, 0)).1
named_next ranges k within =
    let r = get_or ranges k (0, 0) in
    let next : k + 1 ≡ suc k = omega arith in
    let one = ap (λ n. take n ranges) next ∙ take-suc ranges k (0, 0) within in
    ap named one ∙ (named-append (take k ranges) (r ∷ []) ∙ ap (λ ys. named (take k ranges) ++ ys) (append-nil (rows_from r.0 r.1)))

-- ---- rows of bytes in ranges

pub rows_range : (start n : ℕ) → rows_from start n ≡ range_with_len start n
rows_range start zero = refl
rows_range start (suc n) =
    let next : suc start ≡ start + 1 = omega arith in
    ap (λ ns. start ∷ ns) (ap (λ k. rows_from k n) next ∙ rows_range (start + 1) n)

true_places : (i : ℕ) (mask : List Bool) → true_rows i mask ≡ places_from i mask
true_places i [] = refl
true_places i (b ∷ mask) =
    let next : suc i ≡ i + 1 = omega arith in
    let rest = ap (λ k. true_rows k mask) next ∙ true_places (i + 1) mask in
    ap (λ ns. if b then i ∷ ns else ns) rest

pub named_places : (ranges : List (ℕ × ℕ)) (mask : List Bool) → named ranges ≡ true_rows 0 mask → named ranges ≡ places_from 0 mask
named_places ranges mask names = names ∙ true_places 0 mask

-- the rows that are left, a range off the front
pub range_first : (ranges : List (ℕ × ℕ)) (k : ℕ) → k < length ranges → named (drop k ranges) ≡ range_with_len (get_or ranges k (0, 0)).0 (get_or ranges k (0, 0)).1 ++ named (drop (k + 1) ranges)
range_first ranges k within =
    let r = get_or ranges k (0, 0) in
    let next : suc k ≡ k + 1 = omega arith in
    ap named (drop-cons ranges k (0, 0) within) ∙ (λ i. rows_range r.0 r.1 i ++ named (drop (next i) ranges))

-- the bytes of a run of rows
module _ (os bytes : List ℕ) (sound : IsOffsets os) (inside : last_of os ≤ length bytes) where
  run_bytes : (start n : ℕ) → start + n < length os → sliced bytes (slice_index os start) (slice_index os (start + n) - slice_index os start) ≡ concat (map (row_in os bytes) (rows_from start n))
  run_bytes start n part =
      let run = sliced bytes (slice_index os start) (slice_index os (start + n) - slice_index os start) in
      let by_bits = set_run os bytes sound inside n [] start part ∙ append-nil run in
      let places = set_places n start [] ∙ (append-nil (range_with_len start n) ∙ sym (rows_range start n)) in
      sym by_bits ∙ (set_bytes os bytes (replicate n true ++ []) start ∙ ap (λ ns. concat (map (row_in os bytes) ns)) places)

  -- a span more
  pub ranged_bytes : (ranges spans new : List (ℕ × ℕ)) (span : ℕ × ℕ) (k : ℕ) → k < length ranges → (get_or ranges k (0, 0)).0 + (get_or ranges k (0, 0)).1 < length os → span.0 ≡ slice_index os (get_or ranges k (0, 0)).0 → span.1 ≡ slice_index os ((get_or ranges k (0, 0)).0 + (get_or ranges k (0, 0)).1) → new ≡ spans ++ span ∷ [] → spanned bytes spans ≡ concat (map (row_in os bytes) (named (take k ranges))) → spanned bytes new ≡ concat (map (row_in os bytes) (named (take (k + 1) ranges)))
  ranged_bytes ranges spans new span k within part first end is so_far =
      let r = get_or ranges k (0, 0) in
      let row = row_in os bytes in
      let here : sliced bytes span.0 (span.1 - span.0) ≡ concat (map row (rows_from r.0 r.1)) = (λ i. sliced bytes (first i) (end i - first i)) ∙ run_bytes r.0 r.1 part in
      let all = ap (λ ns. concat (map row ns)) (named_next ranges k within) ∙ (ap concat (map-append row (named (take k ranges)) (rows_from r.0 r.1)) ∙ concat-append (map row (named (take k ranges))) (map row (rows_from r.0 r.1))) in
      spanned_more bytes spans new span is ∙ ((λ i. so_far i ++ here i) ∙ sym all)

  -- by all ranges of a mask
  pub bytes_of_ranges : (ranges : List (ℕ × ℕ)) (mask : List Bool) → named ranges ≡ true_rows 0 mask → concat (map (row_in os bytes) (named ranges)) ≡ valid_values mask os bytes 0
  bytes_of_ranges ranges mask names =
      ap (λ ns. concat (map (row_in os bytes) ns)) (named_places ranges mask names) ∙ sym (set_bytes os bytes mask 0)

-- where rows end, of which none has ended yet
pub ends_first : (os ends : List ℕ) (ranges : List (ℕ × ℕ)) (mask : List Bool) → ends ≡ 0 ∷ [] → named ranges ≡ true_rows 0 mask → EndsUpTo os ends (named ranges) (places_from 0 mask)
ends_first os ends ranges mask is names =
    λ i. is i ++ ends_from (last_of (is i)) (map (row_length os) (named_places ranges mask names i))
