-- Rows of bytes or items at which a mask is set: where they end and what they have, a run of rows at a time.
use Rattle.arrow_select.proofs.Common.{arith, ◌≡◌, ◌+◌, ◌-◌, ℕ, zero, suc, pos, ◌<◌, ◌≤◌, ◌^◌, Bool, true, false, Option, Some, None, List, [], ◌∷◌, ◌++◌, length, map, replicate, drop, slice_index, refl, ap, sym, subst, ◌∙◌, append_assoc, option_map, slice_get, sum, concat, range_with_len, length-map, map-append, All-cons, All-nil, sum-map, sum_by-append, sum_by-cons, PhysicalType, ArrowType, Fits, byte_count, greatest_offset, physical_type_of, masked, select, Slot, drop_at_read, IsOffsets, last_of, at_most_last, offsets_rise, length-sliced, FitsRows, pieces, length-pieces, piece_at, fits_rows, slots_fit, IsBytesType, total, valid_values, places_from, at_set, ends_from, concatenated, row_in, row_length, concatenated_length, ends_append, ends_last, last_ends, rows_between, All, counted_sum}
use Rattle.arrow_select.proofs.FilterLemmas.{set_fits, set_rows}
use Rattle.arrow_select.proofs.SetLemmas.{at_set-short}

-- ---- the rows that are left, a run at a time

unset_places : (n i : ℕ) (bits : List Bool) → places_from i (replicate n false ++ bits) ≡ places_from (i + n) bits
unset_places zero i bits =
    let at : i ≡ i + 0 = omega arith in
    ap (λ k. places_from k bits) at
unset_places (suc n) i bits =
    let at : i + 1 + n ≡ i + suc n = omega arith in
    unset_places n (i + 1) bits ∙ ap (λ k. places_from k bits) at

pub set_places : (n i : ℕ) (bits : List Bool) → places_from i (replicate n true ++ bits) ≡ range_with_len i n ++ places_from (i + n) bits
set_places zero i bits =
    let at : i ≡ i + 0 = omega arith in
    ap (λ k. places_from k bits) at
set_places (suc n) i bits =
    let at : i + 1 + n ≡ i + suc n = omega arith in
    ap (λ ns. i ∷ ns) (set_places n (i + 1) bits ∙ ap (λ k. range_with_len (i + 1) n ++ places_from k bits) at)

-- a run of set bits, and those before it
pub run_first : (unset count i : ℕ) (old left : List Bool) → old ≡ replicate unset false ++ (replicate count true ++ left) → places_from i old ≡ range_with_len (i + unset) count ++ places_from (i + unset + count) left
run_first unset count i old left is =
    ap (places_from i) is ∙ (unset_places unset i (replicate count true ++ left) ∙ set_places count (i + unset) left)

-- ---- where they end

-- the ends so far, with those of the rows that are left, are those of all
abbrev pub EndsUpTo : List ℕ → List ℕ → List ℕ → List ℕ → Type 0
EndsUpTo os ends left all = ends ++ ends_from (last_of ends) (map (row_length os) left) ≡ 0 ∷ ends_from 0 (map (row_length os) all)

module _ (os ends left run rest all : List ℕ) (some : 0 < length ends) (is : left ≡ run ++ rest) (so_far : EndsUpTo os ends left all) where
  split : map (row_length os) left ≡ map (row_length os) run ++ map (row_length os) rest
  split = ap (map (row_length os)) is ∙ map-append (row_length os) run rest

  -- one run more
  pub ends_more : (new : List ℕ) → new ≡ ends ++ ends_from (last_of ends) (map (row_length os) run) → EndsUpTo os new rest all
  ends_more new pushed =
      let lengths = map (row_length os) run in
      let others = map (row_length os) rest in
      let last : last_of new ≡ last_of ends + sum lengths = ap last_of pushed ∙ last_ends ends lengths some in
      let whole = ap (ends_from (last_of ends)) split ∙ ends_append (last_of ends) lengths others in
      (λ i. pushed i ++ ends_from (last i) others) ∙ (append_assoc ends (ends_from (last_of ends) lengths) (ends_from (last_of ends + sum lengths) others) ∙ (ap (λ es. ends ++ es) (sym whole) ∙ so_far))

  -- it ends no later than all rows
  ends_below : last_of ends + sum (map (row_length os) run) ≤ sum (map (row_length os) all)
  ends_below =
      let whole = sym (last_ends ends (map (row_length os) left) some) ∙ (ap last_of so_far ∙ ends_last 0 (map (row_length os) all)) in
      let parts = ap sum split ∙ sum_by-append (λ x. x) (map (row_length os) run) (map (row_length os) rest) in
      omega (arith, whole, parts)

-- ---- how long they are

-- those at which a mask is set have no more than all
set_sum : (os : List ℕ) (mask : List Bool) (i : ℕ) → IsOffsets os → i + length mask < length os → sum (map (row_length os) (places_from i mask)) + slice_index os i ≤ slice_index os (i + length mask)
set_sum os [] i held part =
    let same : slice_index os (i + 0) ≡ slice_index os i = ap (slice_index os) (omega arith) in
    omega (arith, same)
set_sum os (b ∷ mask) i held part =
    let at : slice_index os (i + 1 + length mask) ≡ slice_index os (i + suc (length mask)) = ap (slice_index os) (omega arith) in
    let rise = offsets_rise os i (i + 1) held (omega arith) (omega (arith, part)) in
    let rest = set_sum os mask (i + 1) held (omega (arith, part)) in
    let first = sum_by-cons (λ x. x) (row_length os i) (map (row_length os) (places_from (i + 1) mask)) in
    let by : (b : Bool) → sum (map (row_length os) (places_from i (b ∷ mask))) + slice_index os i ≤ slice_index os (i + suc (length mask)) = elim [ true ↦ omega (arith, at, rise, rest, first) | false ↦ omega (arith, at, rise, rest) ] in
    by b

-- so a run of rows more ends where offsets may be
pub ends_fit : (os ends left rest : List ℕ) (mask : List Bool) (start count greatest : ℕ) → 0 < length ends → left ≡ range_with_len start count ++ rest → EndsUpTo os ends left (places_from 0 mask) → IsOffsets os → length os ≡ length mask + 1 → slice_index os (0 + length mask) ≤ greatest → start + count < length os → last_of ends + (slice_index os (start + count) - slice_index os start) ≤ greatest
ends_fit os ends left rest mask start count greatest some is so_far sound lengths most part =
    let below = ends_below os ends left (range_with_len start count) rest (places_from 0 mask) some is so_far in
    let run = counted_sum os start count sound part in
    omega (arith, below, run, set_sum os mask 0 sound (omega (arith, lengths)), most)

-- ---- the rows

-- members at which a mask is set, each by its place
pub set_by_place : {A : Type 0} (g : ℕ → A) (xs : List A) (mask : List Bool) (i : ℕ) → ((n : ℕ) → n < length xs → slice_get xs n ≡ Some (g n)) → i + length mask ≡ length xs → at_set mask (drop i xs) ≡ map g (places_from i mask)
set_by_place g xs [] i reads long = refl
set_by_place g xs (b ∷ mask) i reads long =
    let here = drop_at_read xs i (g i) (reads i (omega (arith, long))) in
    let rest = set_by_place g xs mask (i + 1) reads (omega (arith, long)) in
    let by : (b : Bool) → at_set (b ∷ mask) (g i ∷ drop (i + 1) xs) ≡ map g (places_from i (b ∷ mask)) = elim [ true ↦ ap (λ ys. g i ∷ ys) rest | false ↦ rest ] in
    ap (at_set (b ∷ mask)) here ∙ by b

-- what a mask keeps of rows that lie one behind the other
set_items : {A : Type 0} (os : List ℕ) (xs : List A) (mask : List Bool) (i : ℕ) → valid_values mask os xs i ≡ concatenated (map (row_in os xs) (places_from i mask))
set_items os xs [] i = refl
set_items os xs (true ∷ mask) i = ap (λ ys. row_in os xs i ++ ys) (set_items os xs mask (i + 1))
set_items os xs (false ∷ mask) i = set_items os xs mask (i + 1)

pub set_bytes : (os bytes : List ℕ) (mask : List Bool) (i : ℕ) → valid_values mask os bytes i ≡ concat (map (row_in os bytes) (places_from i mask))
set_bytes os bytes [] i = refl
set_bytes os bytes (true ∷ mask) i = ap (λ ys. row_in os bytes i ++ ys) (set_bytes os bytes mask (i + 1))
set_bytes os bytes (false ∷ mask) i = set_bytes os bytes mask (i + 1)

-- a fact of all members holds for those at which a mask is set
pub all_set : {A : Type 0} (P : A → Type 0) (mask : List Bool) (xs : List A) → All P xs → All P (at_set mask xs)
all_set P (b ∷ mask) (x ∷ xs) all =
    let rest = all_set P mask xs (λ k d within. all (suc k) d (omega (arith, within))) in
    let by : (b : Bool) → All P (at_set (b ∷ mask) (x ∷ xs)) = elim [ true ↦ All-cons P x (at_set mask xs) (all 0 x (omega arith)) rest | false ↦ rest ] in
    by b
all_set P mask xs all = All-nil P

-- a validity of the rows that are kept has a bit for each
pub kept_bits : {A : Type 0} (os : List ℕ) (bytes : List A) (offsets : List ℕ) (made : List A) (mask : List Bool) (v w : Option (List Bool)) → length mask ≡ length os - 1 → w ≡ option_map (at_set mask) v → pieces offsets made ≡ at_set mask (pieces os bytes) → FitsRows v (length os - 1) → FitsRows w (length offsets - 1)
kept_bits os bytes offsets made mask v w long is are fits =
    let count = length-pieces os bytes in
    let bits = set_fits mask v w (pieces os bytes) (pieces offsets made) is are (omega (arith, long, count)) (subst (FitsRows v) (sym count) fits) in
    subst (FitsRows w) (length-pieces offsets made) bits

-- the offsets are at most the greatest where the end of all rows is
pub last_below : (rows os : List ℕ) (len end greatest : ℕ) → rows ≡ os → len ≡ length rows → end ≡ slice_index rows (0 + (len - 1)) → end ≤ greatest → last_of os ≤ greatest
last_below rows os len end greatest same count is most =
    let at : 0 + (len - 1) ≡ length os - 1 = omega (arith, count, ap length same) in
    let last : slice_index rows (0 + (len - 1)) ≡ last_of os = λ i. slice_index (same i) (at i) in
    omega (arith, most, is, last)

-- rows of bytes or items that a mask keeps
module _ {A : Type 0} (os : List ℕ) (xs : List A) (sound : IsOffsets os) (within : last_of os ≤ length xs) (mask : List Bool) (long : length mask ≡ length os - 1) where
  abbrev kept : List (List A)
  kept = at_set mask (pieces os xs)

  some_offset : 0 < length os
  some_offset = omega (arith, sound.some, length-map os pos)

  by_place : kept ≡ map (row_in os xs) (places_from 0 mask)
  by_place =
      set_by_place (row_in os xs) (pieces os xs) mask 0 (λ n has. piece_at os xs n (omega (arith, has, length-pieces os xs))) (omega (arith, long, length-pieces os xs))

  row_long : (n : ℕ) → n + 1 < length os → length (row_in os xs n) ≡ row_length os n
  row_long n has =
      length-sliced xs (slice_index os n) (row_length os n) (omega (arith, within, offsets_rise os n (n + 1) sound (omega arith) has, at_most_last os (n + 1) sound has))

  rows_long : (bits : List Bool) (i : ℕ) → i + length bits < length os → map length (map (row_in os xs) (places_from i bits)) ≡ map (row_length os) (places_from i bits)
  rows_long [] i has = refl
  rows_long (b ∷ bits) i has =
      let first = row_long i (omega (arith, has)) in
      let rest = rows_long bits (i + 1) (omega (arith, has)) in
      let by : (b : Bool) → map length (map (row_in os xs) (places_from i (b ∷ bits))) ≡ map (row_length os) (places_from i (b ∷ bits)) = elim [ true ↦ (λ t. first t ∷ rest t) | false ↦ rest ] in
      by b

  lengths_are : map length kept ≡ map (row_length os) (places_from 0 mask)
  lengths_are = ap (map length) by_place ∙ rows_long mask 0 (omega (arith, long, some_offset))

  -- offsets, and bytes or items, that were made so
  module _ (offsets : List ℕ) (made : List A) (ends : offsets ≡ 0 ∷ ends_from 0 (map (row_length os) (places_from 0 mask))) (are : made ≡ valid_values mask os xs 0) where
    ends_are : offsets ≡ 0 ∷ ends_from 0 (map length kept)
    ends_are = ends ∙ ap (λ ls. 0 ∷ ends_from 0 ls) (sym lengths_are)

    pub kept_items : made ≡ concatenated kept
    kept_items = are ∙ (set_items os xs mask 0 ∙ ap concatenated (sym by_place))

    pub kept_pieces : pieces offsets made ≡ at_set mask (pieces os xs)
    kept_pieces = (λ i. pieces (ends_are i) (kept_items i)) ∙ rows_between kept

    pub kept_end : last_of offsets ≡ length made
    kept_end =
        omega (arith, ap last_of ends_are ∙ ends_last 0 (map length kept), concatenated_length kept, ap length kept_items)

  -- they have no more than all rows
  pub few : total kept ≤ last_of os
  few =
      let at : slice_index os (0 + length mask) ≡ last_of os = ap (slice_index os) (omega (arith, long)) in
      omega (arith, sum-map length kept, ap sum lengths_are, set_sum os mask 0 sound (omega (arith, long, some_offset)), at)

-- so rows of bytes fit the type
module _ (os bytes : List ℕ) (sound : IsOffsets os) (within : last_of os ≤ length bytes) (mask : List Bool) (long : length mask ≡ length os - 1) where
  fit_under : (slot : List ℕ → Slot) (is_large : Bool) (t : ArrowType) (physical_type : PhysicalType) → IsBytesType is_large physical_type → physical_type_of t ≡ physical_type → (w : Option (List Bool)) → FitsRows w (length (at_set mask (pieces os bytes))) → Fits t (map slot (at_set mask (pieces os bytes))) → Fits t (masked w (map slot (at_set mask (pieces os bytes))))
  fit_under slot is_large t physical_type lies kind None fits fit = fit
  fit_under slot is_large t physical_type lies kind (Some bits) fits fit =
      fits_rows is_large t physical_type lies kind bits (map slot (at_set mask (pieces os bytes))) (fits ∙ sym (length-map (at_set mask (pieces os bytes)) slot)) fit

  pub kept_fit : (slot : List ℕ → Slot) → ((bytes : List ℕ) → byte_count (slot bytes) ≡ length bytes) → (is_large : Bool) (t : ArrowType) (physical_type : PhysicalType) → IsBytesType is_large physical_type → physical_type_of t ≡ physical_type → (v : Option (List Bool)) (greatest : ℕ) → greatest ≡ greatest_offset is_large → FitsRows v (length os - 1) → length mask < 2 ^ 64 → last_of os ≤ greatest → Fits t (select mask (masked v (map slot (pieces os bytes))))
  kept_fit slot counts is_large t physical_type lies kind v greatest is fits counted most =
      let kept = at_set mask (pieces os bytes) in
      let count = length-pieces os bytes in
      let same = set_rows slot mask v (option_map (at_set mask) v) (pieces os bytes) kept refl refl in
      let bits = set_fits mask v (option_map (at_set mask) v) (pieces os bytes) kept refl refl (omega (arith, long, count)) (subst (FitsRows v) (sym count) fits) in
      let stored = slots_fit slot counts is_large t physical_type lies kind kept (length kept) greatest refl (omega (arith, counted, long, count, at_set-short mask (pieces os bytes))) (omega (arith, few os bytes sound within mask long, most)) is in
      subst (Fits t) same (fit_under slot is_large t physical_type lies kind (option_map (at_set mask) v) bits stored)
