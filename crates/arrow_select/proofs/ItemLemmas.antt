-- Items of lists at which a mask of the rows is set: a bit for each item, a run of rows at a time, and the lists of those that are kept.
use Rattle.arrow_select.proofs.Common.{arith, ◌≡◌, ◌+◌, ◌-◌, ◌<◌, ◌≤◌, ◌^◌, ℕ, zero, suc, Bool, true, false, Option, Some, None, List, [], ◌∷◌, ◌++◌, length, map, replicate, take, drop, slice_index, refl, ap, sym, subst, ◌∙◌, append_assoc, option_map, drop-drop, length-append, length-map, length-replicate, replicate-append-replicate, ArrowType, plain, list, extension, field, Fits, IsCounted, all_items, items_in, physical_type_of, mask, masked, select, Slot, IsOffsets, last_of, offsets_rise, FitsRows, pieces, length-pieces, items_row, list_items, rows, ListParts, list_rows, item_type, ends_from, row_length, valid_values, IsListType, greatest_in, no_plain, all_kept, lists_fit, places_from, at_set, item_bits, item_mask, fixed_size}
use Rattle.arrow_select.proofs.FilterLemmas.{select_is, set_rows}
use Rattle.arrow_select.proofs.KeptLemmas.{Fits-kept}
use Rattle.arrow_select.proofs.SetBytes.{kept_bits, kept_end, kept_items, kept_pieces}
use Rattle.arrow_select.proofs.SetLemmas.{at_set-short, set_run, unset_run}

-- ---- members at which a run of bits is set

none_set : {A : Type 0} (n : ℕ) (xs : List A) → at_set (replicate n false) xs ≡ []
none_set (suc n) (x ∷ xs) = none_set n xs
none_set n xs = refl

-- bits behind them that are not set count for nothing
set_before : {A : Type 0} (bits : List Bool) (n : ℕ) (xs : List A) → at_set (bits ++ replicate n false) xs ≡ at_set bits xs
set_before [] n xs = none_set n xs
set_before (b ∷ bits) n [] = refl
set_before (true ∷ bits) n (x ∷ xs) = ap (λ ys. x ∷ ys) (set_before bits n xs)
set_before (false ∷ bits) n (x ∷ xs) = set_before bits n xs

-- ---- the bits of items

module _ (os : List ℕ) (sound : IsOffsets os) where
  -- those of a run of rows
  items_run : (n : ℕ) (b : Bool) (bits : List Bool) (i : ℕ) → i + n < length os → item_bits (replicate n b ++ bits) os i ≡ replicate (slice_index os (i + n) - slice_index os i) b ++ item_bits bits os (i + n)
  items_run zero b bits i within =
      let at : i ≡ i + 0 = omega arith in
      let none : 0 ≡ slice_index os (i + 0) - slice_index os i = omega (arith, ap (slice_index os) at) in
      λ t. replicate (none t) b ++ item_bits bits os (at t)
  items_run (suc n) b bits i within =
      let at : i + 1 + n ≡ i + suc n = omega arith in
      let first = offsets_rise os i (i + 1) sound (omega arith) (omega (arith, within)) in
      let others = offsets_rise os (i + 1) (i + 1 + n) sound (omega arith) (omega (arith, within)) in
      let count = slice_index os (i + 1 + n) - slice_index os (i + 1) in
      let whole : row_length os i + count ≡ slice_index os (i + suc n) - slice_index os i = omega (arith, first, others, ap (slice_index os) at) in
      ap (λ bs. replicate (row_length os i) b ++ bs) (items_run n b bits (i + 1) (omega (arith, within))) ∙ (sym (append_assoc (replicate (row_length os i) b) (replicate count b) (item_bits bits os (i + 1 + n))) ∙ (ap (λ bs. bs ++ item_bits bits os (i + 1 + n)) (replicate-append-replicate (row_length os i) count b) ∙ (λ t. replicate (whole t) b ++ item_bits bits os (at t))))

  -- a run of rows at which a mask is set, and those before it
  module _ (unset count : ℕ) (old left : List Bool) (i : ℕ) (is : old ≡ replicate unset false ++ (replicate count true ++ left)) (within : i + (unset + count) < length os) where
    abbrev before : List Bool
    before = replicate (slice_index os (i + unset) - slice_index os i) false

    abbrev run : List Bool
    run = replicate (slice_index os (i + unset + count) - slice_index os (i + unset)) true

    items_taken : item_bits old os i ≡ before ++ (run ++ item_bits left os (i + unset + count))
    items_taken =
        ap (λ bs. item_bits bs os i) is ∙ (items_run unset false (replicate count true ++ left) i (omega (arith, within)) ∙ ap (λ bs. before ++ bs) (items_run count true left (i + unset) (omega (arith, within))))

    -- the bits so far, with those of the rows that are left, are all
    pub items_more : (own done : List Bool) → own ++ item_bits old os i ≡ done → ((own ++ before) ++ run) ++ item_bits left os (i + unset + count) ≡ done
    items_more own done so_far =
        let rest = item_bits left os (i + unset + count) in
        append_assoc (own ++ before) run rest ∙ (append_assoc own before (run ++ rest) ∙ (ap (λ bs. own ++ bs) (sym items_taken) ∙ so_far))

  items_long : (bits : List Bool) (i : ℕ) → i + length bits < length os → slice_index os i + length (item_bits bits os i) ≡ slice_index os (i + length bits)
  items_long [] i within =
      let at : i ≡ i + 0 = omega arith in
      omega (arith, ap (slice_index os) at)
  items_long (b ∷ bits) i within =
      let at : i + 1 + length bits ≡ i + suc (length bits) = omega arith in
      omega (arith, length-append (replicate (row_length os i) b) (item_bits bits os (i + 1)), length-replicate (row_length os i) b, offsets_rise os i (i + 1) sound (omega arith) (omega (arith, within)), items_long bits (i + 1) (omega (arith, within)), ap (slice_index os) at)

  -- a bit for each of them
  pub mask_long : (mask : List Bool) (n : ℕ) → length os ≡ length mask + 1 → last_of os ≤ n → length (item_mask mask os n) ≡ n
  mask_long mask n long within =
      let rest = replicate (n - last_of os) false in
      let at : 0 + length mask ≡ length os - 1 = omega (arith, long) in
      omega (arith, length-append (replicate (slice_index os 0) false) (item_bits mask os 0 ++ rest), length-replicate (slice_index os 0) false, length-append (item_bits mask os 0) rest, length-replicate (n - last_of os) false, items_long mask 0 (omega (arith, long)), ap (slice_index os) at, within)

  -- the items at which they are set
  set_of_rows : {A : Type 0} (xs : List A) (bits : List Bool) (i : ℕ) → i + length bits < length os → at_set (item_bits bits os i) (drop (slice_index os i) xs) ≡ valid_values bits os xs i
  set_of_rows xs [] i within = refl
  set_of_rows xs (b ∷ bits) i within =
      let next : slice_index os i + row_length os i ≡ slice_index os (i + 1) = omega (arith, offsets_rise os i (i + 1) sound (omega arith) (omega (arith, within))) in
      let here = drop (slice_index os i) xs in
      let others = item_bits bits os (i + 1) in
      let behind = drop-drop (row_length os i) (slice_index os i) xs ∙ ap (λ n. drop n xs) next in
      let rest = ap (at_set others) behind ∙ set_of_rows xs bits (i + 1) (omega (arith, within)) in
      let by : (b : Bool) → at_set (item_bits (b ∷ bits) os i) here ≡ valid_values (b ∷ bits) os xs i = elim [
        | true ↦ set_run (row_length os i) others here ∙ ap (λ ys. take (row_length os i) here ++ ys) rest
        | false ↦ unset_run (row_length os i) others here ∙ rest
      ] in
      by b

  pub set_of_mask : {A : Type 0} (xs : List A) (mask : List Bool) (n : ℕ) → length os ≡ length mask + 1 → at_set (item_mask mask os n) xs ≡ valid_values mask os xs 0
  set_of_mask xs mask n long =
      unset_run (slice_index os 0) (item_bits mask os 0 ++ replicate (n - last_of os) false) xs ∙ (set_before (item_bits mask os 0) (n - last_of os) (drop (slice_index os 0) xs) ∙ set_of_rows xs mask 0 (omega (arith, long)))

-- ---- lists of items that are kept

-- a null list has no items
items_masked : (bits : List Bool) (xs : List Slot) → all_items (mask bits xs) ≡ all_items (select bits xs)
items_masked (true ∷ bits) (x ∷ xs) = ap (λ ys. items_in x ++ ys) (items_masked bits xs)
items_masked (false ∷ bits) (x ∷ xs) = items_masked bits xs
items_masked bits xs = refl

-- so lists that fit do so under a validity
masked_fit : (t : ArrowType) (bits : List Bool) (xs : List Slot) → IsListType (physical_type_of t) → IsCounted (mask bits xs) → Fits t xs → Fits t (mask bits xs)
masked_fit (list (fixed_size s) (field name t nullable)) bits xs is counted fits = absurd is
masked_fit (list form (field name t nullable)) bits xs is counted fits =
    let kept = Fits-kept (list form (field name t nullable)) bits xs fits in
    let same = items_masked bits xs in
    (counted, omega (arith, kept.1, ap length same), subst (Fits t) (sym same) kept.2)
masked_fit (plain p) bits xs is counted fits = absurd (no_plain p is)
masked_fit (extension name metadata t) bits xs is counted fits = masked_fit t bits xs is counted fits
masked_fit t bits xs is counted fits = absurd is

all_fit : (t : ArrowType) (v : Option (List Bool)) (xs : List Slot) → IsListType (physical_type_of t) → IsCounted (masked v xs) → Fits t xs → Fits t (masked v xs)
all_fit t None xs is counted fits = fits
all_fit t (Some bits) xs is counted fits = masked_fit t bits xs is counted fits

-- an array of such lists
module _ (p : ListParts) (sound : IsOffsets p.offsets) (within : last_of p.offsets ≤ length (rows p.child)) (mask : List Bool) (long : length p.offsets ≡ length mask + 1) (offsets : List ℕ) (items : List Slot) (ends : offsets ≡ 0 ∷ ends_from 0 (map (row_length p.offsets) (places_from 0 mask))) (are : items ≡ select (item_mask mask p.offsets (length (rows p.child))) (rows p.child)) (kept : Option (List Bool)) (bits : kept ≡ option_map (at_set mask) p.validity) where
  as_many : length mask ≡ length p.offsets - 1
  as_many = omega (arith, long)

  own : items ≡ valid_values mask p.offsets (rows p.child) 0
  own = are ∙ (select_is _ (rows p.child) ∙ set_of_mask p.offsets sound (rows p.child) mask (length (rows p.child)) long)

  pieces_are : pieces offsets items ≡ at_set mask (pieces p.offsets (rows p.child))
  pieces_are = kept_pieces p.offsets (rows p.child) sound within mask as_many offsets items ends own

  pub items_end : last_of offsets ≡ length items
  items_end = kept_end p.offsets (rows p.child) sound within mask as_many offsets items ends own

  -- a validity of the lists that are kept has a bit for each
  pub ends_long : FitsRows p.validity (length p.offsets - 1) → FitsRows kept (length offsets - 1)
  ends_long = kept_bits p.offsets (rows p.child) offsets items mask p.validity kept as_many bits pieces_are

  pub lists_kept : masked kept (list_items offsets items) ≡ select mask (list_rows p)
  lists_kept =
      ap (λ ps. masked kept (map items_row ps)) pieces_are ∙ set_rows items_row mask p.validity kept (pieces p.offsets (rows p.child)) (at_set mask (pieces p.offsets (rows p.child))) bits refl

  pub lists_kept_fit : IsListType (physical_type_of p.arrow_type) → length mask < 2 ^ 64 → length (select mask (list_rows p)) < 2 ^ 64 → last_of offsets ≤ greatest_in (physical_type_of p.arrow_type) → Fits (item_type p.arrow_type) items → Fits p.arrow_type (select mask (list_rows p))
  lists_kept_fit is many counted few fits =
      let rows_are = at_set mask (pieces p.offsets (rows p.child)) in
      let inside = all_kept rows_are ∙ sym (kept_items p.offsets (rows p.child) sound within mask as_many offsets items ends own) in
      let same = ap (λ ps. masked kept (map items_row ps)) (sym pieces_are) ∙ lists_kept in
      let all = lists_fit p.arrow_type (map items_row rows_are) items is inside (omega (arith, many, as_many, length-map rows_are items_row, at_set-short mask (pieces p.offsets (rows p.child)), length-pieces p.offsets (rows p.child))) (omega (arith, few, items_end)) fits in
      subst (Fits p.arrow_type) same (all_fit p.arrow_type kept (map items_row rows_are) is (subst IsCounted (sym same) counted) all)
