-- Items of fixed-size lists at which a mask of the rows is set, each bit for as many items, and the lists of those that are kept.
use Rattle.arrow_select.proofs.Common.{arith, ◌≡◌, ◌*◌, ◌/◌, ◌%◌, ◌+◌, ◌<◌, ◌≤◌, ◌^◌, ℕ, zero, suc, Bool, true, false, Option, Some, None, List, [], ◌∷◌, ◌++◌, length, map, replicate, take, drop, refl, ap, sym, subst, ◌∙◌, option_map, slice_index_or, drop_at, length-append, length-drop, length-map, length-replicate, length-take, take-append-drop, take_at, flat_map-cons, add-mul, mul-div_cancel, mul-mod_left, mul_comm, ArrowType, null, plain, Fits, fixed_items_in, physical_type_of, mask, masked, select, Slot, Null, null_slot, from_slots-to_slots, FitsRows, length-chunks, chunks, length-masked, FitsItems, FixedListParts, fixed_list_rows, fixed_items, items_row, rows, item_type, list_size, shape_of, child_type, column_in, fits_sized, list_child_types, sized_column, nil_of, at_set, kept_rows_under, flat_map}
use Rattle.arrow_types.specs.declared.datatypes.physical_type.PhysicalType.TheVariants as physical
use Rattle.arrow_select.proofs.FilterLemmas.{at_set-mask, select_is, set_fits, set_rows}
use Rattle.arrow_select.proofs.SetLemmas.{at_set-short, set_run, unset_run}

-- rows under a run of bits
valid_run : (n : ℕ) (bits : List Bool) (xs : List Slot) → n ≤ length xs → mask (replicate n true ++ bits) xs ≡ take n xs ++ mask bits (drop n xs)
valid_run zero bits xs within = refl
valid_run (suc n) bits [] within = absurd (omega (arith, within))
valid_run (suc n) bits (x ∷ xs) within = ap (λ ys. x ∷ ys) (valid_run n bits xs (omega (arith, within)))

null_run : (n : ℕ) (bits : List Bool) (xs : List Slot) → n ≤ length xs → mask (replicate n false ++ bits) xs ≡ replicate n Null ++ mask bits (drop n xs)
null_run zero bits xs within = refl
null_run (suc n) bits [] within = absurd (omega (arith, within))
null_run (suc n) bits (x ∷ xs) within = ap (λ ys. Null ∷ ys) (null_run n bits xs (omega (arith, within)))

mask_twice : (bits : List Bool) (xs : List Slot) → mask bits (mask bits xs) ≡ mask bits xs
mask_twice (true ∷ bits) (x ∷ xs) = ap (λ ys. x ∷ ys) (mask_twice bits xs)
mask_twice (false ∷ bits) (x ∷ xs) = ap (λ ys. Null ∷ ys) (mask_twice bits xs)
mask_twice bits xs = refl

-- rows of s items each
module _ (s : ℕ) where
  abbrev each : List Bool → List Bool
  each bits = flat_map (replicate s) bits

  one_more : (n : ℕ) → suc n * s ≡ s + n * s
  one_more n =
      let one : suc n ≡ 1 + n = omega arith in
      ap (λ k. k * s) one ∙ (add-mul 1 n s ∙ omega arith)

  pub each_long : (bits : List Bool) → length (each bits) ≡ length bits * s
  each_long [] = omega arith
  each_long (b ∷ bits) =
      ap length (flat_map-cons (replicate s) b bits) ∙ omega (arith, length-append (replicate s b) (each bits), length-replicate s b, each_long bits, one_more (length bits))

  first_long : (n : ℕ) (xs : List Slot) → length xs ≡ suc n * s → length (take s xs) ≡ s
  first_long n xs long = omega (arith, length-take s xs, long, one_more n)

  rest_long : (n : ℕ) (xs : List Slot) → length xs ≡ suc n * s → length (drop s xs) ≡ n * s
  rest_long n xs long = omega (arith, length-drop s xs, long, one_more n)

  -- the items of the rows that are kept are those rows
  kept_chunks : (bits : List Bool) (xs : List Slot) → length xs ≡ length bits * s → chunks (length (at_set bits (chunks (length bits) s xs))) s (at_set (each bits) xs) ≡ at_set bits (chunks (length bits) s xs)
  kept_chunks [] xs long = refl
  kept_chunks (true ∷ bits) xs long =
      let here = take s xs in
      let rest = drop s xs in
      let rows = at_set bits (chunks (length bits) s rest) in
      let kept = at_set (each bits) rest in
      let whole : at_set (each (true ∷ bits)) xs ≡ here ++ kept = ap (λ bs. at_set bs xs) (flat_map-cons (replicate s) true bits) ∙ set_run s (each bits) xs in
      let first = first_long (length bits) xs long in
      let more = ap (chunks (length rows) s) (drop_at here kept s first) ∙ kept_chunks bits rest (rest_long (length bits) xs long) in
      ap (chunks (suc (length rows)) s) whole ∙ (λ t. take_at here kept s first t ∷ more t)
  kept_chunks (false ∷ bits) xs long =
      let rest = drop s xs in
      let rows = at_set bits (chunks (length bits) s rest) in
      let whole : at_set (each (false ∷ bits)) xs ≡ at_set (each bits) rest = ap (λ bs. at_set bs xs) (flat_map-cons (replicate s) false bits) ∙ unset_run s (each bits) xs in
      ap (chunks (length rows) s) whole ∙ kept_chunks bits rest (rest_long (length bits) xs long)

  kept_long : (bits : List Bool) (xs : List Slot) → length xs ≡ length bits * s → length (at_set (each bits) xs) ≡ length (at_set bits (chunks (length bits) s xs)) * s
  kept_long [] xs long = omega arith
  kept_long (true ∷ bits) xs long =
      let rest = drop s xs in
      let whole = ap (λ bs. at_set bs xs) (flat_map-cons (replicate s) true bits) ∙ set_run s (each bits) xs in
      omega (arith, ap length whole, length-append (take s xs) (at_set (each bits) rest), first_long (length bits) xs long, kept_long bits rest (rest_long (length bits) xs long), one_more (length (at_set bits (chunks (length bits) s rest))))
  kept_long (false ∷ bits) xs long =
      ap length (ap (λ bs. at_set bs xs) (flat_map-cons (replicate s) false bits) ∙ unset_run s (each bits) xs) ∙ kept_long bits (drop s xs) (rest_long (length bits) xs long)

  -- what lies beneath null rows does not show
  shown : (bits : List Bool) (xs : List Slot) → length xs ≡ length bits * s → mask bits (map items_row (chunks (length bits) s (mask (each bits) xs))) ≡ mask bits (map items_row (chunks (length bits) s xs))
  shown [] xs long = refl
  shown (true ∷ bits) xs long =
      let here = take s xs in
      let rest = mask (each bits) (drop s xs) in
      let whole : mask (each (true ∷ bits)) xs ≡ here ++ rest = ap (λ bs. mask bs xs) (flat_map-cons (replicate s) true bits) ∙ valid_run s (each bits) xs (omega (arith, long, one_more (length bits))) in
      let first = first_long (length bits) xs long in
      let more = ap (λ ys. mask bits (map items_row (chunks (length bits) s ys))) (drop_at here rest s first) ∙ shown bits (drop s xs) (rest_long (length bits) xs long) in
      ap (λ ys. mask (true ∷ bits) (map items_row (chunks (suc (length bits)) s ys))) whole ∙ (λ t. items_row (take_at here rest s first t) ∷ more t)
  shown (false ∷ bits) xs long =
      let here = replicate s Null in
      let rest = mask (each bits) (drop s xs) in
      let whole : mask (each (false ∷ bits)) xs ≡ here ++ rest = ap (λ bs. mask bs xs) (flat_map-cons (replicate s) false bits) ∙ null_run s (each bits) xs (omega (arith, long, one_more (length bits))) in
      let more = ap (λ ys. mask bits (map items_row (chunks (length bits) s ys))) (drop_at here rest s (length-replicate s Null)) ∙ shown bits (drop s xs) (rest_long (length bits) xs long) in
      ap (λ ys. mask (false ∷ bits) (map items_row (chunks (suc (length bits)) s ys))) whole ∙ (λ t. Null ∷ more t)

  -- what rows name of their items, whose null slots are Null
  named_items : (u : ArrowType) → null_slot u ≡ Null → (bits : List Bool) (xs : List Slot) → length xs ≡ length bits * s → flat_map (fixed_items_in s u) (mask bits (map items_row (chunks (length bits) s xs))) ≡ mask (each bits) xs
  named_items u none [] xs long = refl
  named_items u none (true ∷ bits) xs long =
      let more = named_items u none bits (drop s xs) (rest_long (length bits) xs long) in
      (λ t. from_slots-to_slots (take s xs) t ++ more t) ∙ sym (ap (λ bs. mask bs xs) (flat_map-cons (replicate s) true bits) ∙ valid_run s (each bits) xs (omega (arith, long, one_more (length bits))))
  named_items u none (false ∷ bits) xs long =
      let more = named_items u none bits (drop s xs) (rest_long (length bits) xs long) in
      (λ t. replicate s (none t) ++ more t) ∙ sym (ap (λ bs. mask bs xs) (flat_map-cons (replicate s) false bits) ∙ null_run s (each bits) xs (omega (arith, long, one_more (length bits))))

  all_named : (u : ArrowType) (n : ℕ) (xs : List Slot) → length xs ≡ n * s → flat_map (fixed_items_in s u) (map items_row (chunks n s xs)) ≡ xs
  all_named u zero xs long = sym (nil_of xs (omega (arith, long)))
  all_named u (suc n) xs long =
      (λ t. from_slots-to_slots (take s xs) t ++ all_named u n (drop s xs) (rest_long n xs long) t) ∙ take-append-drop s xs

  -- the bits of the items of rows that are kept
  set_each : (bits valid : List Bool) → length bits ≡ length valid → at_set (each bits) (each valid) ≡ each (at_set bits valid)
  set_each [] [] long = refl
  set_each (true ∷ bits) (v ∷ valid) long =
      let here = replicate s v in
      let rest = each valid in
      let cut = (λ t. at_set (flat_map-cons (replicate s) true bits t) (flat_map-cons (replicate s) v valid t)) ∙ set_run s (each bits) (here ++ rest) in
      let more = ap (at_set (each bits)) (drop_at here rest s (length-replicate s v)) ∙ set_each bits valid (omega (arith, long)) in
      cut ∙ ((λ t. take_at here rest s (length-replicate s v) t ++ more t) ∙ sym (flat_map-cons (replicate s) v (at_set bits valid)))
  set_each (false ∷ bits) (v ∷ valid) long =
      let here = replicate s v in
      let rest = each valid in
      let cut = (λ t. at_set (flat_map-cons (replicate s) false bits t) (flat_map-cons (replicate s) v valid t)) ∙ unset_run s (each bits) (here ++ rest) in
      cut ∙ (ap (at_set (each bits)) (drop_at here rest s (length-replicate s v)) ∙ set_each bits valid (omega (arith, long)))
  set_each bits valid long = absurd (omega (arith, long))

  -- under a validity, or none
  stored_long : (v : Option (List Bool)) (n : ℕ) (xs : List Slot) → length xs ≡ n * s → FitsRows v n → length (masked (option_map each v) xs) ≡ n * s
  stored_long None n xs long fits = long
  stored_long (Some valid) n xs long fits =
      length-masked (Some (each valid)) xs (each_long valid ∙ (ap (λ k. k * s) fits ∙ sym long)) ∙ long

  shown_under : (v : Option (List Bool)) (n : ℕ) (xs : List Slot) → length xs ≡ n * s → FitsRows v n → masked v (map items_row (chunks n s (masked (option_map each v) xs))) ≡ masked v (map items_row (chunks n s xs))
  shown_under None n xs long fits = refl
  shown_under (Some valid) n xs long fits =
      subst (λ k. mask valid (map items_row (chunks k s (mask (each valid) xs))) ≡ mask valid (map items_row (chunks k s xs))) fits (shown valid xs (long ∙ ap (λ k. k * s) (sym fits)))

  named_under : (u : ArrowType) → null_slot u ≡ Null → (v : Option (List Bool)) (bits : List Bool) (n : ℕ) (xs : List Slot) → FitsRows v (length bits) → FitsRows (option_map (at_set bits) v) n → length (at_set (each bits) (masked (option_map each v) xs)) ≡ n * s → flat_map (fixed_items_in s u) (masked (option_map (at_set bits) v) (map items_row (chunks n s (at_set (each bits) (masked (option_map each v) xs))))) ≡ at_set (each bits) (masked (option_map each v) xs)
  named_under u none None bits n xs fits kept long = all_named u n (at_set (each bits) xs) long
  named_under u none (Some valid) bits n xs fits kept long =
      let items = at_set (each bits) (mask (each valid) xs) in
      let held = at_set bits valid in
      let are : items ≡ mask (each held) (at_set (each bits) xs) = sym (at_set-mask (each bits) (each valid) xs) ∙ ap (λ bs. mask bs (at_set (each bits) xs)) (set_each bits valid (sym fits)) in
      let same : mask (each held) items ≡ items = ap (mask (each held)) are ∙ (mask_twice (each held) (at_set (each bits) xs) ∙ sym are) in
      subst (λ k. flat_map (fixed_items_in s u) (mask held (map items_row (chunks k s items))) ≡ items) kept (named_items u none held items (long ∙ ap (λ k. k * s) (sym kept)) ∙ same)

pub each_fits : (s n count : ℕ) (v : Option (List Bool)) → FitsRows v n → n * s ≡ count → FitsRows (option_map (flat_map (replicate s)) v) count
each_fits s n count None fits whole = tt
each_fits s n count (Some valid) fits whole = each_long s valid ∙ (ap (λ k. k * s) fits ∙ whole)

-- fixed-size lists, and a mask with a bit for each: as many items as lists of this size, and a bit of the validity for each list
pub record HasLists (p : FixedListParts) (bits : List Bool) : Type 0 where
  pub some : 0 < p.size
  pub whole : length (rows p.child) ≡ length bits * p.size
  pub fits : FitsRows p.validity (length bits)

-- an array of the lists that are kept
module _ {p : FixedListParts} {bits : List Bool} (has : HasLists p bits) (items : List Slot) (are : items ≡ kept_rows_under (flat_map (replicate p.size) bits) (option_map (flat_map (replicate p.size)) p.validity) (rows p.child)) where
  abbrev stored : List Slot
  stored = masked (option_map (flat_map (replicate p.size)) p.validity) (rows p.child)

  abbrev lists : List (List Slot)
  lists = chunks (length bits) p.size stored

  abbrev kept : List (List Slot)
  kept = at_set bits lists

  abbrev valid : Option (List Bool)
  valid = option_map (at_set bits) p.validity

  own : items ≡ at_set (flat_map (replicate p.size) bits) stored
  own = are ∙ select_is (flat_map (replicate p.size) bits) stored

  long : length stored ≡ length bits * p.size
  long = stored_long p.size p.validity (length bits) (rows p.child) has.whole has.fits

  items_long : length items ≡ length kept * p.size
  items_long = ap length own ∙ kept_long p.size bits stored long

  count : length items / p.size ≡ length kept
  count = ap (λ k. k / p.size) items_long ∙ mul-div_cancel (length kept) has.some

  pieces_are : chunks (length items / p.size) p.size items ≡ kept
  pieces_are = (λ t. chunks (count t) p.size (own t)) ∙ kept_chunks p.size bits stored long

  valid_long : FitsRows valid (length kept)
  valid_long =
      set_fits bits p.validity valid lists kept refl refl (sym (length-chunks (length bits) p.size stored)) (subst (FitsRows p.validity) (sym (length-chunks (length bits) p.size stored)) has.fits)

  pub fixed_few : length items ≤ length (rows p.child)
  fixed_few = omega (arith, ap length own, at_set-short (flat_map (replicate p.size) bits) stored, long, has.whole)

  -- as many items as rows of a size, and a bit for each row
  pub fixed_holds : FitsItems p.size (length items) valid
  fixed_holds = (ap (λ k. k % p.size) items_long ∙ mul-mod_left (length kept) p.size, subst (FitsRows valid) (sym count) valid_long)

  pub fixed_kept : masked valid (fixed_items p.size items) ≡ select bits (fixed_list_rows p)
  fixed_kept =
      let all : length bits ≡ length (rows p.child) / p.size = sym (ap (λ k. k / p.size) has.whole ∙ mul-div_cancel (length bits) has.some) in
      ap (λ ys. masked valid (map items_row ys)) pieces_are ∙ (set_rows items_row bits p.validity valid lists kept refl refl ∙ (ap (select bits) (shown_under p.size p.validity (length bits) (rows p.child) has.whole has.fits) ∙ ap (λ k. select bits (masked p.validity (map items_row (chunks k p.size (rows p.child))))) all))

  -- they fit where the items do
  pub fixed_fit : physical_type_of p.arrow_type ≡ physical.FixedSizeList → list_size p.arrow_type ≡ p.size → null_slot (item_type p.arrow_type) ≡ Null → length items < 2 ^ 64 → length (select bits (fixed_list_rows p)) < 2 ^ 64 → Fits (item_type p.arrow_type) items → Fits p.arrow_type (select bits (fixed_list_rows p))
  fixed_fit kind size none few counted fit =
      let t = p.arrow_type in
      let rows_kept = select bits (fixed_list_rows p) in
      let child : child_type t 0 ≡ item_type t = ap (λ ts. slice_index_or ts 0 (plain null)) (list_child_types t (ap shape_of kind)) in
      let rows_are : masked valid (map items_row (chunks (length kept) p.size items)) ≡ rows_kept = ap (λ k. masked valid (map items_row (chunks k p.size items))) (sym count) ∙ fixed_kept in
      let named : flat_map (fixed_items_in p.size (item_type t)) rows_kept ≡ items = ap (flat_map (fixed_items_in p.size (item_type t))) (sym rows_are) ∙ (ap (λ ys. flat_map (fixed_items_in p.size (item_type t)) (masked valid (map items_row (chunks (length kept) p.size ys)))) own ∙ (named_under p.size (item_type t) none p.validity bits (length kept) (rows p.child) has.fits valid_long (sym (ap length own) ∙ items_long) ∙ sym own)) in
      let column : column_in t 0 rows_kept ≡ items = sized_column t rows_kept kind ∙ ((λ i. flat_map (fixed_items_in (size i) (child i)) rows_kept) ∙ named) in
      let held : length rows_kept ≡ length kept = ap length (sym rows_are) ∙ (length-masked valid (map items_row (chunks (length kept) p.size items)) (subst (FitsRows valid) (sym (length-map _ items_row ∙ length-chunks (length kept) p.size items)) valid_long) ∙ (length-map _ items_row ∙ length-chunks (length kept) p.size items)) in
      let sized : list_size t * length rows_kept ≡ length items = (λ i. size i * held i) ∙ (mul_comm p.size (length kept) ∙ sym items_long) in
      fits_sized t rows_kept kind counted (omega (arith, sized, few)) ((subst (λ u. Fits u (column_in t 0 rows_kept)) (sym child)) (subst (Fits (item_type t)) (sym column) fit))
