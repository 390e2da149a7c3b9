-- A growable of lists: its rows, what fits, and why it refuses.
use Rattle.arrow_growable.proofs.Common.{arith, ◌≡◌, ◌+◌, ◌-◌, ◌<◌, ◌≤◌, ◌^◌, ℕ, zero, suc, pos, Bool, true, false, List, [], ◌∷◌, ◌++◌, Option, length, map, replicate, take, drop, slice_index, refl, ap, sym, subst, ◌∙◌, ints, length-map, length-replicate, map-append, take_all, sum_by-cons, PhysicalType, ArrowType, plain, list, extension, field, fixed_size, Fits, all_items, physical_type_of, joined, mask, masked, Slot, Null, Fits-nil, all_items-append, length-mask, joined-append, from_slots-to_slots, IsOffsets, RisesFrom, last_of, valid_ends, valid_items, with_valid_rows, sliced, at_most_last, map_sliced, length-sliced, valid_sound, FitsRows, bits_of_slice, pieces, pieces_from, length-pieces, Layout, items_row, list_items, rows, ListParts, list_rows, item_type, Grown, empty_over, AreGrown, filled, total, valid_values, mask-append, mask-filled, mask-part, mask-unset, length-bits_of_slice, length-filled, empty_grown, empty_rows, last_behind, total_pieces, valid_grown, valid_last, valid_moved, GrownBy, AnyItems, FitsLists, HoldsLists, IsListType, SparesItems, greatest_in, lists_rows, length-append}
use Rattle.arrow_flat_growable.proofs.GrownRowLemmas.{sliced-cut}
use Rattle.arrow_growable.proofs.KindLemmas.{no_plain}

-- all items of lists

joined_from : (n : ℕ) (os : List ℕ) (xs : List Slot) → RisesFrom (pos n) (map pos os) → joined (pieces_from n os xs) ≡ sliced xs n (last_of (n ∷ os) - n)
joined_from n [] xs rises =
    let none : last_of (n ∷ []) - n ≡ 0 = omega arith in
    ap (λ k. take k (drop n xs)) (sym none)
joined_from n (m ∷ os) xs rises =
    let held : IsOffsets (m ∷ os) = record { some = omega arith; rises = (omega (arith, ints), rises.1) } in
    let below : m ≤ last_of (m ∷ os) = at_most_last (m ∷ os) 0 held (omega arith) in
    let up : n ≤ m = omega (arith, ints, rises.0) in
    ap (λ ys. sliced xs n (m - n) ++ ys) (joined_from m os xs rises.1) ∙ (sliced-cut xs n m (last_of (m ∷ os)) up below ∙ ap (λ l. sliced xs n (l - n)) (sym (last_behind n m os)))

joined_pieces : (os : List ℕ) (xs : List Slot) → IsOffsets os → joined (pieces os xs) ≡ sliced xs (slice_index os 0) (last_of os - slice_index os 0)
joined_pieces [] xs held = absurd (omega (arith, held.some))
joined_pieces (n ∷ os) xs held = joined_from n os xs held.rises.1

-- those of a growable are all rows of its child
module _ (os : List ℕ) (xs : List Slot) (held : IsOffsets os) (grown : AreGrown AnyItems os xs) where
  joined_all : joined (pieces os xs) ≡ xs
  joined_all =
      joined_pieces os xs held ∙ ((λ i. sliced xs (grown.begins i) (last_of os - grown.begins i)) ∙ take_all (last_of os - 0) xs (omega (arith, grown.ends)))

  total_all : total (pieces os xs) ≡ last_of os
  total_all =
      omega (arith, total_pieces os xs held (omega (arith, grown.ends)), grown.begins)

length-joined : (lists : List (List Slot)) → length (joined lists) ≡ total lists
length-joined [] = refl
length-joined (xs ∷ lists) =
    omega (arith, length-append xs (joined lists), length-joined lists, sum_by-cons length xs lists)

-- rows under their bits

spares-filled : (bits : List Bool) (lists : List (List Slot)) → length bits ≡ length lists → SparesItems bits (filled bits lists)
spares-filled [] [] same = refl
spares-filled (true ∷ bits) (xs ∷ lists) same =
    λ i. from_slots-to_slots xs i ++ spares-filled bits lists (omega (arith, same)) i
spares-filled (false ∷ bits) (xs ∷ lists) same = spares-filled bits lists (omega (arith, same))
spares-filled bits lists same = absurd (omega (arith, same))

-- rows of an array, or null rows, behind one's own
module _ (bits more : List Bool) (lists others : List (List Slot)) (same : length bits ≡ length lists) (spares : SparesItems bits lists) where
  behind : (ys : List (List Slot)) → mask (bits ++ more) (map items_row (lists ++ ys)) ≡ mask bits (map items_row lists) ++ mask more (map items_row ys)
  behind ys =
      ap (mask (bits ++ more)) (map-append items_row lists ys) ∙ mask-append bits more (map items_row lists) (map items_row ys) (omega (arith, same, length-map lists items_row))

  spares_more : length more ≡ length others → SparesItems (bits ++ more) (lists ++ filled more others)
  spares_more counted =
      ap all_items (behind (filled more others)) ∙ (all_items-append (mask bits (map items_row lists)) (mask more (map items_row (filled more others))) ∙ ((λ i. spares i ++ spares-filled more others counted i) ∙ sym (joined-append lists (filled more others))))

  rows_more : mask (bits ++ more) (map items_row (lists ++ filled more others)) ≡ mask bits (map items_row lists) ++ mask more (map items_row others)
  rows_more =
      behind (filled more others) ∙ ap (λ ys. mask bits (map items_row lists) ++ ys) (mask-filled items_row more others)

-- which rows fit, by their lists

lists_in_rows : (bits : List Bool) (lists : List (List Slot)) → SparesItems bits lists → length (all_items (mask bits (map items_row lists))) ≡ total lists
lists_in_rows bits lists spares = ap length spares ∙ length-joined lists

fits_lists_by : (t : ArrowType) (bits : List Bool) (lists : List (List Slot)) → IsListType (physical_type_of t) → SparesItems bits lists → Fits t (mask bits (map items_row lists)) → FitsLists (greatest_in (physical_type_of t)) (item_type t) lists
fits_lists_by (plain p) bits lists is spares fits = absurd (no_plain p is)
fits_lists_by (list (fixed_size n) f) bits lists is spares fits = absurd is
fits_lists_by (list form (field name t nullable)) bits lists is spares fits =
    record { few = omega (arith, fits.1, lists_in_rows bits lists spares); items = subst (Fits t) spares fits.2 }
fits_lists_by (extension name metadata t) bits lists is spares fits = fits_lists_by t bits lists is spares fits
fits_lists_by t bits lists is spares fits = absurd is

lists_fit_by : (t : ArrowType) (bits : List Bool) (lists : List (List Slot)) → IsListType (physical_type_of t) → SparesItems bits lists → length (mask bits (map items_row lists)) < 2 ^ 64 → FitsLists (greatest_in (physical_type_of t)) (item_type t) lists → Fits t (mask bits (map items_row lists))
lists_fit_by (plain p) bits lists is spares counted fits = absurd (no_plain p is)
lists_fit_by (list (fixed_size n) f) bits lists is spares counted fits = absurd is
lists_fit_by (list form (field name t nullable)) bits lists is spares counted fits =
    (counted, omega (arith, fits.few, lists_in_rows bits lists spares), subst (Fits t) (sym spares) fits.items)
lists_fit_by (extension name metadata t) bits lists is spares counted fits = lists_fit_by t bits lists is spares counted fits
lists_fit_by t bits lists is spares counted fits = absurd is

-- of a type whose arrays are lists
module _ (t : ArrowType) (layout : PhysicalType) (is : IsListType layout) (kind : physical_type_of t ≡ layout) where
  lies : IsListType (physical_type_of t)
  lies = subst IsListType (sym kind) is

  module _ (bits : List Bool) (lists : List (List Slot)) (spares : SparesItems bits lists) where
    fits_lists : Fits t (mask bits (map items_row lists)) → FitsLists (greatest_in layout) (item_type t) lists
    fits_lists fits =
        subst (λ l. FitsLists (greatest_in l) (item_type t) lists) kind (fits_lists_by t bits lists lies spares fits)

    lists_fit : length (mask bits (map items_row lists)) < 2 ^ 64 → FitsLists (greatest_in layout) (item_type t) lists → Fits t (mask bits (map items_row lists))
    lists_fit counted fits =
        lists_fit_by t bits lists lies spares counted (subst (λ l. FitsLists (greatest_in l) (item_type t) lists) (sym kind) fits)

-- what a growable that has not failed says of its rows

module _ (os : List ℕ) (inner : Grown) (bits : List Bool) (len : ℕ) (holds : HoldsLists os inner bits len) where
  as_many : length bits ≡ length (pieces os inner.rows)
  as_many =
      omega (arith, holds.counted, holds.covered, length-pieces os inner.rows)

  -- it counts its rows
  pub holds_counts : len ≡ length (lists_rows bits os inner.rows)
  holds_counts =
      omega (arith, length-mask bits (list_items os inner.rows) (omega (arith, as_many, length-map (pieces os inner.rows) items_row)), length-map (pieces os inner.rows) items_row, as_many, holds.counted)

module _ (os : List ℕ) (inner : Grown) (bits : List Bool) (len : ℕ) (held : IsOffsets os) (holds : HoldsLists os inner bits len) where
  many_bits : length bits ≡ length (pieces os inner.rows)
  many_bits = as_many os inner bits len holds

  -- they fit
  pub holds_fits : (layout : PhysicalType) (t : ArrowType) → IsListType layout → physical_type_of t ≡ layout → inner.arrow_type ≡ item_type t → last_of os ≤ greatest_in layout → len < 2 ^ 64 → Fits t (lists_rows bits os inner.rows)
  holds_fits layout t is kind child few counted =
      lists_fit t layout is kind bits (pieces os inner.rows) holds.spares (omega (arith, holds_counts os inner bits len holds, counted)) (record {
        few = omega (arith, few, total_all os inner.rows held holds.grown);
        items = subst (Fits (item_type t)) (sym (joined_all os inner.rows held holds.grown)) (subst (λ u. Fits u inner.rows) child holds.child.fits);
      })

  -- rows of an array behind them
  module _ (p : ListParts) (start n : ℕ) (others : IsOffsets p.offsets) (within : last_of p.offsets ≤ length (rows p.child)) (fits : FitsRows p.validity (length p.offsets - 1)) (inside : start + n < length p.offsets) where
    abbrev more_bits : List Bool
    more_bits = bits_of_slice p.validity start n

    abbrev more_items : List Slot
    more_items = valid_values more_bits p.offsets (rows p.child) start

    abbrev new_offsets : List ℕ
    new_offsets = with_valid_rows os more_bits p.offsets start

    abbrev named : List (List Slot)
    named = sliced (pieces p.offsets (rows p.child)) start n

    bits_long : length more_bits ≡ n
    bits_long = length-bits_of_slice p.validity (length p.offsets - 1) start n fits (omega (arith, inside))

    part : start + length more_bits < length p.offsets
    part = omega (arith, inside, bits_long)

    named_long : length named ≡ n
    named_long = length-sliced (pieces p.offsets (rows p.child)) start n (omega (arith, inside, length-pieces p.offsets (rows p.child)))

    moved : pieces new_offsets (inner.rows ++ more_items) ≡ pieces os inner.rows ++ filled more_bits named
    moved =
        valid_moved p.offsets (rows p.child) others within more_bits start part os inner.rows held holds.grown.ends ∙ ap (λ k. pieces os inner.rows ++ filled more_bits (sliced (pieces p.offsets (rows p.child)) start k)) bits_long

    grown_more : AreGrown AnyItems new_offsets (inner.rows ++ more_items)
    grown_more =
        valid_grown p.offsets (rows p.child) others within more_bits start part AnyItems os inner.rows holds.grown held tt (λ k d has. tt) new_offsets (inner.rows ++ more_items) (refl, refl)

    spares_moved : SparesItems (bits ++ more_bits) (pieces new_offsets (inner.rows ++ more_items))
    spares_moved =
        subst (SparesItems (bits ++ more_bits)) (sym moved) (spares_more bits more_bits (pieces os inner.rows) named many_bits holds.spares (bits_long ∙ sym named_long))

    -- the offsets are offsets still
    sound_moved : IsOffsets new_offsets
    sound_moved = valid_sound os more_bits p.offsets start held

    total_moved : total (pieces new_offsets (inner.rows ++ more_items)) ≡ last_of os + valid_items more_bits p.offsets start
    total_moved =
        total_all new_offsets (inner.rows ++ more_items) sound_moved grown_more ∙ valid_last os more_bits p.offsets start held

    joined_moved : joined (pieces new_offsets (inner.rows ++ more_items)) ≡ inner.rows ++ more_items
    joined_moved = joined_all new_offsets (inner.rows ++ more_items) sound_moved grown_more

    -- the rows that are appended
    pub rows_appended : lists_rows (bits ++ more_bits) new_offsets (inner.rows ++ more_items) ≡ lists_rows bits os inner.rows ++ sliced (list_rows p) start n
    rows_appended =
        let items = map_sliced items_row (pieces p.offsets (rows p.child)) start n in
        let masked_part = mask-part p.validity (list_items p.offsets (rows p.child)) start n (omega (arith, inside, length-map (pieces p.offsets (rows p.child)) items_row, length-pieces p.offsets (rows p.child))) in
        ap (λ ls. mask (bits ++ more_bits) (map items_row ls)) moved ∙ (rows_more bits more_bits (pieces os inner.rows) named many_bits holds.spares ∙ ap (λ ys. lists_rows bits os inner.rows ++ ys) (ap (mask more_bits) items ∙ masked_part))

    -- what it holds then
    pub holds_more : (new : Grown) → GrownBy inner new more_items → HoldsLists new_offsets new (bits ++ more_bits) (len + n)
    holds_more new grown =
        let items : new.rows ≡ inner.rows ++ more_items = ap (λ g. g.rows) grown.grown in
        let lists : length (pieces new_offsets (inner.rows ++ more_items)) ≡ len + n = omega (arith, ap length moved, length-append (pieces os inner.rows) (filled more_bits named), length-filled more_bits named (bits_long ∙ sym named_long), named_long, many_bits, holds.counted) in
        record {
          counted = omega (arith, length-append bits more_bits, bits_long, holds.counted);
          covered = omega (arith, lists, length-pieces new_offsets (inner.rows ++ more_items), length-append os (valid_ends (last_of os) more_bits p.offsets start), holds.covered);
          grown = subst (AreGrown AnyItems new_offsets) (sym items) grown_more;
          child = record { well = ap (λ g. g.failed) grown.grown; fits = grown.fits };
          spares = subst (λ xs. SparesItems (bits ++ more_bits) (pieces new_offsets xs)) (sym items) spares_moved;
        }

    -- why they are refused
    module _ (layout : PhysicalType) (t : ArrowType) (is : IsListType layout) (kind : physical_type_of t ≡ layout) (child : inner.arrow_type ≡ item_type t) where
      -- what is asked of them with the rows
      fits_whole : Fits t (lists_rows bits os inner.rows ++ sliced (list_rows p) start n) → FitsLists (greatest_in layout) (item_type t) (pieces new_offsets (inner.rows ++ more_items))
      fits_whole whole =
          fits_lists t layout is kind (bits ++ more_bits) (pieces new_offsets (inner.rows ++ more_items)) spares_moved (subst (Fits t) (sym rows_appended) whole)

      -- their offsets pass the greatest
      pub offsets_refuse : greatest_in layout < last_of os + valid_items more_bits p.offsets start → Fits t (lists_rows bits os inner.rows ++ sliced (list_rows p) start n) → ⊥
      offsets_refuse passes whole =
          omega (arith, (fits_whole whole).few, total_moved, passes)

      -- or the child can't hold the items
      pub items_refuse : (Fits inner.arrow_type (inner.rows ++ more_items) → ⊥) → Fits t (lists_rows bits os inner.rows ++ sliced (list_rows p) start n) → ⊥
      items_refuse over whole =
          over (subst (λ u. Fits u (inner.rows ++ more_items)) (sym child) (subst (Fits (item_type t)) joined_moved (fits_whole whole).items))

-- null rows behind those of a growable

empty_filled : (n : ℕ) → filled {A = Slot} (replicate n false) (replicate n []) ≡ replicate n []
empty_filled zero = refl
empty_filled (suc n) = ap (λ ys. [] ∷ ys) (empty_filled n)

module _ (os : List ℕ) (inner : Grown) (bits : List Bool) (len : ℕ) (held : IsOffsets os) (holds : HoldsLists os inner bits len) (n : ℕ) where
  abbrev null_offsets : List ℕ
  null_offsets = os ++ replicate n (last_of os)

  abbrev none : List (List Slot)
  none = replicate n []

  null_lists : pieces null_offsets inner.rows ≡ pieces os inner.rows ++ filled (replicate n false) none
  null_lists =
      empty_rows os inner.rows n held ∙ ap (λ ys. pieces os inner.rows ++ ys) (sym (empty_filled n))

  many : length bits ≡ length (pieces os inner.rows)
  many = as_many os inner bits len holds

  pub nulls_appended : lists_rows (bits ++ replicate n false) null_offsets inner.rows ≡ lists_rows bits os inner.rows ++ replicate n Null
  nulls_appended =
      ap (λ ls. mask (bits ++ replicate n false) (map items_row ls)) null_lists ∙ (rows_more bits (replicate n false) (pieces os inner.rows) none many holds.spares ∙ ap (λ ys. lists_rows bits os inner.rows ++ ys) (mask-unset n (map items_row none) (length-map none items_row ∙ length-replicate n [])))

  pub holds_nulls : HoldsLists null_offsets inner (bits ++ replicate n false) (len + n)
  holds_nulls =
      record {
        counted = omega (arith, length-append bits (replicate n false), length-replicate n false, holds.counted);
        covered = omega (arith, length-append os (replicate n (last_of os)), length-replicate n (last_of os), holds.covered);
        grown = empty_grown AnyItems os inner.rows holds.grown held tt null_offsets n refl;
        child = holds.child;
        spares = subst (SparesItems (bits ++ replicate n false)) (sym null_lists) (spares_more bits (replicate n false) (pieces os inner.rows) none many holds.spares (length-replicate n false ∙ sym (length-replicate n [])));
      }

-- an array that is made has the rows: under a validity that gives what the bits give
pub rows_made : (os ns : List ℕ) (xs : List Slot) (bits : List Bool) (v : Option (List Bool)) → ns ≡ os → length bits + 1 ≡ length os → ((ys : List Slot) → length ys ≡ length bits → masked v ys ≡ mask bits ys) → masked v (list_items ns xs) ≡ lists_rows bits os xs
rows_made os ns xs bits v same covered gives =
    ap (λ ms. masked v (list_items ms xs)) same ∙ gives (list_items os xs) (omega (arith, length-map (pieces os xs) items_row, length-pieces os xs, covered))

-- no row over a child without rows
pub holds_none : (t : ArrowType) (sources : Option (List Layout)) (inner : Grown) → inner ≡ empty_over t sources → HoldsLists (0 ∷ []) inner [] 0
holds_none t sources inner is =
    record {
      counted = refl;
      covered = refl;
      grown = record { begins = refl; ends = sym (ap (λ g. length g.rows) is); rows = λ k d has. tt };
      child = record { well = ap (λ g. g.failed) is; fits = rw is (Fits-nil t) };
      spares = refl;
    }
