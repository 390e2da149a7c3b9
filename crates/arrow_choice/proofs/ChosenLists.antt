-- Arrays of the lists that a predicate chooses: their rows, and that they fit.
use Rattle.arrow_choice.proofs.Common.{arith, ◌≡◌, ◌+◌, ◌-◌, ◌<◌, ◌≤◌, ◌^◌, ℕ, suc, Bool, true, false, Option, Some, None, List, [], ◌∷◌, ◌++◌, length, map, get_or, refl, ap, sym, subst, ◌∙◌, length-map, ArrowType, plain, list, union, extension, field, small, large, mapped, Fits, all_items, physical_type_of, chosen, mask, masked, valid_at, Slot, null_slot, Null, from_slots-to_slots, null_slot-no_union, last_of, FitsRows, Parts, boolean_rows, pieces, length-pieces, lists_of, AnyOffsetsBuffer, Large, Small, items_row, list_items, rows, ListParts, list_rows, item_type, IsListType, greatest_in, no_plain, AreOneLength, MarksChosen, chosen_by, chosen_lists, AppendsRows, concatenated, concatenated_length, ends_last}
use Rattle.arrow_choice.proofs.ChosenLemmas.{Chooses, chooses}
use Rattle.arrow_choice.proofs.ChosenRows.{length-made, long_made, made_fits, made_rows, rows_are, rows_long, spared}

-- ---- the items of rows, of which none lies beneath a null

pub all_kept : (xs : List (List Slot)) → all_items (map items_row xs) ≡ concatenated xs
all_kept [] = refl
all_kept (x ∷ xs) = λ i. from_slots-to_slots x i ++ all_kept xs i

some_kept : (bits : List Bool) (xs : List (List Slot)) → length bits ≡ length xs → ((i : ℕ) → i < length xs → get_or bits i true ≡ false → get_or xs i [] ≡ []) → all_items (mask bits (map items_row xs)) ≡ concatenated xs
some_kept [] [] long none = refl
some_kept (true ∷ bits) (x ∷ xs) long none =
    let rest = some_kept bits xs (omega (arith, long)) (λ i below unset. none (suc i) (omega (arith, below)) unset) in
    λ i. from_slots-to_slots x i ++ rest i
some_kept (false ∷ bits) (x ∷ xs) long none =
    let rest = some_kept bits xs (omega (arith, long)) (λ i below unset. none (suc i) (omega (arith, below)) unset) in
    rest ∙ ap (λ ys. ys ++ concatenated xs) (sym (none 0 (omega arith) refl))
some_kept bits xs long none = absurd (omega (arith, long))

kept : (v : Option (List Bool)) (xs : List (List Slot)) → FitsRows v (length xs) → ((i : ℕ) → i < length xs → valid_at v i ≡ false → get_or xs i [] ≡ []) → all_items (masked v (map items_row xs)) ≡ concatenated xs
kept None xs fits none = all_kept xs
kept (Some bits) xs fits none = some_kept bits xs fits none

-- ---- lists fit by their count and their items

pub lists_fit : (t : ArrowType) (xs items : List Slot) → IsListType (physical_type_of t) → all_items xs ≡ items → length xs < 2 ^ 64 → length items ≤ greatest_in (physical_type_of t) → Fits (item_type t) items → Fits t xs
lists_fit (plain p) xs items is are counted few fits = absurd (no_plain p is)
lists_fit (list small (field name t nullable)) xs items is are counted few fits =
    (counted, omega (arith, few, ap length are), subst (Fits t) (sym are) fits)
lists_fit (list large (field name t nullable)) xs items is are counted few fits =
    (counted, omega (arith, few, ap length are), subst (Fits t) (sym are) fits)
lists_fit (list (mapped sorted) (field name t nullable)) xs items is are counted few fits =
    (counted, omega (arith, few, ap length are), subst (Fits t) (sym are) fits)
lists_fit (extension name metadata t) xs items is are counted few fits = lists_fit t xs items is are counted few fits
lists_fit t xs items is are counted few fits = absurd is

-- offsets of either width are those of lists
pub lists_are : (offsets : AnyOffsetsBuffer) → IsListType (lists_of offsets)
lists_are (Small offsets) = tt
lists_are (Large offsets) = tt

-- a null slot of lists is null
pub null_list : (t : ArrowType) → IsListType (physical_type_of t) → null_slot t ≡ Null
null_list t is = null_slot-no_union t (λ union. subst IsListType union is)

-- ---- an array of what is chosen

-- the items of each row in place of the parts that they lie in
abbrev parts_in : ListParts → Parts (List (List Slot))
parts_in p =
    record { arrow_type = p.arrow_type; validity = p.validity; values = pieces p.offsets (rows p.child) }

fit_parts : (q : ListParts) → FitsRows q.validity (length q.offsets - 1) → FitsRows q.validity (length (map items_row (pieces q.offsets (rows q.child))))
fit_parts q fit =
    subst (FitsRows q.validity) (sym (length-map (pieces q.offsets (rows q.child)) items_row ∙ length-pieces q.offsets (rows q.child))) fit

-- lists of two arrays of which a predicate chooses, a validity of the rows that are chosen, where they end, and their items
pub record ChoosesLists (p : Parts (List Bool)) (l r : ListParts) (validity : Option (List Bool)) (offsets : List ℕ) (items : List Slot) : Type 0 where
  pub kind : IsListType (physical_type_of l.arrow_type)
  pub lengths : AreOneLength (boolean_rows p) (list_rows l) (list_rows r)
  pub fits : FitsRows p.validity (length p.values)
  pub left : FitsRows l.validity (length l.offsets - 1)
  pub right : FitsRows r.validity (length r.offsets - 1)
  pub marks : MarksChosen p l.validity r.validity validity
  pub lie : AppendsRows (chosen_lists p l r validity) (0 ∷ []) [] offsets items

module _ {p : Parts (List Bool)} {l r : ListParts} {validity : Option (List Bool)} {offsets : List ℕ} {items : List Slot} (s : ChoosesLists p l r validity offsets items) where
  abbrev made : List (List Slot)
  made = chosen_lists p l r validity

  all : Chooses p (parts_in l) (parts_in r) (chosen_by p.values (pieces l.offsets (rows l.child)) (pieces r.offsets (rows r.child))) validity
  all =
      chooses items_row p (parts_in l) (parts_in r) _ validity l.validity r.validity s.lengths s.fits (fit_parts l s.left) (fit_parts r s.right) refl refl refl s.marks

  rows_made : masked validity (map items_row made) ≡ chosen (boolean_rows p) (list_rows l) (list_rows r) l.arrow_type
  rows_made = made_rows all items_row l.arrow_type (null_list l.arrow_type s.kind)

  pub lists_long : FitsRows validity (length offsets - 1)
  lists_long = subst (FitsRows validity) (sym (rows_long s.lie)) (made_fits all)

  pub lists_chosen : masked validity (list_items offsets items) ≡ chosen (boolean_rows p) (list_rows l) (list_rows r) l.arrow_type
  lists_chosen = ap (λ xs. masked validity (map items_row xs)) (rows_are s.lie) ∙ rows_made

  pub chosen_fit : length p.values < 2 ^ 64 → last_of offsets ≤ greatest_in (physical_type_of l.arrow_type) → Fits (item_type l.arrow_type) items → Fits l.arrow_type (chosen (boolean_rows p) (list_rows l) (list_rows r) l.arrow_type)
  chosen_fit counted few fit =
      let inside = kept validity made (made_fits all) (λ i below. spared all i (omega (arith, below, long_made all))) in
      let last : last_of offsets ≡ 0 + length (concatenated made) = ap last_of s.lie.ends ∙ (ends_last 0 (map length made) ∙ ap (λ n. 0 + n) (concatenated_length made)) in
      subst (Fits l.arrow_type) rows_made (lists_fit l.arrow_type (masked validity (map items_row made)) (concatenated made) s.kind inside (omega (arith, counted, length-made all items_row)) (omega (arith, few, last)) (subst (Fits (item_type l.arrow_type)) s.lie.items fit))
