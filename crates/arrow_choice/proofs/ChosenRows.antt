-- Rows of bytes or items that a predicate chooses: those of a side by its bits, and nothing where the validity says null.
use Rattle.arrow_choice.proofs.Common.{arith, ◌≡◌, ◌+◌, ◌-◌, ◌<◌, ◌≤◌, ℕ, Bool, true, false, Option, List, [], ◌∷◌, length, map, get_or, slice_index, if◌then◌else◌, refl, ap, sym, subst, ◌∙◌, get_or-map, get_or_default, length-map, same_lists, get_or-map-range_with_len, length-map-range_with_len, get_or_from_slice_get, ArrowType, chosen, masked, valid_at, Slot, Null, null_slot, last_of, sliced, length-sliced, FitsRows, Parts, boolean_rows, rows_by, pieces, length-pieces, piece_at, all_chosen, chosen_by, AppendsRows, row_chosen, concatenated_length, ends_last, length-ends, rows_between}
use Rattle.arrow_choice.proofs.ChosenLemmas.{Chooses, get_or-chosen_by, long_slots, long_values, rows_chosen, slot_at}

-- a row as what its offsets name, of which nothing is taken where it is not valid
module _ {A : Type 0} (os : List ℕ) (xs : List A) (row first end : ℕ) (within : row < length (pieces os xs)) (begins : first ≡ slice_index os row) (ends : end ≡ slice_index os (row + 1)) where
  row_span : get_or (pieces os xs) row [] ≡ sliced xs first (end - first)
  row_span =
      get_or_from_slice_get (pieces os xs) row _ [] (piece_at os xs row (omega (arith, within, length-pieces os xs))) ∙ (λ i. sliced xs (sym begins i) (sym ends i - sym begins i))

  pub row_taken : (valid : Bool) (stop : ℕ) → stop ≡ (if valid then end else first) → (if valid then get_or (pieces os xs) row [] else []) ≡ sliced xs first (stop - first)
  row_taken true stop is = row_span ∙ ap (λ n. sliced xs first (n - first)) (sym is)
  row_taken false stop is =
      let none : 0 ≡ stop - first = omega (arith, is) in
      ap (sliced xs first) none

  pub row_counted : (valid : Bool) (stop : ℕ) → stop ≡ (if valid then end else first) → first ≤ end → end ≤ length xs → length (if valid then get_or (pieces os xs) row [] else []) ≡ stop - first
  row_counted true stop is rises inside =
      ap length row_span ∙ (length-sliced xs first (end - first) (omega (arith, rises, inside)) ∙ omega (arith, is))
  row_counted false stop is rises inside = omega (arith, is)

-- ---- rows under a validity

pub same_by : (b : Bool) (x y : Slot) → (b ≡ true → x ≡ y) → (if b then x else Null) ≡ (if b then y else Null)
same_by true x y same = same refl
same_by false x y same = refl

-- the same where those are that are valid
masked_same : {A : Type 0} (slot : List A → Slot) (v : Option (List Bool)) (xs ys : List (List A)) → length xs ≡ length ys → FitsRows v (length xs) → ((i : ℕ) → i < length xs → valid_at v i ≡ true → get_or xs i [] ≡ get_or ys i []) → masked v (map slot xs) ≡ masked v (map slot ys)
masked_same slot v xs ys long fits same =
    let fits_too : FitsRows v (length ys) = subst (FitsRows v) long fits in
    let size = long_slots slot v xs fits in
    let size_too = long_slots slot v ys fits_too in
    same_lists _ _ (size ∙ (long ∙ sym size_too)) (λ i d within.
    let below : i < length xs = omega (arith, within, size) in
    let behind : i < length ys = omega (arith, below, long) in
    let read : valid_at v i ≡ true → get_or (map slot xs) i Null ≡ get_or (map slot ys) i Null = λ valid. get_or-map slot xs i [] Null below ∙ (ap slot (same i below valid) ∙ sym (get_or-map slot ys i [] Null behind)) in
    let row = slot_at slot v xs fits i below ∙ (same_by (valid_at v i) _ _ read ∙ sym (slot_at slot v ys fits_too i behind)) in
    get_or_default (masked v (map slot xs)) i d Null within ∙ (row ∙ sym (get_or_default (masked v (map slot ys)) i d Null (omega (arith, behind, size_too)))))

-- ---- rows that are chosen

module _ {A : Type 0} {p : Parts (List Bool)} {l r : Parts (List (List A))} {validity : Option (List Bool)} (all : Chooses p l r (chosen_by p.values l.values r.values) validity) where
  abbrev made : List (List A)
  made = all_chosen validity p.values l.values r.values

  pub long_made : length made ≡ length p.values
  long_made = length-map-range_with_len (row_chosen validity p.values l.values r.values) 0 (length p.values)

  pub made_fits : FitsRows validity (length made)
  made_fits = subst (FitsRows validity) (sym long_made) all.marks.fits

  each : (i : ℕ) → i < length p.values → get_or made i [] ≡ row_chosen validity p.values l.values r.values i
  each i below = get_or-map-range_with_len (row_chosen validity p.values l.values r.values) 0 (length p.values) i i [] below (omega arith)

  of_side : (bit : Bool) (i : ℕ) → get_or (if bit then l.values else r.values) i [] ≡ (if bit then get_or l.values i [] else get_or r.values i [])
  of_side true i = refl
  of_side false i = refl

  -- a valid row is that of its side
  agrees : (i : ℕ) → i < length p.values → valid_at validity i ≡ true → get_or made i [] ≡ get_or (chosen_by p.values l.values r.values) i []
  agrees i below valid =
      let bit = get_or p.values i false in
      each i below ∙ ((λ t. if valid t then get_or (if bit then l.values else r.values) i [] else []) ∙ (of_side bit i ∙ sym (get_or-chosen_by p.values l.values r.values i [] all.long_left all.long_right below)))

  -- and one that is null has nothing
  pub spared : (i : ℕ) → i < length p.values → valid_at validity i ≡ false → get_or made i [] ≡ []
  spared i below null =
      each i below ∙ (λ t. if null t then get_or (if get_or p.values i false then l.values else r.values) i [] else [])

  pub made_rows : (slot : List A → Slot) (t : ArrowType) → null_slot t ≡ Null → masked validity (map slot made) ≡ chosen (boolean_rows p) (rows_by (map slot) l) (rows_by (map slot) r) t
  made_rows slot t none =
      let rows = chosen_by p.values l.values r.values in
      let long = long_made ∙ sym (long_values all) in
      masked_same slot validity made rows long made_fits (λ i below. agrees i (omega (arith, below, long_made))) ∙ rows_chosen all slot t none

  pub length-made : (slot : List A → Slot) → length (masked validity (map slot made)) ≡ length p.values
  length-made slot = long_slots slot validity made made_fits ∙ long_made

-- ---- offsets and what lies between them, made so

module _ {A : Type 0} {rows : List (List A)} {offsets : List ℕ} {items : List A} (lie : AppendsRows rows (0 ∷ []) [] offsets items) where
  pub rows_long : length offsets - 1 ≡ length rows
  rows_long = omega (arith, ap length lie.ends, length-ends 0 (map length rows), length-map rows length)

  pub rows_end : last_of offsets ≤ length items
  rows_end =
      omega (arith, ap last_of lie.ends, ends_last 0 (map length rows), concatenated_length rows, ap length lie.items)

  pub rows_are : pieces offsets items ≡ rows
  rows_are = (λ i. pieces (lie.ends i) (lie.items i)) ∙ rows_between rows
