-- Rows that come behind others, in bytes or in the rows of a child: empty where their bit is not set.
use Rattle.arrow_flat_growable.proofs.Common.{arith, ◌≡◌, ◌+◌, ◌-◌, ◌<◌, ◌≤◌, ℕ, zero, suc, Bool, true, false, List, [], ◌∷◌, ◌++◌, length, replicate, take, slice_index, if◌then◌else◌, refl, ap, sym, subst, ◌∙◌, All, drop-append_seam, take-append_seam, length-replicate, sum_by-append, sum_by-cons, All-append, All-take, All-drop, All-cons, All-nil, IsOffsets, last_of, valid_length, valid_items, valid_ends, with_valid_rows, sliced, at_most_last, offsets_rise, length-sliced, pieces, pieces_from, AreGrown, filled, total, valid_values}
use Rattle.std.proofs.lemmas.List.{length-append, append_assoc}
use Rattle.arrow_flat_growable.proofs.GrownRowLemmas.{last_behind, last_more, part_cut, part_rows, pieces-more, pieces-within, same_begin, sliced-cut, total_grown}

-- the last of their offsets
last_valid : (place : ℕ) (bits : List Bool) (others : List ℕ) (i : ℕ) → last_of (place ∷ valid_ends place bits others i) ≡ place + valid_items bits others i
last_valid place [] others i = omega arith
last_valid place (b ∷ bits) others i =
    let n = valid_length b others i in
    omega (arith, last_behind place (place + n) (valid_ends (place + n) bits others (i + 1)), last_valid (place + n) bits others (i + 1))

pub valid_last : (os : List ℕ) (bits : List Bool) (others : List ℕ) (i : ℕ) → IsOffsets os → last_of (with_valid_rows os bits others i) ≡ last_of os + valid_items bits others i
valid_last [] bits others i sound = absurd (omega (arith, sound.some))
valid_last (n ∷ os) bits others i sound =
    last_more n os (valid_ends (last_of (n ∷ os)) bits others i) ∙ last_valid (last_of (n ∷ os)) bits others i

-- how many bits are left behind a run and those before it
pub run_long : (nulls count : ℕ) (old bits : List Bool) → old ≡ replicate nulls false ++ (replicate count true ++ bits) → length old ≡ nulls + (count + length bits)
run_long nulls count old bits is =
    ap length is ∙ (length-append (replicate nulls false) (replicate count true ++ bits) ∙ (λ t. length-replicate nulls false t + (length-append (replicate count true) bits ∙ ap (λ n. n + length bits) (length-replicate count true)) t))

-- rows stay as their kind asks where some are emptied
filled_allowed : {A : Type 0} (Allows : List A → Type 0) → Allows [] → (bits : List Bool) (rows : List (List A)) → All Allows rows → All Allows (filled bits rows)
filled_allowed Allows empty [] rows all = All-nil Allows
filled_allowed Allows empty (b ∷ bits) [] all = All-nil Allows
filled_allowed Allows empty (true ∷ bits) (row ∷ rows) all =
    All-cons Allows row (filled bits rows) (all 0 row (omega arith)) (filled_allowed Allows empty bits rows (λ k d within. all (suc k) d (omega (arith, within))))
filled_allowed Allows empty (false ∷ bits) (row ∷ rows) all =
    All-cons Allows [] (filled bits rows) empty (filled_allowed Allows empty bits rows (λ k d within. all (suc k) d (omega (arith, within))))

-- rows that other offsets name in values
module _ {A : Type 0} (others : List ℕ) (values : List A) (held : IsOffsets others) (within : last_of others ≤ length values) where
  abbrev row : ℕ → List A
  row i = sliced values (slice_index others i) (slice_index others (i + 1) - slice_index others i)

  -- the rows from row i on, as many as there are bits
  abbrev rows_from : ℕ → ℕ → List (List A)
  rows_from i n = pieces_from (slice_index others i) (sliced others (i + 1) n) values

  next_row : (i n : ℕ) → i + 1 < length others → rows_from i (suc n) ≡ row i ∷ rows_from (i + 1) n
  next_row i n inside =
      let count : suc n ≡ n + 1 = omega arith in
      ap (λ os. pieces_from (slice_index others i) os values) (ap (sliced others (i + 1)) count ∙ part_cut others (i + 1) n inside)

  row_long : (i : ℕ) → i + 1 < length others → length (row i) ≡ slice_index others (i + 1) - slice_index others i
  row_long i inside =
      let low = offsets_rise others i (i + 1) held (omega arith) inside in
      let high = at_most_last others (i + 1) held inside in
      length-sliced values (slice_index others i) (slice_index others (i + 1) - slice_index others i) (omega (arith, low, high, within))

  abbrev item : Bool → ℕ → List A
  item b i = if b then row i else []

  item_long : (b : Bool) (i : ℕ) → i + 1 < length others → length (item b i) ≡ valid_length b others i
  item_long true i inside = row_long i inside
  item_long false i inside = refl

  -- a row has no more values than lie there, and all of them where it has as many
  valid_few : (b : Bool) (i : ℕ) → slice_index others i ≤ slice_index others (i + 1) → valid_length b others i ≤ slice_index others (i + 1) - slice_index others i
  valid_few true i low = omega arith
  valid_few false i low = omega arith

  all_of : (b : Bool) (i : ℕ) → slice_index others (i + 1) - slice_index others i ≤ valid_length b others i → item b i ≡ row i
  all_of true i all = refl
  all_of false i all =
      let none : slice_index others (i + 1) - slice_index others i ≡ 0 = omega (arith, all) in
      ap (λ n. sliced values (slice_index others i) n) (sym none)

  zero_behind : (i : ℕ) → i + 0 ≡ i
  zero_behind i = omega arith

  pub length-valid_values : (bits : List Bool) (i : ℕ) → i + length bits < length others → length (valid_values bits others values i) ≡ valid_items bits others i
  length-valid_values [] i inside = refl
  length-valid_values (b ∷ bits) i inside =
      omega (arith, length-append (item b i) (valid_values bits others values (i + 1)), item_long b i (omega (arith, inside)), length-valid_values bits (i + 1) (omega (arith, inside)))

  -- behind some values each row is where its offsets say
  valid_pieces : (bits : List Bool) (i : ℕ) (own : List A) → i + length bits < length others → pieces_from (length own) (valid_ends (length own) bits others i) (own ++ valid_values bits others values i) ≡ filled bits (rows_from i (length bits))
  valid_pieces [] i own inside = refl
  valid_pieces (b ∷ bits) i own inside =
      let first : i + 1 < length others = omega (arith, inside) in
      let rest = valid_values bits others values (i + 1) in
      let long : length (own ++ item b i) ≡ length own + valid_length b others i = length-append own (item b i) ∙ ap (λ n. length own + n) (item_long b i first) in
      let count : length own + valid_length b others i - length own ≡ length (item b i) = omega (arith, item_long b i first) in
      let here : sliced (own ++ (item b i ++ rest)) (length own) (length own + valid_length b others i - length own) ≡ item b i =
      (λ t. take (count t) (drop-append_seam own (item b i ++ rest) t)) ∙ take-append_seam (item b i) rest in
      let behind : pieces_from (length own + valid_length b others i) (valid_ends (length own + valid_length b others i) bits others (i + 1)) (own ++ (item b i ++ rest)) ≡ filled bits (rows_from (i + 1) (length bits)) =
      (λ t. pieces_from (sym long t) (valid_ends (sym long t) bits others (i + 1)) (sym (append_assoc own (item b i) rest) t)) ∙ valid_pieces bits (i + 1) (own ++ item b i) (omega (arith, inside)) in
      (λ t. here t ∷ behind t) ∙ ap (filled (b ∷ bits)) (sym (next_row i (length bits) first))

  total_valid : (bits : List Bool) (i : ℕ) → i + length bits < length others → total (filled bits (rows_from i (length bits))) ≡ valid_items bits others i
  total_valid [] i inside = refl
  total_valid (b ∷ bits) i inside =
      let first : i + 1 < length others = omega (arith, inside) in
      let rest = filled bits (rows_from (i + 1) (length bits)) in
      ap (λ rows. total (filled (b ∷ bits) rows)) (next_row i (length bits) first) ∙ omega (arith, sum_by-cons length (item b i) rest, item_long b i first, total_valid bits (i + 1) (omega (arith, inside)))

  -- the values of the rows of a run
  pub unset_run : (n : ℕ) (bits : List Bool) (i : ℕ) → valid_values (replicate n false ++ bits) others values i ≡ valid_values bits others values (i + n)
  unset_run zero bits i =
      let same : i + 0 ≡ i = omega arith in
      rw same refl
  unset_run (suc n) bits i =
      let next : i + 1 + n ≡ i + suc n = omega arith in
      unset_run n bits (i + 1) ∙ ap (valid_values bits others values) next

  pub set_run : (n : ℕ) (bits : List Bool) (i : ℕ) → i + n < length others → valid_values (replicate n true ++ bits) others values i ≡ sliced values (slice_index others i) (slice_index others (i + n) - slice_index others i) ++ valid_values bits others values (i + n)
  set_run zero bits i inside =
      let same : i + 0 ≡ i = omega arith in
      let none : slice_index others i - slice_index others i ≡ 0 = omega arith in
      rw (same, none) refl
  set_run (suc n) bits i inside =
      let next : i + 1 + n ≡ i + suc n = omega arith in
      let here = slice_index others i in
      let behind = slice_index others (i + 1) in
      let end = slice_index others (i + suc n) in
      let rest = valid_values bits others values (i + suc n) in
      let low = offsets_rise others i (i + 1) held (omega arith) (omega (arith, inside)) in
      let high = offsets_rise others (i + 1) (i + suc n) held (omega arith) inside in
      let tail : valid_values (replicate n true ++ bits) others values (i + 1) ≡ sliced values behind (end - behind) ++ rest =
      set_run n bits (i + 1) (omega (arith, inside)) ∙ (λ t. sliced values behind (slice_index others (next t) - behind) ++ valid_values bits others values (next t)) in
      ap (λ ys. row i ++ ys) tail ∙ (sym (append_assoc (row i) (sliced values behind (end - behind)) rest) ∙ ap (λ ys. ys ++ rest) (sliced-cut values here behind end low high))

  -- valid rows have no more values than all
  items_few : (bits : List Bool) (i : ℕ) → i + length bits < length others → valid_items bits others i ≤ slice_index others (i + length bits) - slice_index others i
  items_few [] i inside = omega arith
  items_few (b ∷ bits) i inside =
      let next : i + 1 + length bits ≡ i + suc (length bits) = omega arith in
      let low = offsets_rise others i (i + 1) held (omega arith) (omega (arith, inside)) in
      let high = offsets_rise others (i + 1) (i + 1 + length bits) held (omega arith) (omega (arith, inside)) in
      omega (arith, valid_few b i low, items_few bits (i + 1) (omega (arith, inside)), ap (slice_index others) next, low, high)

  -- where they have as many, no other has any
  pub all_valid : (bits : List Bool) (i : ℕ) → i + length bits < length others → slice_index others (i + length bits) - slice_index others i ≤ valid_items bits others i → valid_values bits others values i ≡ sliced values (slice_index others i) (slice_index others (i + length bits) - slice_index others i)
  all_valid [] i inside all =
      let none : slice_index others (i + 0) - slice_index others i ≡ 0 = omega (arith, ap (slice_index others) (zero_behind i)) in
      rw none refl
  all_valid (b ∷ bits) i inside all =
      let next : i + 1 + length bits ≡ i + suc (length bits) = omega arith in
      let here = slice_index others i in
      let behind = slice_index others (i + 1) in
      let end = slice_index others (i + suc (length bits)) in
      let end_is = ap (slice_index others) next in
      let low = offsets_rise others i (i + 1) held (omega arith) (omega (arith, inside)) in
      let high = offsets_rise others (i + 1) (i + 1 + length bits) held (omega arith) (omega (arith, inside)) in
      let few = items_few bits (i + 1) (omega (arith, inside)) in
      let rest : valid_values bits others values (i + 1) ≡ sliced values behind (end - behind) = all_valid bits (i + 1) (omega (arith, inside)) (omega (arith, all, end_is, few, low, high, valid_few b i low)) ∙ ap (λ e. sliced values behind (e - behind)) end_is in
      ap (λ ys. item b i ++ ys) rest ∙ (ap (λ ys. ys ++ sliced values behind (end - behind)) (all_of b i (omega (arith, all, end_is, few, low, high))) ∙ sliced-cut values here behind end low (omega (arith, high, end_is)))

  -- the values of a run at the head, and those of the rest
  pub run_taken : (nulls count : ℕ) (old bits : List Bool) (i : ℕ) → old ≡ replicate nulls false ++ (replicate count true ++ bits) → i + length old < length others → valid_values old others values i ≡ sliced values (slice_index others (i + nulls)) (slice_index others (i + nulls + count) - slice_index others (i + nulls)) ++ valid_values bits others values (i + (nulls + count))
  run_taken nulls count old bits i is inside =
      let long = run_long nulls count old bits is in
      let at : i + nulls + count ≡ i + (nulls + count) = omega arith in
      let part = sliced values (slice_index others (i + nulls)) (slice_index others (i + nulls + count) - slice_index others (i + nulls)) in
      ap (λ bs. valid_values bs others values i) is ∙ (unset_run nulls (replicate count true ++ bits) i ∙ (set_run count bits (i + nulls) (omega (arith, inside, long)) ∙ ap (λ k. part ++ valid_values bits others values k) at))

  -- one run more
  pub run_copied : (nulls count : ℕ) (old bits : List Bool) (i : ℕ) → old ≡ replicate nulls false ++ (replicate count true ++ bits) → i + length old < length others → (done own new : List A) → new ≡ own ++ sliced values (slice_index others (i + nulls)) (slice_index others (i + nulls + count) - slice_index others (i + nulls)) → own ++ valid_values old others values i ≡ done → new ++ valid_values bits others values (i + (nulls + count)) ≡ done
  run_copied nulls count old bits i is inside done own new grown all =
      let part = sliced values (slice_index others (i + nulls)) (slice_index others (i + nulls + count) - slice_index others (i + nulls)) in
      let rest = valid_values bits others values (i + (nulls + count)) in
      ap (λ ys. ys ++ rest) grown ∙ (append_assoc own part rest ∙ (ap (λ ys. own ++ ys) (sym (run_taken nulls count old bits i is inside)) ∙ all))

  -- rows behind one's own
  module _ (bits : List Bool) (start : ℕ) (part : start + length bits < length others) where
    some_row : start < length others
    some_row = omega (arith, part)

    valid_rows : rows_from start (length bits) ≡ sliced (pieces others values) start (length bits)
    valid_rows = part_rows others values start (length bits) held part within

    pub valid_moved : (os : List ℕ) (own : List A) → IsOffsets os → last_of os ≡ length own → pieces (with_valid_rows os bits others start) (own ++ valid_values bits others values start) ≡ pieces os own ++ filled bits (sliced (pieces others values) start (length bits))
    valid_moved [] own sound ends = absurd (omega (arith, sound.some))
    valid_moved (n ∷ os) own sound ends =
        let more = valid_values bits others values start in
        let all = own ++ more in
        let old : pieces_from n os all ≡ pieces_from n os own =
        pieces-within n os own more (omega (arith, ends, at_most_last (n ∷ os) 0 sound (omega arith))) (λ j inside. omega (arith, ends, at_most_last (n ∷ os) (suc j) sound (omega (arith, inside)))) in
        let new : pieces_from (last_of (n ∷ os)) (valid_ends (last_of (n ∷ os)) bits others start) all ≡ filled bits (sliced (pieces others values) start (length bits)) =
        (λ t. pieces_from (ends t) (valid_ends (ends t) bits others start) all) ∙ (valid_pieces bits start own part ∙ ap (filled bits) valid_rows) in
        pieces-more n os (valid_ends (last_of (n ∷ os)) bits others start) all ∙ (λ t. old t ++ new t)

    module _ (Allows : List A → Type 0) (os : List ℕ) (own : List A) (grown : AreGrown Allows os own) (sound : IsOffsets os) where
      pub valid_total : total (pieces os own ++ filled bits (sliced (pieces others values) start (length bits))) ≡ last_of os + valid_items bits others start
      valid_total =
          let more : total (filled bits (sliced (pieces others values) start (length bits))) ≡ valid_items bits others start = ap (λ rows. total (filled bits rows)) (sym valid_rows) ∙ total_valid bits start part in
          omega (arith, sum_by-append length (pieces os own) (filled bits (sliced (pieces others values) start (length bits))), total_grown Allows os own grown sound, more)

      pub valid_grown : Allows [] → All Allows (pieces others values) → (new_os : List ℕ) (new : List A) → (new_os ≡ with_valid_rows os bits others start) × (new ≡ own ++ valid_values bits others values start) → AreGrown Allows new_os new
      valid_grown empty allowed new_os new is =
          let last : last_of new_os ≡ last_of os + valid_items bits others start = ap last_of is.0 ∙ valid_last os bits others start sound in
          let size : length new ≡ length own + valid_items bits others start = ap length is.1 ∙ (length-append own (valid_values bits others values start) ∙ ap (λ n. length own + n) (length-valid_values bits start part)) in
          let rows = filled_allowed Allows empty bits (sliced (pieces others values) start (length bits)) (All-take Allows (length bits) _ (All-drop Allows start _ allowed)) in
          record {
            begins = ap (λ ns. slice_index ns 0) is.0 ∙ (same_begin os (valid_ends (last_of os) bits others start) sound ∙ grown.begins);
            ends = last ∙ (ap (λ n. n + valid_items bits others start) grown.ends ∙ sym size);
            rows = subst (All Allows) (sym ((λ t. pieces (is.0 t) (is.1 t)) ∙ valid_moved os own sound grown.ends)) (All-append Allows (pieces os own) (filled bits (sliced (pieces others values) start (length bits))) grown.rows rows);
          }
