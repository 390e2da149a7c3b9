-- Rows of a predicate by words of 64, and in runs.
use Rattle.arrow_choice.proofs.Common.{length-drop, arith, ◌≡◌, ◌+◌, ◌-◌, ◌*◌, ◌/◌, ◌%◌, ◌^◌, ◌<◌, ◌≤◌, ℕ, zero, suc, Bool, true, false, Option, Some, None, List, [], ◌∷◌, ◌++◌, length, map, replicate, drop, get_or, refl, ap, sym, subst, inl, inr, ◌∙◌, w64, not, if◌then◌else◌, ◌==◌, ◌&&◌, bit_and, slice_get, IfSome, bit_at, bit_not, cases_lt, not-false, not-true, drop-drop, ext_get_or, get_or-drop, get_or-map, get_or-replicate, get_or-take, length-map, length-replicate, length-take, take-append-drop, and_le_l, slice_get_within, get_or_from_slice_get, IsShortestOfSides, named_sides, masked, valid_at, Slot, Null, Boolean, sliced, IsLowRun, bit_at-shr, and_each, and_not_each, not_each, FitsRows, truth_slot, side_of, sides_from, AreRowsOf, IsRunIn, IsRunTo, TakesRun, is_truth, truth_by, bit_within}
use Rattle.arrow_choice.proofs.ChosenLemmas.{long_slots, truth_at}
use Rattle.arrow_choice.proofs.RangeLemmas.{NamesUpTo, all_named, all_shortest, labelled, names_run}

-- ---- a row by two bits

truth_is : (truth : Option Bool) (valid value : Bool) → is_truth truth valid value ≡ true → truth_by valid value ≡ truth_slot truth
truth_is None false value is = refl
truth_is (Some true) true true is = refl
truth_is (Some false) true false is = refl
truth_is truth valid value is = cc

truth_is_not : (truth : Option Bool) (valid value : Bool) → is_truth truth valid value ≡ false → side_of (truth_by valid value) ≡ side_of (truth_slot truth) → ⊥
truth_is_not None true true other same = omega (arith, same)
truth_is_not None false value other same = cc
truth_is_not (Some true) true true other same = cc
truth_is_not (Some false) true false other same = cc
truth_is_not truth valid value other same = omega (arith, same)

-- the rows that are not true, not false, and not null
pub others_true : (valid values k : ℕ) → valid < 2 ^ 64 → k < 64 → (bit_at (bit_not w64 (bit_and valid values)) k == 1) ≡ not ((bit_at valid k == 1) && (bit_at values k == 1))
others_true valid values k small below =
    not_each (bit_and valid values) k (omega (arith, and_le_l valid values)) below ∙ ap not (and_each valid values k)

pub others_false : (valid values k : ℕ) → valid < 2 ^ 64 → values < 2 ^ 64 → k < 64 → (bit_at (bit_not w64 (bit_and valid (bit_not w64 values))) k == 1) ≡ not ((bit_at valid k == 1) && not (bit_at values k == 1))
others_false valid values k small other below =
    not_each (bit_and valid (bit_not w64 values)) k (omega (arith, and_le_l valid (bit_not w64 values))) below ∙ ap not (and_not_each valid values k other below)

-- ---- runs in a word

module _ (valid values : ℕ) (truth : Option Bool) (place others n : ℕ) (below : place < 64) (each : (k : ℕ) → k < 64 → (bit_at others k == 1) ≡ not (is_truth truth (bit_at valid k == 1) (bit_at values k == 1))) (run : IsLowRun (others / 2 ^ place) (64 - place) false n) where
  alike_in : (k : ℕ) → place ≤ k → k < place + n → truth_by (bit_at valid k == 1) (bit_at values k == 1) ≡ truth_slot truth
  alike_in k from to =
      let at : place + (k - place) ≡ k = omega (arith, from) in
      let unset = run.alike (k - place) (omega (arith, from, to)) in
      let bit = ap (λ b. b == 1) (bit_at-shr others place (k - place) ∙ ap (bit_at others) at) in
      truth_is truth _ _ (not-false _ (sym (each k (omega (arith, to, run.within))) ∙ (sym bit ∙ unset)))

  ends_in : place + n < 64 → side_of (truth_by (bit_at valid (place + n) == 1) (bit_at values (place + n) == 1)) ≡ side_of (truth_slot truth) → ⊥
  ends_in short =
      let set = run.ends (omega (arith, short)) in
      let bit = ap (λ b. b == 1) (bit_at-shr others place n) in
      truth_is_not truth _ _ (not-true _ (sym (each (place + n) short) ∙ (sym bit ∙ set)))

  pub run_in : IsRunIn valid values truth place n
  run_in = record { within = omega (arith, run.within); alike = alike_in; ends = ends_in }

-- ---- the words of a predicate

-- a row of a predicate that is not null, and one that is
pub only_valid : (v b c : Bool) → (if v then Boolean b else Null) ≡ Boolean c → (v ≡ true) × (b ≡ c)
only_valid true b c is = (refl, cc)
only_valid false b c is = absurd (cc)

pub only_null : (v b : Bool) → (if v then Boolean b else Null) ≡ Null → v ≡ false
only_null true b is = absurd (cc)
only_null false b is = refl

pub rows_of_words : (v : Option (List Bool)) (bits : List Bool) (j valid values : ℕ) → FitsRows v (length bits) → ((k : ℕ) → k < 64 → IfSome v (λ bits. 64 * j + k < length bits) → (bit_at valid k == 1) ≡ valid_at v (64 * j + k)) → ((k : ℕ) → k < 64 → (bit_at values k == 1) ≡ get_or bits (64 * j + k) false) → AreRowsOf (masked v (map Boolean bits)) j valid values
rows_of_words v bits j valid values fits marks reads = record {
  each = λ k below within.
      let i = 64 * j + k in
      let stored : i < length bits = omega (arith, within, long_slots Boolean v bits fits) in
      truth_at v bits i fits stored ∙ (λ t. if sym (marks k below (bit_within v (length bits) i fits stored)) t then Boolean (sym (reads k below) t) else Null);
}

-- ---- runs of rows

-- each row from one up to another is so
abbrev pub AreTruths : List Slot → Option Bool → ℕ → ℕ → Type 0
AreTruths ps truth start end = (i : ℕ) → start ≤ i → i < end → get_or ps i Null ≡ truth_slot truth

module _ {ps : List Slot} {truth : Option Bool} {place valid values n : ℕ} (end : ℕ) (is : place ≡ end % 64) (rows : AreRowsOf ps (end / 64) valid values) (run : IsRunIn valid values truth place n) (count : ℕ) (within : end + count ≤ length ps) where
  -- as many more as the words go on with
  pub truths_more : (start : ℕ) → start ≤ end → AreTruths ps truth start end → count ≤ n → AreTruths ps truth start (end + count)
  truths_more start order so_far fewer i from below =
      elim (cases_lt i end) as (λ _. get_or ps i Null ≡ truth_slot truth) [
        | inl before ↦ so_far i from before
        | inr after ↦
            let k = place + (i - end) in
            let at : 64 * (end / 64) + k ≡ i = omega (arith, is, after) in
            let inside : k < place + n = omega (arith, after, below, fewer) in
            ap (λ q. get_or ps q Null) (sym at) ∙ (rows.each k (omega (arith, inside, run.within)) (omega (arith, at, below, within)) ∙ run.alike k (omega arith) inside)
      ]

  -- the row behind them
  pub truths_end : n ≡ count → place + count < 64 → end + count < length ps → side_of (get_or ps (end + count) Null) ≡ side_of (truth_slot truth) → ⊥
  truths_end all short more same =
      let at : 64 * (end / 64) + (place + n) ≡ end + count = omega (arith, is, all) in
      let in_word : place + n < 64 = omega (arith, all, short) in
      let row : get_or ps (end + count) Null ≡ truth_by (bit_at valid (place + n) == 1) (bit_at values (place + n) == 1) = ap (λ q. get_or ps q Null) (sym at) ∙ rows.each (place + n) in_word (omega (arith, at, more)) in
      run.ends in_word (ap side_of (sym row) ∙ same)

-- the first row is in the run
pub run_to : {ps : List Slot} {truth : Option Bool} {start end : ℕ} → start ≤ end → end ≤ length ps → start < length ps → get_or ps start Null ≡ truth_slot truth → AreTruths ps truth start end → (end < length ps → side_of (get_or ps end Null) ≡ side_of (truth_slot truth) → ⊥) → IsRunTo ps truth start end
run_to {ps} {truth} {start} {end} order within inside first alike ends = record {
  some = elim (cases_lt start end) as (λ _. start < end) [
    | inl before ↦ before
    | inr after ↦
        let at : end ≡ start = omega (arith, order, after) in
        absurd (ends (omega (arith, at, inside)) (ap (λ q. side_of (get_or ps q Null)) at ∙ ap side_of first))
  ];
  within = within;
  alike = alike;
  ends = ends;
}

-- what is left behind such a run
truths_are : (ps : List Slot) (truth : Option Bool) (start end : ℕ) → start ≤ end → end ≤ length ps → AreTruths ps truth start end → sliced ps start (end - start) ≡ replicate (end - start) (truth_slot truth)
truths_are ps truth start end order within alike =
    let n = end - start in
    let rest = length-drop start ps in
    let part = length-take n (drop start ps) in
    let long = length-replicate n (truth_slot truth) in
    ext_get_or Null (sliced ps start n) (replicate n (truth_slot truth)) (omega arith)
    (λ i h.
    let below : i < n = omega arith in
    get_or-take n (drop start ps) i Null below ∙ (get_or-drop start ps i Null ∙ (alike (start + i) (omega arith) (omega arith) ∙ sym (get_or-replicate n i (truth_slot truth) Null below))))

next_side : (ps : List Slot) (end s : ℕ) → (end < length ps → side_of (get_or ps end Null) ≡ s → ⊥) → slice_get (map side_of (drop end ps)) 0 ≡ Some s → ⊥
next_side ps end s ends first =
    let some = slice_get_within (map side_of (drop end ps)) 0 s first in
    let there : end < length ps = omega (arith, some, length-map (drop end ps) side_of, length-drop end ps) in
    let at : end + 0 ≡ end = omega arith in
    let read : get_or (map side_of (drop end ps)) 0 2 ≡ s = get_or_from_slice_get (map side_of (drop end ps)) 0 s 2 first in
    let row : get_or (map side_of (drop end ps)) 0 2 ≡ side_of (get_or ps end Null) = get_or-map side_of (drop end ps) 0 Null 2 (omega (arith, some, length-map (drop end ps) side_of)) ∙ ap side_of (get_or-drop end ps 0 Null ∙ ap (λ q. get_or ps q Null) at) in
    ends there (sym row ∙ read)

pub takes_run : (ps : List Slot) (truth : Option Bool) (start end : ℕ) → IsRunTo ps truth start end → TakesRun (start, drop start ps) (end, drop end ps) truth start (end - start)
takes_run ps truth start end run =
    let n = end - start in
    let next : start + n ≡ end = omega (arith, run.some) in
    record {
      first = refl;
      some = omega (arith, run.some);
      next = sym next;
      rows = sym (take-append-drop n (drop start ps)) ∙ (λ t. truths_are ps truth start end (omega (arith, run.some)) run.within run.alike t ++ (drop-drop n start ps ∙ ap (λ k. drop k ps) next) t);
      longest = next_side ps end (side_of (truth_slot truth)) run.ends;
    }

-- ---- ranges of sides

-- each row's side as its label
abbrev pub side_labels : List Slot → List (Option ℕ)
side_labels = map (λ p. Some (side_of p))

pub sides_labelled : (ps : List Slot) (i : ℕ) → labelled i (side_labels ps) ≡ sides_from i ps
sides_labelled [] i = refl
sides_labelled (p ∷ ps) i = ap (λ qs. (side_of p, i) ∷ qs) (sides_labelled ps (suc i))

other_label : (ps : List Slot) (s : ℕ) → (slice_get (map side_of ps) 0 ≡ Some s → ⊥) → slice_get (side_labels ps) 0 ≡ Some (Some s) → ⊥
other_label [] s ends first = cc
other_label (p ∷ ps) s ends first = ends (cc)

labels_of_run : (n : ℕ) (p : Slot) (ps : List Slot) → side_labels (replicate n p ++ ps) ≡ replicate n (Some (side_of p)) ++ side_labels ps
labels_of_run zero p ps = refl
labels_of_run (suc n) p ps = ap (λ ls. Some (side_of p) ∷ ls) (labels_of_run n p ps)

-- a run that is taken is one range
names_one : (rs : List (ℕ × ℕ × ℕ)) (row n : ℕ) (p : Slot) (left new : List Slot) (labels : List (Option ℕ)) → 0 < n → left ≡ replicate n p ++ new → (slice_get (map side_of new) 0 ≡ Some (side_of p) → ⊥) → NamesUpTo rs row (side_labels left) labels → NamesUpTo (rs ++ (side_of p, row, n) ∷ []) (row + n) (side_labels new) labels
names_one rs row zero p left new labels some rows ends so_far = absurd (omega (arith, some))
names_one rs row (suc n) p left new labels some rows ends so_far =
    let cut = ap side_labels rows ∙ labels_of_run (suc n) p new in
    names_run rs row (side_of p) n (side_labels new) labels (other_label new (side_of p) ends) (subst (λ ls. NamesUpTo rs row ls labels) cut so_far)

pub names_taken : (rs : List (ℕ × ℕ × ℕ)) (old new : ℕ × List Slot) (truth : Option Bool) (start count side : ℕ) (labels : List (Option ℕ)) → side ≡ side_of (truth_slot truth) → TakesRun old new truth start count → NamesUpTo rs old.0 (side_labels old.1) labels → NamesUpTo (rs ++ (side, start, count) ∷ []) new.0 (side_labels new.1) labels
names_taken rs old new truth start count side labels is taken so_far =
    let one = names_one rs old.0 count (truth_slot truth) old.1 new.1 labels taken.some taken.rows taken.longest so_far in
    let range : ◌≡◌ {A = ℕ × ℕ × ℕ} (side_of (truth_slot truth), old.0, count) (side, start, count) = λ t. (sym is t, sym taken.first t, count) in
    let next : old.0 + count ≡ new.0 = omega (arith, taken.first, taken.next) in
    subst (λ (q : ℕ × ℕ × ℕ). NamesUpTo (rs ++ q ∷ []) new.0 (side_labels new.1) labels) range (subst (λ row. NamesUpTo (rs ++ (side_of (truth_slot truth), old.0, count) ∷ []) row (side_labels new.1) labels) next one)

-- where no row is left all are named, by the shortest ranges
module _ (rs : List (ℕ × ℕ × ℕ)) (row : ℕ) (left ps : List Slot) (none : left ≡ []) (so_far : NamesUpTo rs row (side_labels left) (side_labels ps)) where
  all : NamesUpTo rs row [] (side_labels ps)
  all = subst (λ xs. NamesUpTo rs row (side_labels xs) (side_labels ps)) none so_far

  pub sides_named : named_sides rs ≡ sides_from 0 ps
  sides_named = all_named rs row (side_labels ps) all ∙ sides_labelled ps 0

  pub sides_shortest : IsShortestOfSides rs
  sides_shortest = all_shortest rs row (side_labels ps) all
