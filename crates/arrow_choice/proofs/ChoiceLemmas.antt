-- Rows that a predicate chooses from two lists, a run of equal rows of the predicate at a time.
use Rattle.arrow_choice.proofs.Common.{arith, ◌≡◌, ◌+◌, ◌-◌, ◌≤◌, ◌<◌, ℕ, zero, suc, Bool, true, false, Option, Some, None, List, [], ◌∷◌, ◌++◌, length, replicate, take, drop, get_or, refl, ap, sym, subst, inl, inr, ◌∙◌, append_assoc, length-drop, slice_get, drop-append_seam, take-append_seam, append-nil, drop-drop, get_or-drop, get_or-replicate, get_or-take, length-append, length-replicate, slice_get-get_or, ArrowType, chosen, choice, Slot, Boolean, null_slot, sliced, length-sliced, layout_of, Layout, rows, type_of_layout, AnyArray, Grown, CannotHold, FitsWith, NamesRows, named_rows, HasAppended, named, nulls, refuses_whole, too_many_first, TakesRun, AreOneLength, CannotAppendChosen, CannotChoose, CannotHoldRun, ChosenDoNotFit, run_rows, truth_slot, if◌then◌else◌, FitsItself, appended, bound_to, holds_more, holds_none}

-- what a run of equal rows of the predicate chooses

none_left : (ps rs : List Slot) (t : ArrowType) → chosen ps [] rs t ≡ []
none_left [] rs t = refl
none_left (p ∷ ps) rs t = refl

none_right : (ps ls : List Slot) (t : ArrowType) → chosen ps ls [] t ≡ []
none_right (p ∷ ps) (l ∷ ls) t = refl
none_right ps ls t = refl

-- rows that are cut in two
chosen_cut : (n : ℕ) (ps ls rs : List Slot) (t : ArrowType) → chosen ps ls rs t ≡ chosen (take n ps) (take n ls) (take n rs) t ++ chosen (drop n ps) (drop n ls) (drop n rs) t
chosen_cut (suc n) (p ∷ ps) [] rs t = sym (none_left (drop n ps) (drop (suc n) rs) t)
chosen_cut (suc n) (p ∷ ps) (l ∷ ls) [] t = sym (none_right (drop n ps) (drop n ls) t)
chosen_cut (suc n) (p ∷ ps) (l ∷ ls) (r ∷ rs) t = ap (λ ys. choice t p l r ∷ ys) (chosen_cut n ps ls rs t)
chosen_cut n ps ls rs t = refl

none_long : (xs : List Slot) → length xs ≡ 0 → [] ≡ xs
none_long [] none = refl
none_long (x ∷ xs) none = absurd (omega (arith, none))

-- the rows of either list, or null slots
abbrev pub side_slots : Option Bool → List Slot → List Slot → ArrowType → ℕ → List Slot
side_slots None ls rs t n = replicate n (null_slot t)
side_slots (Some b) ls rs t n = if b then ls else rs

all_of_side : (side : Option Bool) (ls rs : List Slot) (t : ArrowType) (n : ℕ) → length ls ≡ n → length rs ≡ n → chosen (replicate n (truth_slot side)) ls rs t ≡ side_slots side ls rs t n
all_of_side None ls rs t zero left right = refl
all_of_side (Some true) [] rs t zero left right = refl
all_of_side (Some false) ls [] t zero left right = refl
all_of_side side (l ∷ ls) (r ∷ rs) t (suc n) left right =
    ap (λ ys. choice t (truth_slot side) l r ∷ ys) (all_of_side side ls rs t n (omega (arith, left)) (omega (arith, right)))
all_of_side side ls rs t n left right = absurd (omega (arith, left, right))

-- a run of them
abbrev pub side_rows : Option Bool → List Slot → List Slot → ArrowType → ℕ → ℕ → List Slot
side_rows side ls rs t row count = side_slots side (sliced ls row count) (sliced rs row count) t count

-- the rows that are chosen so far, with those that the rest of the predicate chooses
abbrev pub ChoosesUpTo : List Slot → List Slot → List Slot → List Slot → ArrowType → ℕ → Type 0
ChoosesUpTo kept ps ls rs t row = kept ++ chosen (drop row ps) (drop row ls) (drop row rs) t ≡ chosen ps ls rs t

-- where none is left these are all
pub chooses_all : (kept ps ls rs : List Slot) (t : ArrowType) (row : ℕ) → length ps ≤ row → ChoosesUpTo kept ps ls rs t row → kept ≡ chosen ps ls rs t
chooses_all kept ps ls rs t row end so_far =
    let none : [] ≡ drop row ps = none_long (drop row ps) (omega (arith, end, length-drop row ps)) in
    sym (append-nil kept) ∙ (ap (λ qs. kept ++ chosen qs (drop row ls) (drop row rs) t) none ∙ so_far)

module _ (ps ls rs : List Slot) (t : ArrowType) (row count : ℕ) (lengths : (length ls ≡ length ps) × (length rs ≡ length ps)) (within : row + count ≤ length ps) where
  long : (xs : List Slot) → length xs ≡ length ps → length (sliced xs row count) ≡ count
  long xs same = length-sliced xs row count (omega (arith, within, same))

  run_chooses : (side : Option Bool) → sliced ps row count ≡ replicate count (truth_slot side) → chosen (sliced ps row count) (sliced ls row count) (sliced rs row count) t ≡ side_rows side ls rs t row count
  run_chooses side run =
      ap (λ qs. chosen qs (sliced ls row count) (sliced rs row count) t) run ∙ all_of_side side _ _ t count (long ls lengths.0) (long rs lengths.1)

  -- with it the rows are chosen up to its end
  pub chooses_run : (side : Option Bool) (kept : List Slot) → sliced ps row count ≡ replicate count (truth_slot side) → ChoosesUpTo kept ps ls rs t row → ChoosesUpTo (kept ++ side_rows side ls rs t row count) ps ls rs t (row + count)
  chooses_run side kept run so_far =
      let rest = chosen (drop (row + count) ps) (drop (row + count) ls) (drop (row + count) rs) t in
      let here : chosen (drop row ps) (drop row ls) (drop row rs) t ≡ side_rows side ls rs t row count ++ rest =
      chosen_cut count (drop row ps) (drop row ls) (drop row rs) t ∙ (λ i. run_chooses side run i ++ chosen (drop-drop count row ps i) (drop-drop count row ls i) (drop-drop count row rs i) t) in
      append_assoc kept (side_rows side ls rs t row count) rest ∙ (ap (λ ys. kept ++ ys) (sym here) ∙ so_far)

-- a run that is taken of the rows of a predicate, of which those that are left are all from a row on
pub record IsTaken (ps : List Slot) (truth : Option Bool) (row count : ℕ) (new : ℕ × List Slot) : Type 0 where
  pub within : row + count ≤ length ps
  pub run : sliced ps row count ≡ replicate count (truth_slot truth)
  pub next : new.0 ≡ row + count
  pub left : new.1 ≡ drop new.0 ps

pub run_taken : (ps : List Slot) (old new : ℕ × List Slot) (truth : Option Bool) (row count : ℕ) → old.1 ≡ drop old.0 ps → TakesRun old new truth row count → IsTaken ps truth row count new
run_taken ps old new truth row count is taken =
    let xs : List Slot = replicate count (truth_slot truth) in
    let long : length xs ≡ count = length-replicate count (truth_slot truth) in
    let cut : drop row ps ≡ xs ++ new.1 = ap (λ k. drop k ps) taken.first ∙ (sym is ∙ taken.rows) in
    record {
      within = omega (arith, ap length cut, length-drop row ps, length-append xs new.1, long, taken.some);
      run = ap (take count) cut ∙ (ap (λ k. take k (xs ++ new.1)) (sym long) ∙ take-append_seam xs new.1);
      next = taken.next;
      left = sym (ap (λ k. drop k ps) taken.next ∙ (sym (drop-drop count row ps) ∙ (ap (drop count) cut ∙ (ap (λ k. drop k (xs ++ new.1)) (sym long) ∙ drop-append_seam xs new.1))));
    }

-- a row of a run
pub read_run : (xs : List Slot) (row n j : ℕ) (x : Slot) → row ≤ j → j < row + n → row + n ≤ length xs → sliced xs row n ≡ replicate n x → slice_get xs j ≡ Some x
read_run xs row n j x low high within run =
    let at : row + (j - row) ≡ j = omega (arith, low) in
    let inside : j - row < n = omega (arith, low, high) in
    let part = get_or-take n (drop row xs) (j - row) x inside ∙ get_or-drop row xs (j - row) x in
    let here : get_or xs j x ≡ x = ap (λ k. get_or xs k x) (sym at) ∙ (sym part ∙ (ap (λ ys. get_or ys (j - row) x) run ∙ get_or-replicate n (j - row) x x inside)) in
    slice_get-get_or xs j x (omega (arith, high, within)) ∙ ap Some here

-- the rows of a predicate up to those that are left, as they are chosen, in a growable over both arrays
pub record ChosenUpTo (ps : List Slot) (l r : Layout) (g : Grown) (runs : ℕ × List Slot) : Type 0 where
  pub left : runs.1 ≡ drop runs.0 ps
  pub held : HasAppended (l ∷ r ∷ []) g g.rows
  pub so_far : ChoosesUpTo g.rows ps (rows l) (rows r) (type_of_layout l) runs.0

-- where there is none yet
pub chosen_none : (ps : List Slot) (l r : Layout) (g : Grown) (runs : ℕ × List Slot) → g ≡ bound_to (l ∷ r ∷ []) → runs ≡ (0, ps) → ChosenUpTo ps l r g runs
chosen_none ps l r g runs bound begins =
    let empty : [] ≡ g.rows = sym (ap (λ h. h.rows) bound) in
    subst (ChosenUpTo ps l r g) (sym begins) (record {
      left = refl;
      held = subst (HasAppended (l ∷ r ∷ []) g) empty (holds_none (l ∷ r ∷ []) g bound);
      so_far = ap (λ kept. kept ++ chosen ps (rows l) (rows r) (type_of_layout l)) (sym empty);
    })

module _ {ps : List Slot} {l r : Layout} {g : Grown} {old : ℕ × List Slot} (i : ChosenUpTo ps l r g old) where
  -- where none is left they are all
  pub chosen_all : old.1 ≡ [] → HasAppended (l ∷ r ∷ []) g (chosen ps (rows l) (rows r) (type_of_layout l))
  chosen_all none =
      let end : length ps ≤ old.0 = omega (arith, ap length (sym i.left), ap length none, length-drop old.0 ps) in
      subst (HasAppended (l ∷ r ∷ []) g) (chooses_all g.rows ps (rows l) (rows r) (type_of_layout l) old.0 end i.so_far) i.held

  -- the next run of the predicate
  module _ (lengths : AreOneLength ps (rows l) (rows r)) {new : ℕ × List Slot} {truth : Option Bool} {start count : ℕ} (run : TakesRun old new truth start count) where
    taken : IsTaken ps truth start count new
    taken = run_taken ps old new truth start count i.left run

    run_named : (side : Option Bool) → run_rows g side start count ≡ side_rows side (rows l) (rows r) (type_of_layout l) start count
    run_named None = nulls (l ∷ r ∷ []) g g.rows i.held count
    run_named (Some true) = named (l ∷ r ∷ []) g g.rows i.held 0 start count
    run_named (Some false) = named (l ∷ r ∷ []) g g.rows i.held 1 start count

    -- the rows that it names are there
    pub run_names : NamesRows g 0 start count × (NamesRows g 1 start count × (g.failed ≡ false))
    run_names =
        let there = λ (index : ℕ) (names : NamesRows (appended (bound_to (l ∷ r ∷ [])) g.rows) index start count). subst (λ h. NamesRows h index start count) (sym i.held.0) names in
        (there 0 (omega arith, omega (arith, taken.within, lengths.0)), (there 1 (omega arith, omega (arith, taken.within, lengths.1)), ap (λ h. h.failed) i.held.0))

    abbrev kept : List Slot
    kept = g.rows ++ side_rows truth (rows l) (rows r) (type_of_layout l) start count

    kept_so_far : ChoosesUpTo kept ps (rows l) (rows r) (type_of_layout l) (start + count)
    kept_so_far =
        chooses_run ps (rows l) (rows r) (type_of_layout l) start count lengths taken.within truth g.rows taken.run (subst (ChoosesUpTo g.rows ps (rows l) (rows r) (type_of_layout l)) (sym run.first) i.so_far)

    -- with them the rows are chosen up to its end
    pub chosen_more : (new_g : Grown) → new_g ≡ appended g (run_rows g truth start count) → FitsItself new_g → ChosenUpTo ps l r new_g new
    chosen_more new_g is fit =
        let more = holds_more (l ∷ r ∷ []) g g.rows i.held new_g _ _ (run_named truth) is fit in
        let all : kept ≡ new_g.rows = sym (ap (λ h. h.rows) more.0) in
        record {
          left = taken.left;
          held = subst (HasAppended (l ∷ r ∷ []) new_g) all more;
          so_far = subst (λ xs. ChoosesUpTo xs ps (rows l) (rows r) (type_of_layout l) new.0) all (subst (ChoosesUpTo kept ps (rows l) (rows r) (type_of_layout l)) (sym taken.next) kept_so_far);
        }

    -- and where it is refused so is the whole
    over_whole : (FitsWith g (run_rows g truth start count) → ⊥) → ChosenDoNotFit ps l r
    over_whole over =
        refuses_whole (l ∷ r ∷ []) g g.rows i.held (run_rows g truth start count) (side_rows truth (rows l) (rows r) (type_of_layout l) start count) _ _ (run_named truth) over (sym kept_so_far)

  pub run_refused : (lengths : AreOneLength ps (rows l) (rows r)) {new : ℕ × List Slot} (truth : Option Bool) {start count : ℕ} → TakesRun old new truth start count → CannotHoldRun g truth start count → CannotAppendChosen ps l r
  run_refused lengths None run refused = inl (over_whole lengths run refused)
  run_refused lengths (Some true) {start} {count} run refused =
      inl (over_whole lengths run (too_many_first (l ∷ r ∷ []) g g.rows i.held start count refused))
  run_refused lengths (Some false) {start} {count} run refused =
      let is = taken lengths run in
      elim (subst (λ h. CannotHold h 1 start count) i.held.0 refused) [
        | inl over ↦ inl (over_whole lengths run (subst (λ h. FitsWith h (named_rows h 1 start count) → ⊥) (sym i.held.0) over))
        | inr crowded ↦ inr (crowded.1.0, read_run ps start count crowded.1.0 (Boolean false) crowded.1.1 crowded.1.2 is.within is.run, crowded.1.3)
      ]

-- rows that can't be appended can't be chosen
pub cannot_choose : (ps : List Slot) (l r : Layout) → CannotAppendChosen ps l r → CannotChoose ps l r
cannot_choose ps l r (inl over) = inl over
cannot_choose ps l r (inr crowded) = inr (inl crowded)

-- rows that do not fit can't either, whatever the arrays are
pub unfit : (ps : List Slot) (l r x y : AnyArray) → l ≡ x → r ≡ y → ChosenDoNotFit ps (layout_of x) (layout_of y) → CannotChoose ps (layout_of l) (layout_of r)
unfit ps l r x y left right over =
    subst (λ a. CannotChoose ps (layout_of l) (layout_of a)) (sym right) (subst (λ a. CannotChoose ps (layout_of a) (layout_of y)) (sym left) (inl over))
