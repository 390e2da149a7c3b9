-- Lists of two arrays as a predicate chooses: a run of valid rows of one side, or of null ones, behind those so far.
use Rattle.arrow_choice.proofs.Common.{arith, Bool, List, None, Option, Some, [], ap, drop, false, get_or, if◌then◌else◌, length, length-drop, map, pos, refl, replicate, slice_index, ℕ, ◌++◌, ◌+◌, ◌-◌, ◌<◌, ◌∙◌, ◌∷◌, ◌≡◌, ◌≤◌, length-map, get_or_from_slice_get, Layout, AppendsRows, all_chosen, row_chosen, row_under, rows_from, truth_slot, TakesRun, FitsRows, pieces, FitsItself, Grown, NamesRows, appended, bound_to, named_rows, source_at, rows, holds_more, holds_none, named, HasAppended, at_most_last, offsets_rise, IsOffsets, last_of, with_rows, sliced, masked, valid_at, Boolean, Null, Slot, subst, sym}
use Rattle.arrow_choice.proofs.ChoiceLemmas.{IsTaken, read_run, run_taken}
use Rattle.arrow_choice.proofs.ChosenLemmas.{long_slots, truth_at}
use Rattle.arrow_choice.proofs.ChosenRuns.{nulls_appended, run_appended, run_more, valid_side}
use Rattle.arrow_choice.proofs.SideLemmas.{only_null, only_valid}

-- offsets of so many rows, whose items lie in an array that is bound
pub record IsSource (n : ℕ) (layouts : List Layout) (index : ℕ) (os : List ℕ) : Type 0 where
  pub bound : index < length layouts
  pub sound : IsOffsets os
  pub long : length os - 1 ≡ n
  pub within : last_of os ≤ length (rows (source_at layouts index))

-- the rows of a predicate up to those that are left, as they are chosen: where they end, and their items in a growable
pub record ListsUpTo (v : Option (List Bool)) (bits : List Bool) (ls rs : List (List Slot)) (layouts : List Layout) (g : Grown) (ends : List ℕ) (runs : ℕ × List Slot) : Type 0 where
  pub left : runs.1 ≡ drop runs.0 (masked v (map Boolean bits))
  pub within : runs.0 ≤ length (masked v (map Boolean bits))
  pub held : HasAppended layouts g g.rows
  pub so_far : AppendsRows (rows_from (row_chosen v bits ls rs) 0 runs.0) (0 ∷ []) [] ends g.rows

-- where there is none yet
pub lists_none : (v : Option (List Bool)) (bits : List Bool) (ls rs : List (List Slot)) (layouts : List Layout) (g : Grown) (ends : List ℕ) (runs : ℕ × List Slot) → g ≡ bound_to layouts → ends ≡ 0 ∷ [] → runs ≡ (0, masked v (map Boolean bits)) → ListsUpTo v bits ls rs layouts g ends runs
lists_none v bits ls rs layouts g ends runs bound none begins =
    let empty : g.rows ≡ [] = ap (λ h. h.rows) bound in
    subst (ListsUpTo v bits ls rs layouts g ends) (sym begins) (record {
      left = refl;
      within = omega arith;
      held = subst (HasAppended layouts g) (sym empty) (holds_none layouts g bound);
      so_far = record { ends = none; items = empty };
    })

module _ {v : Option (List Bool)} {bits : List Bool} {ls rs : List (List Slot)} {layouts : List Layout} {g : Grown} {ends : List ℕ} {old : ℕ × List Slot} (fits : FitsRows v (length bits)) (i : ListsUpTo v bits ls rs layouts g ends old) where
  abbrev f : ℕ → List Slot
  f = row_chosen v bits ls rs

  abbrev qs : List Slot
  qs = masked v (map Boolean bits)

  -- where none is left they are all
  pub lists_all : old.1 ≡ [] → AppendsRows (all_chosen v bits ls rs) (0 ∷ []) [] ends g.rows
  lists_all none =
      let at : old.0 ≡ length bits = omega (arith, i.within, ap length (sym i.left), ap length none, length-drop old.0 qs, long_slots Boolean v bits fits) in
      subst (λ n. AppendsRows (rows_from f 0 n) (0 ∷ []) [] ends g.rows) at i.so_far

  -- ---- the next run of the predicate

  module _ {new : ℕ × List Slot} {truth : Option Bool} {start count : ℕ} (run : TakesRun old new truth start count) where
    taken : IsTaken qs truth start count new
    taken = run_taken qs old new truth start count i.left run

    read : (k : ℕ) → k < count → (if valid_at v (start + k) then Boolean (get_or bits (start + k) false) else Null) ≡ truth_slot truth
    read k below =
        let among : start + k < length bits = omega (arith, below, taken.within, long_slots Boolean v bits fits) in
        let here = read_run qs start count (start + k) (truth_slot truth) (omega arith) (omega (arith, below)) taken.within taken.run in
        sym (truth_at v bits (start + k) fits among) ∙ get_or_from_slice_get qs (start + k) (truth_slot truth) Null here

    -- with its rows behind them
    with_run : (new_g : Grown) (new_ends : List ℕ) → HasAppended layouts new_g new_g.rows → AppendsRows (rows_from f start count) ends g.rows new_ends new_g.rows → ListsUpTo v bits ls rs layouts new_g new_ends new
    with_run new_g new_ends held rows =
        let before = subst (λ k. AppendsRows (rows_from f 0 k) (0 ∷ []) [] ends g.rows) (sym run.first) i.so_far in
        record {
          left = taken.left;
          within = omega (arith, taken.within, taken.next);
          held = held;
          so_far = subst (λ k. AppendsRows (rows_from f 0 k) (0 ∷ []) [] new_ends new_g.rows) (sym taken.next) (run_more f start count ends new_ends g.rows new_g.rows before rows);
        }

    -- of null rows
    pub null_more : truth ≡ None → (new_ends : List ℕ) → new_ends ≡ ends ++ replicate count (last_of ends) → ListsUpTo v bits ls rs layouts g new_ends new
    null_more is new_ends places =
        with_run g new_ends i.held (nulls_appended v bits ls rs start count (λ k below. only_null (valid_at v (start + k)) (get_or bits (start + k) false) (read k below ∙ ap truth_slot is)) ends new_ends g.rows places)

    -- of rows of one array
    module _ {index : ℕ} {os : List ℕ} (source : IsSource (length bits) layouts index os) where
      abbrev xs : List Slot
      xs = rows (source_at layouts index)

      abbrev first : ℕ
      first = slice_index os start

      abbrev len : ℕ
      len = slice_index os (start + count) - slice_index os start

      part : start + count < length os
      part =
          omega (arith, taken.within, long_slots Boolean v bits fits, source.long, source.sound.some, length-map os pos)

      -- which are there
      pub run_names : (start + count < length os) × (NamesRows g index first len × (g.failed ≡ false))
      run_names =
          let rises = offsets_rise os start (start + count) source.sound (omega arith) part in
          let inside : first + len ≤ length xs = omega (arith, source.within, rises, at_most_last os (start + count) source.sound part) in
          (part, (subst (λ h. NamesRows h index first len) (sym i.held.0) (source.bound, inside), ap (λ h. h.failed) i.held.0))

      pub side_more : (b : Bool) → truth ≡ Some b → pieces os xs ≡ (if b then ls else rs) → (new_g : Grown) (new_ends : List ℕ) → new_g ≡ appended g (named_rows g index first len) → FitsItself new_g → new_ends ≡ with_rows ends os start count → ListsUpTo v bits ls rs layouts new_g new_ends new
      side_more b is side new_g new_ends appends fit places =
          let more = holds_more layouts g g.rows i.held new_g _ _ (named layouts g g.rows i.held index first len) appends fit in
          let items : new_g.rows ≡ g.rows ++ sliced xs first len = ap (λ h. h.rows) more.0 in
          let run_rows = run_appended os xs source.sound source.within start count part ends new_ends g.rows new_g.rows places items in
          let valid = valid_side v bits ls rs start count b (λ k below. only_valid (valid_at v (start + k)) (get_or bits (start + k) false) b (read k below ∙ ap truth_slot is)) in
          with_run new_g new_ends (subst (HasAppended layouts new_g) (sym items) more) (subst (λ rows. AppendsRows rows ends g.rows new_ends new_g.rows) ((λ j. rows_from (row_under None (side j)) start count) ∙ valid) run_rows)
