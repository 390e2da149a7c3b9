-- A child that grows by rows that are named, one call behind the other.
use Rattle.arrow_growable.proofs.Common.{arith, ◌≡◌, ◌+◌, ◌*◌, ◌-◌, ◌<◌, ◌≤◌, inl, inr, ℕ, zero, suc, Bool, true, false, List, [], ◌∷◌, ◌++◌, Option, Some, None, length, replicate, refl, ap, sym, subst, ◌∙◌, OnOk, IsOkUnless, ◌↔◌, append-nil, Error, OutOfMemory, Failed, Fits, ArrowType, Slot, null_slot, Fits-beginning, sliced, Layout, Grown, AreThere, CannotHold, FitsItself, FitsWith, IsFailedOrMemory, NamesRows, RefusedBy, appended, named_rows, null_rows_of, rows_among, BindsRows, CannotGrow, CrowdsIn, GrownBy, IsWell, LiesIn, NoneBeneath, Rises, SameBound, bound_rows, source_rows, spread, Result, Ok, Err, IsErrAnd, append_assoc, length-append}
use Rattle.arrow_growable.proofs.SpreadLemmas.{spread_run}
use Rattle.std.proofs.lemmas.Bool.{cases_lt}

-- rows behind rows

pub appended_none : (g : Grown) → g.failed ≡ false → appended g [] ≡ g
appended_none g well =
    let count : g.count + length {A = Slot} [] ≡ g.count = omega arith in
    λ i. record { arrow_type = g.arrow_type; sources = g.sources; rows = append-nil g.rows i; count = count i; failed = sym well i }

pub appended_twice : (g : Grown) (xs ys : List Slot) → appended (appended g xs) ys ≡ appended g (xs ++ ys)
appended_twice g xs ys =
    let count : g.count + length xs + length ys ≡ g.count + length (xs ++ ys) = omega (arith, length-append xs ys) in
    λ i. record { arrow_type = g.arrow_type; sources = g.sources; rows = append_assoc g.rows xs ys i; count = count i; failed = false }

-- the same type and arrays

pub same_twice : (a b c : Grown) → SameBound a b → SameBound b c → SameBound a c
same_twice a b c first second =
    record { same_type = second.same_type ∙ first.same_type; same_sources = second.same_sources ∙ first.same_sources }

rows_same : (old new : Grown) (i : ℕ) → SameBound old new → bound_rows new i ≡ bound_rows old i
rows_same old new i same = ap (λ s. source_rows s i) same.same_sources

-- of one that had not failed memory alone is refused, where nothing is appended
pub only_memory : {T U : Type 0} (r : Result T Error) (e : Error) (failed : Bool) → IsErrAnd r (λ x. x ≡ e) → IsFailedOrMemory e → ◌≡◌ {A = Result U Error} (Err e) (Err Failed) ↔ (failed ≡ true) → failed ≡ false → IsOkUnless r OutOfMemory
only_memory (Ok x) e failed is refusal told well = absurd is
only_memory (Err x) OutOfMemory failed is refusal told well = is
only_memory (Err x) Failed failed is refusal told well =
    let has : failed ≡ true = told.0 refl in
    absurd cc
only_memory (Err x) _ failed is refusal told well = absurd refusal

-- rows of the i-th array that is bound
module _ (g : Grown) (i n : ℕ) (binds : BindsRows g i n) where
  pub rows_there : n ≤ length (bound_rows g i)
  rows_there = subst (λ s. n ≤ length (source_rows s i)) (sym binds.sources) binds.within

  pub names_there : (first end : ℕ) → first ≤ end → end ≤ n → NamesRows g i first (end - first)
  names_there first end rise high =
      subst (λ s. AreThere s i first (end - first)) (sym binds.sources) (binds.bound, omega (arith, rise, high, binds.within))

  pub named : (first len : ℕ) → named_rows g i first len ≡ sliced (bound_rows g i) first len
  named first len =
      ap (λ s. rows_among s i first len) binds.sources ∙ ap (λ s. sliced (source_rows s i) first len) (sym binds.sources)

  -- those from one place to another
  module _ (first end begin finish : ℕ) (begins : first ≡ begin) (ends : end ≡ finish) (rise : first ≤ end) where
    part_named : named_rows g i first (end - first) ≡ sliced (bound_rows g i) begin (finish - begin)
    part_named =
        named first (end - first) ∙ (λ t. sliced (bound_rows g i) (begins t) (ends t - begins t))

    pub part_grown : {T E : Type 0} (r : Result T E) (new : Grown) → OnOk r (new ≡ appended g (named_rows g i first (end - first))) → OnOk r (FitsItself new) → OnOk r (GrownBy g new (sliced (bound_rows g i) begin (finish - begin)))
    part_grown (Ok x) new is fits = record { grown = is ∙ ap (appended g) part_named; fits = fits }
    part_grown (Err e) new is fits = tt

    pub part_refused : CannotHold g i first (end - first) → CannotGrow g i (λ j. (begin ≤ j) × (j < finish)) (sliced (bound_rows g i) begin (finish - begin))
    part_refused refused =
        record {
          why =
              elim (subst (λ s. RefusedBy s (FitsWith g (named_rows g i first (end - first))) i first (end - first)) binds.sources refused) [
                | inl over ↦ inl (λ fits. over (subst (FitsWith g) (sym part_named) fits))
                | inr crowded ↦ (let row = crowded.1 in inr (subst (λ s. CrowdsIn s i (λ j. (begin ≤ j) × (j < finish))) (sym binds.sources) (crowded.0, (row.0, (omega (arith, begins, row.1), omega (arith, begins, ends, rise, row.2)), row.3))))
              ];
        }

-- rows of a child that lie in rows of the array

lies_set : (n : ℕ) (bits : List Bool) (place : ℕ → ℕ) (i j : ℕ) → place i ≤ j → j < place (i + n) → LiesIn (replicate n true ++ bits) place i j
lies_set zero bits place i j low high =
    let same : i + 0 ≡ i = omega arith in
    absurd (omega (arith, low, high, ap place same))
lies_set (suc n) bits place i j low high =
    let next : i + 1 + n ≡ i + suc n = omega arith in
    elim (cases_lt j (place (i + 1))) [
      | inl less ↦ inl (refl, low, less)
      | inr more ↦ inr (lies_set n bits place (i + 1) j more (omega (arith, high, ap place next)))
    ]

lies_behind : (n : ℕ) (b : Bool) (bits : List Bool) (place : ℕ → ℕ) (i j : ℕ) → LiesIn bits place (i + n) j → LiesIn (replicate n b ++ bits) place i j
lies_behind zero b bits place i j lies =
    let same : i + 0 ≡ i = omega arith in
    subst (λ k. LiesIn bits place k j) same lies
lies_behind (suc n) b bits place i j lies =
    let next : i + suc n ≡ i + 1 + n = omega arith in
    inr (lies_behind n b bits place (i + 1) j (subst (λ k. LiesIn bits place k j) next lies))

-- of rows that are all valid
pub lies_in_all : (n : ℕ) (place : ℕ → ℕ) (i j : ℕ) → (place i ≤ j) × (j < place (i + n)) → LiesIn (replicate n true) place i j
lies_in_all n place i j within =
    subst (λ bits. LiesIn bits place i j) (append-nil (replicate n true)) (lies_set n [] place i j within.0 within.1)

-- of rows of which those that are null have nothing
pub lies_bare : (bits : List Bool) (place : ℕ → ℕ) (i j : ℕ) → NoneBeneath bits place i → (place i ≤ j) × (j < place (i + length bits)) → LiesIn bits place i j
lies_bare [] place i j bare within =
    let same : i + 0 ≡ i = omega arith in
    absurd (omega (arith, within.0, within.1, ap place same))
lies_bare (true ∷ bits) place i j bare within =
    let next : i + 1 + length bits ≡ i + suc (length bits) = omega arith in
    elim (cases_lt j (place (i + 1))) [
      | inl less ↦ inl (refl, within.0, less)
      | inr more ↦ inr (lies_bare bits place (i + 1) j bare.1 (more, omega (arith, within.1, ap place next)))
    ]
lies_bare (false ∷ bits) place i j bare within =
    let next : i + 1 + length bits ≡ i + suc (length bits) = omega arith in
    inr (lies_bare bits place (i + 1) j bare.1 (omega (arith, within.0, bare.0 refl), omega (arith, within.1, ap place next)))

-- and of a run of them
module _ (nulls count : ℕ) (old bits : List Bool) (place : ℕ → ℕ) (i j : ℕ) (is : old ≡ replicate nulls false ++ (replicate count true ++ bits)) where
  lies_in_run : (place (i + nulls) ≤ j) × (j < place (i + nulls + count)) → LiesIn old place i j
  lies_in_run within =
      subst (λ bs. LiesIn bs place i j) (sym is) (lies_behind nulls false (replicate count true ++ bits) place i j (lies_set count bits place (i + nulls) j within.0 within.1))

  lies_in_rest : LiesIn bits place (i + (nulls + count)) j → LiesIn old place i j
  lies_in_rest lies =
      let at : i + (nulls + count) ≡ i + nulls + count = omega arith in
      subst (λ bs. LiesIn bs place i j) (sym is) (lies_behind nulls false (replicate count true ++ bits) place i j (lies_behind count true bits place (i + nulls) j (subst (λ k. LiesIn bits place k j) at lies)))

-- more rows are named: some of them is crowded still
crowds_more : (s : Option (List Layout)) (i : ℕ) (Names Others : ℕ → Type 0) → ((j : ℕ) → Names j → Others j) → CrowdsIn s i Names → CrowdsIn s i Others
crowds_more None i Names Others more crowds = crowds
crowds_more (Some layouts) i Names Others more crowds =
    (crowds.0, (crowds.1.0, more crowds.1.0 crowds.1.1, crowds.1.2))

pub names_more : (g : Grown) (i : ℕ) (Names Others : ℕ → Type 0) (xs : List Slot) → ((j : ℕ) → Names j → Others j) → CannotGrow g i Names xs → CannotGrow g i Others xs
names_more g i Names Others xs more refused =
    record { why = elim refused.why [ inl over ↦ inl over | inr crowds ↦ inr (crowds_more g.sources i Names Others more crowds) ] }

-- rows so far, of those that some bits name: what the bits that are left name comes behind
pub record GrowsTo (initial now : Grown) (i w : ℕ) (place : ℕ → ℕ) (bits left : List Bool) (start row : ℕ) : Type 0 where
  pub same : SameBound initial now
  pub well : IsWell now
  pub rest : appended now (spread w (null_slot initial.arrow_type) left place (bound_rows initial i) row) ≡ appended initial (spread w (null_slot initial.arrow_type) bits place (bound_rows initial i) start)
  pub names : (j : ℕ) → LiesIn left place row j → LiesIn bits place start j

-- a run of null rows, of k null slots, and one of valid rows
module _ (initial now : Grown) (i w n : ℕ) (place : ℕ → ℕ) (bits left next : List Bool) (start row nulls count k : ℕ) (rises : Rises place n (length (bound_rows initial i))) (grows : GrowsTo initial now i w place bits left start row) (is : left ≡ replicate nulls false ++ (replicate count true ++ next)) (inside : row + length left ≤ n) (slots : k ≡ nulls * w) where
  abbrev none : Slot
  none = null_slot initial.arrow_type

  abbrev part : List Slot
  part = sliced (bound_rows initial i) (place (row + nulls)) (place (row + nulls + count) - place (row + nulls))

  abbrev behind : List Slot
  behind = spread w none next place (bound_rows initial i) (row + (nulls + count))

  taken : spread w none left place (bound_rows initial i) row ≡ replicate k none ++ (part ++ behind)
  taken =
      spread_run w none place (bound_rows initial i) n rises nulls count left next row is inside ∙ ap (λ m. replicate m none ++ (part ++ behind)) (sym slots)

  nulls_are : null_rows_of now k ≡ replicate k none
  nulls_are = ap (λ t. replicate k (null_slot t)) grows.same.same_type

  -- all rows, by those so far
  whole : initial.rows ++ spread w none bits place (bound_rows initial i) start ≡ (now.rows ++ replicate k none) ++ (part ++ behind)
  whole =
      ap (λ g. g.rows) (sym grows.rest) ∙ (ap (λ xs. now.rows ++ xs) taken ∙ sym (append_assoc now.rows (replicate k none) (part ++ behind)))

  -- with the null rows
  module _ (mid : Grown) (kept : SameBound now mid) (grown : GrownBy now mid (null_rows_of now k)) where
    mid_same : SameBound initial mid
    mid_same = same_twice initial now mid grows.same kept

    mid_rows : mid.rows ≡ now.rows ++ replicate k none
    mid_rows = ap (λ g. g.rows) grown.grown ∙ ap (λ xs. now.rows ++ xs) nulls_are

    -- and the valid ones
    pub grows_more : (new : Grown) → SameBound mid new → GrownBy mid new (sliced (bound_rows mid i) (place (row + nulls)) (place (row + nulls + count) - place (row + nulls))) → GrowsTo initial new i w place bits next start (row + (nulls + count))
    grows_more new again run =
        let here : new ≡ appended (appended now (replicate k none)) part = run.grown ∙ (λ t. appended (grown.grown t) (sliced (rows_same initial mid i mid_same t) (place (row + nulls)) (place (row + nulls + count) - place (row + nulls)))) ∙ ap (λ xs. appended (appended now xs) part) nulls_are in
        record {
          same = same_twice initial mid new mid_same again;
          well = record { well = ap (λ g. g.failed) run.grown; fits = run.fits };
          rest = ap (λ g. appended g behind) here ∙ (appended_twice (appended now (replicate k none)) part behind ∙ (appended_twice now (replicate k none) (part ++ behind) ∙ (ap (appended now) (sym taken) ∙ grows.rest)));
          names = λ j lies. grows.names j (lies_in_rest nulls count left next place row j is lies);
        }

    -- or why these are refused
    pub run_refused : CannotGrow mid i (λ j. (place (row + nulls) ≤ j) × (j < place (row + nulls + count))) (sliced (bound_rows mid i) (place (row + nulls)) (place (row + nulls + count) - place (row + nulls))) → CannotGrow initial i (LiesIn bits place start) (spread w none bits place (bound_rows initial i) start)
    run_refused refused =
        let fits_mid : Fits initial.arrow_type (((now.rows ++ replicate k none) ++ part) ++ behind) → FitsWith mid (sliced (bound_rows mid i) (place (row + nulls)) (place (row + nulls + count) - place (row + nulls))) = λ fits. subst {A = ArrowType × List Slot} (λ q. Fits q.0 q.1) (λ t. (sym mid_same.same_type t, sym mid_rows t ++ sliced (sym (rows_same initial mid i mid_same) t) (place (row + nulls)) (place (row + nulls + count) - place (row + nulls)))) (Fits-beginning initial.arrow_type ((now.rows ++ replicate k none) ++ part) behind fits) in
        record {
          why =
              elim refused.why [
                | inl over ↦ inl (λ fits. over (fits_mid (subst (Fits initial.arrow_type) (whole ∙ sym (append_assoc (now.rows ++ replicate k none) part behind)) fits)))
                | inr crowds ↦ inr (crowds_more initial.sources i _ _ (λ j run. grows.names j (lies_in_run nulls count left next place row j is run)) (subst (λ s. CrowdsIn s i (λ j. (place (row + nulls) ≤ j) × (j < place (row + nulls + count)))) mid_same.same_sources crowds))
              ];
        }

  -- or why the null rows are
  pub nulls_refused : (FitsWith now (null_rows_of now k) → ⊥) → CannotGrow initial i (LiesIn bits place start) (spread w none bits place (bound_rows initial i) start)
  nulls_refused over =
      record {
        why = inl (λ fits. over (subst {A = ArrowType × List Slot} (λ q. Fits q.0 q.1) (λ t. (sym grows.same.same_type t, now.rows ++ sym nulls_are t)) (Fits-beginning initial.arrow_type (now.rows ++ replicate k none) (part ++ behind) (subst (Fits initial.arrow_type) whole fits))));
      }
