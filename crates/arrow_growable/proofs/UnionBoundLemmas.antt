-- Unions under construction and the arrays that are bound to them: rows that are named, a run at a time, and why they are refused.
use Rattle.arrow_growable.proofs.Common.{arith, ◌≡◌, ◌+◌, ◌-◌, ◌<◌, ◌≤◌, ◌^◌, ◌⊎◌, inl, inr, ℕ, ℤ, Option, Some, None, List, [], ◌++◌, length, map, replicate, take, get_or, refl, ap, sym, subst, ◌∙◌, take-map, append-nil, get_or-map, length-map, length-replicate, UnionMode, Dense, ArrowType, Fits, Slot, Variant, id_at, null_slot, Fits-beginning, sliced, length-sliced, sliced-cut, CrowdedRow, child_at, Layout, field_ids, rows, type_of_layout, field_types, mode_in, SpansRows, UnionParts, child_rows_of, mode_by, rows_of_field, union_layout, union_rows, union_has_field, Grown, AreCrowded, CannotHold, FitsWith, RefusedBy, named_rows, null_rows_of, rows_among, source_at, AreBoundAs, BindsRows, bound_rows, source_rows, BindsFields, AreFew, GrowsVariants, HoldsVariants, IsBoundUnion, IsUnionOver, NullsRefused, RunRefused, absent, nth_grown, variant_rows, IsRun, IsSparse, field_part, run_rows, variant_type, append_assoc, map_constant}
use Rattle.arrow_growable.proofs.UnionGrowLemmas.{as_many, chosen_refused, others_refused, places_refused, type_there, length_held, part_of_child, same_or_not}
use Rattle.arrow_growable.proofs.UnionRunLemmas.{child_rows_are, none_there, run_crowded}
use Rattle.arrow_growable.proofs.UnionTypeLemmas.{FitsPlaces, fits_variants, null_variant}

-- children that are bound as before

as_long : (gs news : List Grown) → AreBoundAs gs news → length news ≡ length gs
as_long gs news kept =
    omega (arith, length-map news (λ (g : Grown). g.sources), length-map gs (λ (g : Grown). g.sources), ap length kept.same_sources)

sources_at : (gs news : List Grown) (f : ℕ) → AreBoundAs gs news → f < length gs → (nth_grown news f).sources ≡ (nth_grown gs f).sources
sources_at gs news f kept within =
    sym (get_or-map (λ (g : Grown). g.sources) news f absent None (omega (arith, within, as_long gs news kept))) ∙ (ap (λ ss. get_or ss f None) kept.same_sources ∙ get_or-map (λ (g : Grown). g.sources) gs f absent None within)

pub over_next : (t : ArrowType) (offsets new_offsets : Option (List ℤ)) (gs news : List Grown) → IsUnionOver t offsets gs → AreBoundAs gs news → mode_by (child_rows_of new_offsets) ≡ mode_by (child_rows_of offsets) → IsUnionOver t new_offsets news
over_next t offsets new_offsets gs news over kept mode =
    record { kind = over.kind; types = kept.same_types ∙ over.types; mode = over.mode ∙ sym mode }

pub bound_next : (layouts : List Layout) (t : ArrowType) (offsets new_offsets : Option (List ℤ)) (gs news : List Grown) → IsBoundUnion layouts t offsets gs → AreBoundAs gs news → mode_by (child_rows_of new_offsets) ≡ mode_by (child_rows_of offsets) → IsBoundUnion layouts t new_offsets news
bound_next layouts t offsets new_offsets gs news bound kept mode =
    record {
      over = over_next t offsets new_offsets gs news bound.over kept mode;
      one_type = bound.one_type;
      sources =
          λ f within.
          let among : f < length gs = omega (arith, within, as_long gs news kept) in
          sources_at gs news f kept among ∙ bound.sources f among;
    }

-- rows behind none, and behind others

pub grows_none : (t : ArrowType) (types : List ℤ) (offsets : Option (List ℤ)) (gs : List Grown) → HoldsVariants t types offsets gs → GrowsVariants t types offsets gs types offsets gs []
grows_none t types offsets gs holds =
    record { holds = holds; rows = sym (append-nil (variant_rows t types offsets gs)) }

pub grows_twice : {t : ArrowType} {types mid_types new_types : List ℤ} {offsets mid_offsets new_offsets : Option (List ℤ)} {gs mids news : List Grown} {xs ys : List Slot} → GrowsVariants t types offsets gs mid_types mid_offsets mids xs → GrowsVariants t mid_types mid_offsets mids new_types new_offsets news ys → GrowsVariants t types offsets gs new_types new_offsets news (xs ++ ys)
grows_twice {t} {types} {mid_types} {new_types} {offsets} {mid_offsets} {new_offsets} {gs} {mids} {news} {xs} {ys} first second =
    record {
      holds = second.holds;
      rows = second.rows ∙ (ap (λ zs. zs ++ ys) first.rows ∙ append_assoc (variant_rows t types offsets gs) xs ys);
    }

-- what they hold fits

places_few : (offsets : Option (List ℤ)) (mode : UnionMode) (n : ℕ) → mode ≡ mode_by (child_rows_of offsets) → AreFew offsets n → FitsPlaces mode n
places_few None Dense n is few = cc
places_few (Some os) Dense n is few = few
places_few offsets mode n is few = tt

pub fits_held : (t : ArrowType) (types : List ℤ) (offsets : Option (List ℤ)) (gs : List Grown) → IsUnionOver t offsets gs → HoldsVariants t types offsets gs → length types < 2 ^ 64 → Fits t (variant_rows t types offsets gs)
fits_held t types offsets gs over holds counted =
    let held = variant_rows t types offsets gs in
    fits_variants t held over.kind.1 (omega (arith, counted, length_held t types offsets gs holds)) (λ f within.
    let among : f < length gs = omega (arith, within, as_many t gs over.types) in
    let part = part_of_child t types offsets gs holds f among in (
      places_few offsets (mode_in t) (length (field_part t f held)) over.mode (subst (λ xs. AreFew offsets (length xs)) part (holds.few f among)),
      subst {A = ArrowType × List Slot} (λ q. Fits q.0 q.1) (λ j. (type_there t gs f over.types among j, part j)) (holds.well f absent among).fits,
    ))

-- a run is refused by its child, or where other children or offsets can't hold it
by_mode : (t : ArrowType) (types : List ℤ) (offsets : Option (List ℤ)) (gs : List Grown) (f n : ℕ) (more : List Slot) (i j : ℕ) → IsUnionOver t offsets gs → HoldsVariants t types offsets gs → f < length gs → length more ≡ n → (Crowded : Type 0) → (CannotHold (nth_grown gs f) i j n → (Fits t (variant_rows t types offsets gs ++ run_rows t f more) → ⊥) ⊎ Crowded) → RunRefused offsets f i j n gs → (Fits t (variant_rows t types offsets gs ++ run_rows t f more) → ⊥) ⊎ Crowded
by_mode t types None gs f n more i j over holds within many Crowded one (inl cannot) = one cannot
by_mode t types None gs f n more i j over holds within many Crowded one (inr others) =
    inl (others_refused t types None gs over holds f n more within many refl others)
by_mode t types (Some os) gs f n more i j over holds within many Crowded one (inl cannot) = one cannot
by_mode t types (Some os) gs f n more i j over holds within many Crowded one (inr places) =
    inl (places_refused t types (Some os) gs over holds f n more within many os refl places)

-- rows that are named of a bound array of unions

module _ (layouts : List Layout) (index : ℕ) (p : UnionParts) (bounded : index < length layouts) (source : source_at layouts index ≡ union_layout p) where
  source_child : (f : ℕ) → source_at (map (child_at f) layouts) index ≡ child_at f (union_layout p)
  source_child f = get_or-map (child_at f) layouts index _ _ bounded ∙ ap (child_at f) source

  -- each child is bound to that of the array
  pub child_binds : (g : Grown) (f row j n : ℕ) → g.sources ≡ Some (map (child_at f) layouts) → IsRun p row f j n → BindsRows g index (j + n)
  child_binds g f row j n sources run =
      record {
        layouts = map (child_at f) layouts;
        sources = sources;
        bound = omega (arith, bounded, length-map layouts (child_at f));
        within = omega (arith, run.inside, ap length (ap rows (source_child f) ∙ child_rows_are p f run.field));
      }

  -- and its rows are those of the field
  pub child_rows : (g : Grown) (f row j n : ℕ) → g.sources ≡ Some (map (child_at f) layouts) → IsRun p row f j n → bound_rows g index ≡ rows_of_field p.children f
  child_rows g f row j n sources run =
      ap (λ s. source_rows s index) sources ∙ (ap rows (source_child f) ∙ child_rows_are p f run.field)

  -- and the rows of a sparse union lie in each
  pub binds_fields : (t : ArrowType) (offsets : Option (List ℤ)) (gs : List Grown) → p.arrow_type ≡ t → IsSparse p → IsBoundUnion layouts t offsets gs → BindsFields p index gs
  binds_fields t offsets gs type_is sparse bound =
      let width : length gs ≡ length p.children = as_many t gs bound.over.types ∙ (ap (λ u. length (field_types u)) (sym type_is) ∙ (ap length (sym sparse.fields) ∙ length-map p.children type_of_layout)) in
      let spans = subst (λ r. SpansRows r p.start (length p.types) p.children) sparse.child_rows sparse.spans in
      record {
        width = width;
        types = λ f within. type_there t gs f bound.over.types within ∙ ap (λ u. variant_type u f) (sym type_is);
        binds =
            λ f within.
            let among : f < length p.children = omega (arith, within, width) in
            let long = ap length (ap rows (source_child f) ∙ child_rows_are p f among) in
            let read = ap length (get_or-map rows p.children f none_there [] among) in
            record {
              layouts = map (child_at f) layouts;
              sources = bound.sources f within;
              bound = omega (arith, bounded, length-map layouts (child_at f));
              within = omega (arith, spans f none_there among, long, read);
            };
        rows =
            λ f within.
            ap (λ s. source_rows s index) (bound.sources f within) ∙ (ap rows (source_child f) ∙ child_rows_are p f (omega (arith, within, width)));
      }

  -- a row of a child that is crowded is that of a row of the run
  crowded_in_run : (f row j n : ℕ) → IsRun p row f j n → row + n ≤ length p.types → AreCrowded (Some (map (child_at f) layouts)) index j n → AreCrowded (Some layouts) index row n
  crowded_in_run f row j n run part crowded =
      let jj = crowded.1.0 in
      let k = jj - j in
      let at : j + k ≡ jj = omega (arith, crowded.1.1) in
      let few : k < n = omega (arith, crowded.1.1, crowded.1.2) in
      let inner = subst (λ i. CrowdedRow (take index (map (child_at f) layouts)) (source_at (map (child_at f) layouts) index) i) (sym at) crowded.1.3 in
      let before = take-map (child_at f) index layouts in
      let here = subst {A = List Layout × Layout} (λ q. CrowdedRow q.0 q.1 (j + k)) (λ i. (before i, source_child f i)) inner in
      (crowded.0, (row + k, omega arith, omega (arith, few), subst (λ l. CrowdedRow (take index layouts) l (row + k)) (sym source) (run_crowded (take index layouts) p row f j n k run part few here)))

  -- why a run is refused: what is held with it does not fit, or a row of it is crowded
  pub run_cannot : (t : ArrowType) (types : List ℤ) (offsets : Option (List ℤ)) (gs : List Grown) (f row j n : ℕ) → IsBoundUnion layouts t offsets gs → HoldsVariants t types offsets gs → IsRun p row f j n → f < length gs → row + n ≤ length p.types → RunRefused offsets f index j n gs → RefusedBy (Some layouts) (Fits t (variant_rows t types offsets gs ++ run_rows t f (sliced (rows_of_field p.children f) j n))) index row n
  run_cannot t types offsets gs f row j n bound holds run within part refused =
      let g = nth_grown gs f in
      let more = sliced (rows_of_field p.children f) j n in
      let many : length more ≡ n = length-sliced (rows_of_field p.children f) j n run.inside in
      let named : named_rows g index j n ≡ more = ap (λ s. rows_among s index j n) (bound.sources f within) ∙ ap (λ xs. sliced xs j n) (ap rows (source_child f) ∙ child_rows_are p f run.field) in
      let one : CannotHold g index j n → RefusedBy (Some layouts) (Fits t (variant_rows t types offsets gs ++ run_rows t f more)) index row n = λ cannot. elim (subst (λ s. RefusedBy s (FitsWith g (named_rows g index j n)) index j n) (bound.sources f within) cannot) [
        | inl over ↦ inl (chosen_refused t types offsets gs bound.over holds f n more within many (λ fits. over (subst (FitsWith g) (sym named) fits)))
        | inr crowded ↦ inr (crowded_in_run f row j n run part crowded)
      ] in
      by_mode t types offsets gs f n more index j bound.over holds within many _ one refused

  -- and with it all rows that are named
  pub rows_cannot : (t : ArrowType) (types : List ℤ) (offsets : Option (List ℤ)) (gs : List Grown) (now_types : List ℤ) (now_offsets : Option (List ℤ)) (nows : List Grown) (start len row n : ℕ) (run : List Slot) → GrowsVariants t types offsets gs now_types now_offsets nows (sliced (rows (source_at layouts index)) start (row - start)) → sliced (union_rows p) row n ≡ run → start ≤ row → row + n ≤ start + len → RefusedBy (Some layouts) (Fits t (variant_rows t now_types now_offsets nows ++ run)) index row n → RefusedBy (Some layouts) (Fits t (variant_rows t types offsets gs ++ sliced (rows (source_at layouts index)) start len)) index start len
  rows_cannot t types offsets gs now_types now_offsets nows start len row n run grows is from to refused =
      let xs = rows (source_at layouts index) in
      let held = variant_rows t types offsets gs in
      let done = row - start in
      let left = start + len - (row + n) in
      let split : len ≡ done + (n + left) = omega (arith, from, to) in
      let at : start + done ≡ row = omega (arith, from) in
      let here : sliced xs row n ≡ run = ap (λ ys. sliced ys row n) (ap rows source) ∙ is in
      let all : sliced xs start len ≡ sliced xs start done ++ (run ++ sliced xs (row + n) left) = ap (sliced xs start) split ∙ (sliced-cut xs start done (n + left) ∙ ap (λ ys. sliced xs start done ++ ys) (ap (λ k. sliced xs k (n + left)) at ∙ (sliced-cut xs row n left ∙ ap (λ ys. ys ++ sliced xs (row + n) left) here))) in
      let whole : held ++ sliced xs start len ≡ (variant_rows t now_types now_offsets nows ++ run) ++ sliced xs (row + n) left = ap (λ ys. held ++ ys) all ∙ (sym (append_assoc held (sliced xs start done) (run ++ sliced xs (row + n) left)) ∙ (ap (λ ys. ys ++ (run ++ sliced xs (row + n) left)) (sym grows.rows) ∙ sym (append_assoc (variant_rows t now_types now_offsets nows) run (sliced xs (row + n) left)))) in
      elim refused [
        | inl over ↦ inl (λ fits. over (Fits-beginning t (variant_rows t now_types now_offsets nows ++ run) (sliced xs (row + n) left) (subst (Fits t) whole fits)))
        | inr crowded ↦ inr (crowded.0, (crowded.1.0, omega (arith, from, crowded.1.1), omega (arith, to, crowded.1.2), crowded.1.3))
      ]

-- null slots are rows of the first field

-- a carried union has one
pub some_children : (t : ArrowType) (offsets : Option (List ℤ)) (gs : List Grown) → IsUnionOver t offsets gs → 0 < length gs
some_children t offsets gs over = omega (arith, union_has_field t over.kind, as_many t gs over.types)

pub null_rows_are : (t : ArrowType) (offsets : Option (List ℤ)) (gs : List Grown) (n : ℕ) → IsUnionOver t offsets gs → 0 < length gs → run_rows t 0 (null_rows_of (nth_grown gs 0) n) ≡ replicate n (null_slot t)
null_rows_are t offsets gs n over some =
    let null = null_variant t over.kind.1 (omega (arith, some, as_many t gs over.types)) in
    ap (λ u. run_rows t 0 (replicate n (null_slot u))) (type_there t gs 0 over.types some) ∙ (map_constant (Variant (id_at (field_ids t) 0)) n (null_slot (variant_type t 0)) ∙ ap (replicate n) (sym null))

pub nulls_cannot : (t : ArrowType) (types : List ℤ) (offsets : Option (List ℤ)) (gs : List Grown) (n : ℕ) → IsUnionOver t offsets gs → HoldsVariants t types offsets gs → 0 < length gs → NullsRefused offsets n gs → Fits t (variant_rows t types offsets gs ++ replicate n (null_slot t)) → ⊥
nulls_cannot t types None gs n over holds some refused fits =
    let more = null_rows_of (nth_grown gs 0) n in
    let many : length more ≡ n = length-replicate n (null_slot (nth_grown gs 0).arrow_type) in
    let whole = subst (λ ys. Fits t (variant_rows t types None gs ++ ys)) (sym (null_rows_are t None gs n over some)) fits in
    elim (same_or_not refused.0 0) [
      | inl same ↦ chosen_refused t types None gs over holds 0 n more some many (λ inner. refused.2 absent (subst (λ k. FitsWith (nth_grown gs k) (null_rows_of (nth_grown gs k) n)) (sym same) inner)) whole
      | inr other ↦ others_refused t types None gs over holds 0 n more some many refl (refused.0, refused.1, other, refused.2 absent) whole
    ]
nulls_cannot t types (Some os) gs n over holds some refused fits =
    let more = null_rows_of (nth_grown gs 0) n in
    let many : length more ≡ n = length-replicate n (null_slot (nth_grown gs 0).arrow_type) in
    let whole = subst (λ ys. Fits t (variant_rows t types (Some os) gs ++ ys)) (sym (null_rows_are t (Some os) gs n over some)) fits in
    elim refused [
      | inl full ↦ chosen_refused t types (Some os) gs over holds 0 n more some many full whole
      | inr places ↦ places_refused t types (Some os) gs over holds 0 n more some many os refl places whole
    ]
