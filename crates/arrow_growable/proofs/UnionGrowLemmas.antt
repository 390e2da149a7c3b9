-- Unions under construction: what they hold behind a run of rows of one field, and why a run is refused.
use Rattle.arrow_growable.proofs.Common.{arith, ◌≡◌, ◌+◌, ◌<◌, ◌^◌, ◌⊎◌, inl, inr, ℕ, zero, suc, ℤ, pos, Option, Some, None, List, [], ◌∷◌, ◌++◌, length, map, replicate, get_or, refl, ap, sym, subst, ◌∙◌, option_map, range_with_len, zip, length-zip, append-nil, get_or-map, length-map, length-replicate, map-append, UnionMode, Dense, Sparse, ArrowType, plain, null, Fits, sparse_part, Slot, id_at, field_ids, union_items, variant_at, field_types, mode_in, child_row_of, child_rows_of, mode_by, Grown, FitsWith, appended, null_rows_of, IsWell, grown_by_nulls, AreFew, GrowsVariants, HoldsVariants, IsUnionOver, OthersCannotHold, absent, nth_grown, placed_behind, places_by, variant_rows, with_others, with_rows, with_run, rows_of_all, HoldsColumns, field_part, part_of_id, run_rows, variant_type, All, length-append}
use Rattle.arrow_growable.proofs.UnionTypeLemmas.{FitsPlaces, before_or_same, ids_apart, variant_fits}
use Rattle.arrow_growable.proofs.VariantColumns.{AreApart, holds_run, run_behind}
use Rattle.arrow_growable.proofs.VariantLemmas.{naturals_back, others_part, part-append, part_other, part_same, range-append}

-- children, one by one

pub with_rows_long : (f : ℕ) (more : List Slot) (gs : List Grown) → length (with_rows f more gs) ≡ length gs
with_rows_long (suc f) more (g ∷ gs) = ap suc (with_rows_long f more gs)
with_rows_long f more [] = refl
with_rows_long zero more (g ∷ gs) = refl

pub with_rows_here : (f : ℕ) (more : List Slot) (gs : List Grown) → f < length gs → nth_grown (with_rows f more gs) f ≡ appended (nth_grown gs f) more
with_rows_here f more [] within = absurd (omega (arith, within))
with_rows_here zero more (g ∷ gs) within = refl
with_rows_here (suc f) more (g ∷ gs) within = with_rows_here f more gs (omega (arith, within))

pub with_rows_there : (f g : ℕ) (more : List Slot) (gs : List Grown) → (g ≡ f → ⊥) → nth_grown (with_rows f more gs) g ≡ nth_grown gs g
with_rows_there zero zero more (h ∷ gs) other = absurd (other refl)
with_rows_there (suc f) (suc g) more (h ∷ gs) other = with_rows_there f g more gs (λ same. other (ap suc same))
with_rows_there f g more [] other = refl
with_rows_there zero (suc g) more (h ∷ gs) other = refl
with_rows_there (suc f) zero more (h ∷ gs) other = refl

pub with_others_long : (f n : ℕ) (gs : List Grown) → length (with_others f n gs) ≡ length gs
with_others_long f n [] = refl
with_others_long zero n (g ∷ gs) = ap suc (length-map gs (grown_by_nulls n))
with_others_long (suc f) n (g ∷ gs) = ap suc (with_others_long f n gs)

pub with_others_here : (f n : ℕ) (gs : List Grown) → f < length gs → nth_grown (with_others f n gs) f ≡ nth_grown gs f
with_others_here f n [] within = absurd (omega (arith, within))
with_others_here zero n (g ∷ gs) within = refl
with_others_here (suc f) n (g ∷ gs) within = with_others_here f n gs (omega (arith, within))

pub with_others_there : (f g n : ℕ) (gs : List Grown) → g < length gs → (g ≡ f → ⊥) → nth_grown (with_others f n gs) g ≡ grown_by_nulls n (nth_grown gs g)
with_others_there f g n [] within other = absurd (omega (arith, within))
with_others_there zero zero n (h ∷ gs) within other = absurd (other refl)
with_others_there zero (suc g) n (h ∷ gs) within other =
    get_or-map (grown_by_nulls n) gs g absent absent (omega (arith, within))
with_others_there (suc f) zero n (h ∷ gs) within other = refl
with_others_there (suc f) (suc g) n (h ∷ gs) within other =
    with_others_there f g n gs (omega (arith, within)) (λ same. other (ap suc same))

pub column_is : (gs : List Grown) (g : ℕ) → g < length gs → get_or (rows_of_all gs) g [] ≡ (nth_grown gs g).rows
column_is gs g within = get_or-map (λ (h : Grown). h.rows) gs g absent [] within

pub columns_long : (gs : List Grown) → length (rows_of_all gs) ≡ length gs
columns_long gs = length-map gs (λ (h : Grown). h.rows)

run_long : (offsets : Option (List ℤ)) (f : ℕ) (more : List Slot) (n : ℕ) (gs : List Grown) → length (with_run offsets f more n gs) ≡ length gs
run_long None f more n gs = with_rows_long f more (with_others f n gs) ∙ with_others_long f n gs
run_long (Some os) f more n gs = with_rows_long f more gs

-- the type of each is that of its field
pub type_there : (t : ArrowType) (gs : List Grown) (g : ℕ) → map (λ h. h.arrow_type) gs ≡ field_types t → g < length gs → (nth_grown gs g).arrow_type ≡ variant_type t g
type_there t gs g types within =
    sym (get_or-map (λ (h : Grown). h.arrow_type) gs g absent (plain null) within) ∙ ap (λ ts. get_or ts g (plain null)) types

pub as_many : (t : ArrowType) (gs : List Grown) → map (λ h. h.arrow_type) gs ≡ field_types t → length gs ≡ length (field_types t)
as_many t gs types = sym (length-map gs (λ (h : Grown). h.arrow_type)) ∙ ap length types

pub same_or_not : (g f : ℕ) → (g ≡ f) ⊎ (g ≡ f → ⊥)
same_or_not g f =
    elim (before_or_same g f) [
      | inl less ↦ inr (λ same. omega (arith, less, same))
      | inr rest ↦ elim rest [ inl same ↦ inl same | inr more ↦ inr (λ same. omega (arith, more, same)) ]
    ]

-- the rows of each behind a run of field f

chosen_rows : (offsets : Option (List ℤ)) (f n : ℕ) (more : List Slot) (gs : List Grown) → f < length gs → (nth_grown (with_run offsets f more n gs) f).rows ≡ (nth_grown gs f).rows ++ more
chosen_rows None f n more gs within =
    ap (λ h. h.rows) (with_rows_here f more (with_others f n gs) (omega (arith, within, with_others_long f n gs))) ∙ ap (λ h. h.rows ++ more) (with_others_here f n gs within)
chosen_rows (Some os) f n more gs within = ap (λ h. h.rows) (with_rows_here f more gs within)

other_rows : (t : ArrowType) (offsets : Option (List ℤ)) (f g n : ℕ) (more : List Slot) (gs : List Grown) → mode_in t ≡ mode_by (child_rows_of offsets) → (nth_grown gs g).arrow_type ≡ variant_type t g → g < length gs → (g ≡ f → ⊥) → (nth_grown (with_run offsets f more n gs) g).rows ≡ (nth_grown gs g).rows ++ others_part (mode_in t) (variant_type t g) n
other_rows t None f g n more gs mode type_is within other =
    ap (λ h. h.rows) (with_rows_there f g more (with_others f n gs) other ∙ with_others_there f g n gs within other) ∙ (λ j. (nth_grown gs g).rows ++ others_part (sym mode j) (type_is j) n)
other_rows t (Some os) f g n more gs mode type_is within other =
    ap (λ h. h.rows) (with_rows_there f g more gs other) ∙ (sym (append-nil (nth_grown gs g).rows) ∙ (λ j. (nth_grown gs g).rows ++ others_part (sym mode j) (variant_type t g) n))

placed_rows : (os : List ℤ) (place n : ℕ) → map child_row_of (os ++ map pos (range_with_len place n)) ≡ map child_row_of os ++ range_with_len place n
placed_rows os place n =
    map-append child_row_of os (map pos (range_with_len place n)) ∙ ap (λ ns. map child_row_of os ++ ns) (naturals_back (range_with_len place n))

natural_behind : (offsets : Option (List ℤ)) (place n : ℕ) → offsets ≡ option_map (map pos) (child_rows_of offsets) → placed_behind offsets place n ≡ option_map (map pos) (child_rows_of (placed_behind offsets place n))
natural_behind None place n natural = refl
natural_behind (Some os) place n natural =
    let same : os ≡ map pos (map child_row_of os) = cc in
    ap Some ((λ j. same j ++ map pos (range_with_len place n)) ∙ (sym (map-append pos (map child_row_of os) (range_with_len place n)) ∙ ap (map pos) (sym (placed_rows os place n))))

-- the places behind those of before: in a sparse union a child has as many rows as the union
places_behind : (offsets : Option (List ℤ)) (types run : List ℤ) (place n : ℕ) → length run ≡ n → (mode_by (child_rows_of offsets) ≡ Sparse → place ≡ length types) → places_by (types ++ run) (placed_behind offsets place n) ≡ places_by types offsets ++ range_with_len place n
places_behind None types run place n many whole =
    let at : 0 + length types ≡ place = omega (arith, whole refl) in
    let long : length (types ++ run) ≡ length types + n = omega (arith, length-append types run, many) in
    ap (range_with_len 0) long ∙ (range-append 0 (length types) n ∙ ap (λ k. range_with_len 0 (length types) ++ range_with_len k n) at)
places_behind (Some os) types run place n many whole = placed_rows os place n

few_behind : (offsets : Option (List ℤ)) (place n k : ℕ) → AreFew offsets k → AreFew (placed_behind offsets place n) k
few_behind None place n k few = tt
few_behind (Some os) place n k few = few

-- a sparse union has as many rows as each child
pub part_long : (mode : UnionMode) (id : ℤ) (t : ArrowType) (xs : List Slot) → mode ≡ Sparse → length (part_of_id mode id t xs) ≡ length xs
part_long Sparse id t xs sparse = length-map xs (sparse_part id t)
part_long Dense id t xs sparse = cc

-- of a dense union a child that is not chosen is as it was
few_other : (offsets : Option (List ℤ)) (f g n : ℕ) (more : List Slot) (gs : List Grown) → AreFew offsets (length (nth_grown gs g).rows) → (g ≡ f → ⊥) → AreFew offsets (length (nth_grown (with_run offsets f more n gs) g).rows)
few_other None f g n more gs few other = tt
few_other (Some os) f g n more gs few other =
    omega (arith, few, ap (λ h. length h.rows) (with_rows_there f g more gs other))

-- what is held

pub length_held : (t : ArrowType) (types : List ℤ) (offsets : Option (List ℤ)) (gs : List Grown) → HoldsVariants t types offsets gs → length (variant_rows t types offsets gs) ≡ length types
length_held t types offsets gs holds =
    let pairs = length-map (zip types (places_by types offsets)) (λ row. variant_at (field_ids t) (rows_of_all gs) row.0 row.1) in
    omega (arith, pairs, length-zip types (places_by types offsets), holds.rows.spans)

pub part_of_child : (t : ArrowType) (types : List ℤ) (offsets : Option (List ℤ)) (gs : List Grown) → HoldsVariants t types offsets gs → (f : ℕ) → f < length gs → (nth_grown gs f).rows ≡ field_part t f (variant_rows t types offsets gs)
part_of_child t types offsets gs holds f within =
    sym (column_is gs f within) ∙ holds.rows.parts f (omega (arith, within, length-map gs (λ (h : Grown). h.rows)))

-- rows of one field behind those of before
module _ (t : ArrowType) (types : List ℤ) (offsets : Option (List ℤ)) (gs : List Grown) (over : IsUnionOver t offsets gs) (holds : HoldsVariants t types offsets gs) (f n : ℕ) (more : List Slot) (within : f < length gs) (many : length more ≡ n) where
  abbrev held : List Slot
  held = variant_rows t types offsets gs

  abbrev place : ℕ
  place = length (nth_grown gs f).rows

  apart : AreApart (field_ids t) (length (rows_of_all gs))
  apart =
      subst (AreApart (field_ids t)) (sym (columns_long gs ∙ as_many t gs over.types)) (ids_apart t over.kind)

  -- what each holds of them with the run
  run_part : (g : ℕ) → g < length gs → (g ≡ f) ⊎ (g ≡ f → ⊥) → (nth_grown (with_run offsets f more n gs) g).rows ≡ (nth_grown gs g).rows ++ field_part t g (run_rows t f more)
  run_part g inside (inl same) =
      subst (λ k. (nth_grown (with_run offsets f more n gs) k).rows ≡ (nth_grown gs k).rows ++ field_part t k (run_rows t f more)) (sym same) (chosen_rows offsets f n more gs within ∙ ap (λ ys. (nth_grown gs f).rows ++ ys) (sym (part_same (mode_in t) (id_at (field_ids t) f) (variant_type t f) more)))
  run_part g inside (inr other) =
      let differ : id_at (field_ids t) g ≡ id_at (field_ids t) f → ⊥ = λ same. other (apart g f (omega (arith, inside, columns_long gs)) (omega (arith, within, columns_long gs)) same) in
      let part : field_part t g (run_rows t f more) ≡ others_part (mode_in t) (variant_type t g) n = part_other (mode_in t) (id_at (field_ids t) g) (id_at (field_ids t) f) (variant_type t g) more differ ∙ ap (others_part (mode_in t) (variant_type t g)) many in
      other_rows t offsets f g n more gs over.mode (type_there t gs g over.types inside) inside other ∙ ap (λ ys. (nth_grown gs g).rows ++ ys) (sym part)

  grown_part : (g : ℕ) → g < length (rows_of_all gs) → get_or (rows_of_all (with_run offsets f more n gs)) g [] ≡ get_or (rows_of_all gs) g [] ++ field_part t g (run_rows t f more)
  grown_part g inside =
      let among : g < length gs = omega (arith, inside, columns_long gs) in
      column_is (with_run offsets f more n gs) g (omega (arith, among, run_long offsets f more n gs)) ∙ (run_part g among (same_or_not g f) ∙ ap (λ xs. xs ++ field_part t g (run_rows t f more)) (sym (column_is gs g among)))

  news_long : length (rows_of_all (with_run offsets f more n gs)) ≡ length (rows_of_all gs)
  news_long =
      columns_long (with_run offsets f more n gs) ∙ (run_long offsets f more n gs ∙ sym (columns_long gs))

  -- in a sparse union a child has as many rows as the union
  place_sparse : mode_by (child_rows_of offsets) ≡ Sparse → place ≡ length types
  place_sparse sparse =
      ap length (part_of_child t types offsets gs holds f within) ∙ (part_long (mode_in t) (id_at (field_ids t) f) (variant_type t f) held (over.mode ∙ sparse) ∙ length_held t types offsets gs holds)

  new_columns : HoldsColumns t (types ++ replicate n (id_at (field_ids t) f)) (places_by types offsets ++ range_with_len place n) (rows_of_all (with_run offsets f more n gs))
  new_columns =
      holds_run t types (places_by types offsets) (rows_of_all gs) (rows_of_all (with_run offsets f more n gs)) f place n more holds.rows apart (omega (arith, within, columns_long gs)) news_long grown_part (ap length (sym (column_is gs f within))) many

  new_places : places_by (types ++ replicate n (id_at (field_ids t) f)) (placed_behind offsets place n) ≡ places_by types offsets ++ range_with_len place n
  new_places =
      places_behind offsets types (replicate n (id_at (field_ids t) f)) place n (length-replicate n (id_at (field_ids t) f)) place_sparse

  new_few : AreFew offsets (place + n) → (g : ℕ) → g < length (with_run offsets f more n gs) → (g ≡ f) ⊎ (g ≡ f → ⊥) → AreFew (placed_behind offsets place n) (length (nth_grown (with_run offsets f more n gs) g).rows)
  new_few few g inside (inl same) =
      let long : length (nth_grown (with_run offsets f more n gs) f).rows ≡ place + n = ap length (chosen_rows offsets f n more gs within) ∙ (length-append (nth_grown gs f).rows more ∙ ap (λ k. place + k) many) in
      few_behind offsets place n _ (subst (λ k. AreFew offsets (length (nth_grown (with_run offsets f more n gs) k).rows)) (sym same) (subst (AreFew offsets) (sym long) few))
  new_few few g inside (inr other) =
      few_behind offsets place n _ (few_other offsets f g n more gs (holds.few g (omega (arith, inside, run_long offsets f more n gs))) other)

  -- all that they hold then
  pub grows_run : (news : List Grown) (new_types : List ℤ) (new_offsets : Option (List ℤ)) → news ≡ with_run offsets f more n gs → new_types ≡ types ++ replicate n (id_at (field_ids t) f) → new_offsets ≡ placed_behind offsets place n → All IsWell news → AreFew offsets (place + n) → GrowsVariants t types offsets gs new_types new_offsets news (run_rows t f more)
  grows_run news new_types new_offsets news_are types_are offsets_are well few =
      let ids = field_ids t in
      let all = types ++ replicate n (id_at ids f) in
      let behind = run_behind t types (places_by types offsets) (rows_of_all gs) (rows_of_all (with_run offsets f more n gs)) f place n more holds.rows apart (omega (arith, within, columns_long gs)) news_long grown_part (ap length (sym (column_is gs f within))) many in
      let made : GrowsVariants t types offsets gs all (placed_behind offsets place n) (with_run offsets f more n gs) (run_rows t f more) = record {
        holds = record {
          well = subst (All IsWell) news_are well;
          natural = natural_behind offsets place n holds.natural;
          few = λ g inside. new_few few g inside (same_or_not g f);
          rows = subst (λ ps. HoldsColumns t all ps (rows_of_all (with_run offsets f more n gs))) (sym new_places) new_columns;
        };
        rows = ap (union_items ids (rows_of_all (with_run offsets f more n gs)) all) new_places ∙ behind;
      } in
      subst {A = (List ℤ × Option (List ℤ)) × List Grown} (λ q. GrowsVariants t types offsets gs q.0.0 q.0.1 q.1 (run_rows t f more)) (λ j. ((sym types_are j, sym offsets_are j), sym news_are j)) made

  -- rows that fit with the run do so in each child
  child_fits : (g : ℕ) → g < length gs → Fits t (held ++ run_rows t f more) → FitsPlaces (mode_in t) (length ((nth_grown gs g).rows ++ field_part t g (run_rows t f more))) × FitsWith (nth_grown gs g) (field_part t g (run_rows t f more))
  child_fits g inside fits =
      let all = variant_fits t g (held ++ run_rows t f more) over.kind.1 (omega (arith, inside, as_many t gs over.types)) fits in
      let part : field_part t g (held ++ run_rows t f more) ≡ (nth_grown gs g).rows ++ field_part t g (run_rows t f more) = part-append (mode_in t) (id_at (field_ids t) g) (variant_type t g) held (run_rows t f more) ∙ ap (λ xs. xs ++ field_part t g (run_rows t f more)) (sym (part_of_child t types offsets gs holds g inside)) in
      subst {A = ArrowType × List Slot} (λ q. FitsPlaces (mode_in t) (length q.1) × Fits q.0 q.1) (λ j. (sym (type_there t gs g over.types inside) j, part j)) all

  own_part : field_part t f (run_rows t f more) ≡ more
  own_part = part_same (mode_in t) (id_at (field_ids t) f) (variant_type t f) more

  -- so a run is refused where its child can't hold it
  pub chosen_refused : (FitsWith (nth_grown gs f) more → ⊥) → Fits t (held ++ run_rows t f more) → ⊥
  chosen_refused over_full fits =
      over_full (subst (FitsWith (nth_grown gs f)) own_part (child_fits f within fits).1)

  -- or another can't hold its null slots
  pub others_refused : offsets ≡ None → OthersCannotHold f n gs → Fits t (held ++ run_rows t f more) → ⊥
  others_refused sparse refused fits =
      let g = refused.0 in
      let inside = refused.1 in
      let differ : id_at (field_ids t) g ≡ id_at (field_ids t) f → ⊥ = λ same. refused.2 (apart g f (omega (arith, inside, columns_long gs)) (omega (arith, within, columns_long gs)) same) in
      let mode : mode_in t ≡ Sparse = over.mode ∙ ap (λ os. mode_by (child_rows_of os)) sparse in
      let part : field_part t g (run_rows t f more) ≡ null_rows_of (nth_grown gs g) n = part_other (mode_in t) (id_at (field_ids t) g) (id_at (field_ids t) f) (variant_type t g) more differ ∙ (λ j. others_part (mode j) (sym (type_there t gs g over.types inside) j) (many j)) in
      refused.3 (subst (FitsWith (nth_grown gs g)) part (child_fits g inside fits).1)

  -- or there are too many rows of one id
  pub places_refused : (os : List ℤ) → offsets ≡ Some os → 2 ^ 31 < place + n → Fits t (held ++ run_rows t f more) → ⊥
  places_refused os dense many_rows fits =
      let mode : mode_in t ≡ Dense = over.mode ∙ ap (λ o. mode_by (child_rows_of o)) dense in
      let few : FitsPlaces Dense (length ((nth_grown gs f).rows ++ field_part t f (run_rows t f more))) = subst (λ m. FitsPlaces m (length ((nth_grown gs f).rows ++ field_part t f (run_rows t f more)))) mode (child_fits f within fits).0 in
      omega (arith, few, many_rows, ap length own_part, length-append (nth_grown gs f).rows (field_part t f (run_rows t f more)), many)
