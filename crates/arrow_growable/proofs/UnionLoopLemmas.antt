-- The loop over the runs of rows that are named: one run more, or why it is refused.
use Rattle.arrow_growable.proofs.Common.{arith, ◌≡◌, ◌+◌, ◌-◌, ◌<◌, ◌≤◌, ℕ, ℤ, Option, None, Some, List, ◌++◌, length, replicate, refl, ap, sym, subst, ◌∙◌, ArrowType, Slot, id_at, sliced, length-sliced, sliced-cut, Layout, field_ids, rows, type_of_layout, field_types, UnionParts, rows_of_field, union_layout, union_layout_by, union_rows, Grown, source_at, BindsRows, IsWell, bound_rows, AreFew, GrowsVariants, IsBoundUnion, RowsRefused, RunRefused, nth_grown, placed_behind, source_type, with_run, IsRun, run_rows, All}
use Rattle.arrow_growable.proofs.UnionBoundLemmas.{child_binds, child_rows, grows_twice, rows_cannot, run_cannot}
use Rattle.arrow_growable.proofs.UnionGrowLemmas.{as_many, grows_run}
use Rattle.arrow_growable.proofs.UnionRunLemmas.{run_is}
use Rattle.arrow_growable.proofs.UnionTypeLemmas.{ids_apart}
use Rattle.arrow_growable.proofs.VariantColumns.{AreApart}

type_by : (t : ArrowType) (types : List ℤ) (places : Option (List ℕ)) (start : ℕ) (children : List Layout) → type_of_layout (union_layout_by t types places start children) ≡ t
type_by t types None start children = refl
type_by t types (Some ns) start children = refl

-- the type of an array of unions
pub union_type : (p : UnionParts) → type_of_layout (union_layout p) ≡ p.arrow_type
union_type p = type_by p.arrow_type p.types p.child_rows p.start p.children

-- a run of rows of a bound array, and the children of a union that is bound to it
pub record NamesRun (layouts : List Layout) (index : ℕ) (p : UnionParts) (offsets : Option (List ℤ)) (gs : List Grown) (row f j n : ℕ) : Type 0 where
  pub bounded : index < length layouts
  pub source : source_at layouts index ≡ union_layout p
  pub bound : IsBoundUnion layouts (source_type layouts index) offsets gs
  pub run : IsRun p row f j n

-- the run behind the rows of before
module _ (layouts : List Layout) (index : ℕ) (p : UnionParts) (offsets : Option (List ℤ)) (gs : List Grown) (row f j n : ℕ) (names : NamesRun layouts index p offsets gs row f j n) where
  abbrev t : ArrowType
  t = source_type layouts index

  abbrev src : List Slot
  src = rows (source_at layouts index)

  type_is : p.arrow_type ≡ t
  type_is = sym (union_type p) ∙ ap type_of_layout (sym names.source)

  pub among : f < length gs
  among =
      omega (arith, names.run.field, names.run.width, ap (λ u. length (field_types u)) type_is, as_many t gs names.bound.over.types)

  pub run_binds : BindsRows (nth_grown gs f) index (j + n)
  run_binds =
      child_binds layouts index p names.bounded names.source (nth_grown gs f) f row j n (names.bound.sources f among) names.run

  abbrev more : List Slot
  more = sliced (rows_of_field p.children f) j n

  more_is : sliced (bound_rows (nth_grown gs f) index) j n ≡ more
  more_is =
      ap (λ xs. sliced xs j n) (child_rows layouts index p names.bounded names.source (nth_grown gs f) f row j n (names.bound.sources f among) names.run)

  rows_of_run : sliced (union_rows p) row n ≡ run_rows t f more
  rows_of_run =
      let apart : AreApart (field_ids p.arrow_type) (length p.children) = subst {A = ArrowType × ℕ} (λ q. AreApart (field_ids q.0) q.1) (λ i. (sym type_is i, (ap (λ u. length (field_types u)) (sym type_is) ∙ sym names.run.width) i)) (ids_apart t names.bound.over.kind) in
      run_is p row f j n apart names.run ∙ ap (λ u. run_rows u f more) type_is

  named_run : sliced src row n ≡ run_rows t f more
  named_run = ap (λ l. sliced (rows l) row n) names.source ∙ rows_of_run

  module _ (types : List ℤ) (first_types : List ℤ) (first_offsets : Option (List ℤ)) (firsts : List Grown) (start : ℕ) (grows : GrowsVariants t first_types first_offsets firsts types offsets gs (sliced src start (row - start))) (from : start ≤ row) where
    -- one run more
    pub run_more : (new_types : List ℤ) (new_offsets : Option (List ℤ)) (news : List Grown) → new_types ≡ types ++ sliced p.types row n → news ≡ with_run offsets f (sliced (bound_rows (nth_grown gs f) index) j n) n gs → new_offsets ≡ placed_behind offsets (length (nth_grown gs f).rows) n → All IsWell news → AreFew offsets (length (nth_grown gs f).rows + n) → GrowsVariants t first_types first_offsets firsts new_types new_offsets news (sliced src start (row + n - start))
    run_more new_types new_offsets news types_are news_are offsets_are well few =
        let long : length more ≡ n = length-sliced (rows_of_field p.children f) j n names.run.inside in
        let ids : new_types ≡ types ++ replicate n (id_at (field_ids t) f) = types_are ∙ ap (λ zs. types ++ zs) (names.run.types ∙ ap (λ u. replicate n (id_at (field_ids u) f)) type_is) in
        let step = grows_run t types offsets gs names.bound.over grows.holds f n more among long news new_types new_offsets (news_are ∙ ap (λ xs. with_run offsets f xs n gs) more_is) ids offsets_are well few in
        let split : row + n - start ≡ (row - start) + n = omega (arith, from) in
        let at : start + (row - start) ≡ row = omega (arith, from) in
        let all : sliced src start (row + n - start) ≡ sliced src start (row - start) ++ run_rows t f more = ap (sliced src start) split ∙ (sliced-cut src start (row - start) n ∙ ap (λ xs. sliced src start (row - start) ++ xs) (ap (λ k. sliced src k n) at ∙ named_run)) in
        subst (GrowsVariants t first_types first_offsets firsts new_types new_offsets news) (sym all) (grows_twice grows step)

    -- or why it is refused
    pub run_stops : (len : ℕ) → row + n ≤ start + len → row + n ≤ length p.types → RunRefused offsets f index j n gs → RowsRefused layouts first_types first_offsets firsts index start len
    run_stops len to part refused =
        let cannot = run_cannot layouts index p names.bounded names.source t types offsets gs f row j n names.bound grows.holds names.run among part refused in
        rows_cannot layouts index p names.bounded names.source t first_types first_offsets firsts types offsets gs start len row n (run_rows t f more) grows rows_of_run from to cannot
