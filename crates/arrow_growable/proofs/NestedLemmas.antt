-- A growable of arrays with children: its rows, what fits, and why it refuses.
use Rattle.arrow_growable.proofs.Common.{arith, ◌≡◌, ◌+◌, ◌*◌, ◌-◌, ◌<◌, ◌≤◌, ℕ, zero, suc, Bool, List, ◌++◌, Some, length, map, get_or, slice_index, ap, sym, subst, ◌∙◌, get_or-map, get_or_default, length-map, ArrowType, plain, null, Fits, Slot, bits_of_slice, Grown, FitsItself, FitsWith, appended, source_at, length-bits_of_slice, source_is, Layout, listed, fixed, fielded, rows, BindsRows, bound_rows, source_rows, Form, child_type, child_types, column_in, nested_rows, HoldsEven, rows_of_all, IsWhole, children_in, nth_child, no_child, place_in, validity_in, All, length-append}
use Rattle.arrow_growable.proofs.ColumnLemmas.{column-append, column_fits}

-- the children of a growable, one by one
module _ (children : List Grown) (t : ArrowType) (types : map (λ g. g.arrow_type) children ≡ child_types t) where
  pub as_many : length children ≡ length (child_types t)
  as_many = sym (length-map children (λ g. g.arrow_type)) ∙ ap length types

  pub type_of_child : (f : ℕ) (d : Grown) → f < length children → (get_or children f d).arrow_type ≡ child_type t f
  type_of_child f d within =
      sym (get_or-map (λ (g : Grown). g.arrow_type) children f d (plain null) within) ∙ ap (λ ts. get_or ts f (plain null)) types

-- the children of a source
module _ (layouts : List Layout) (index : ℕ) (bound : index < length layouts) where
  pub source_child : (f : ℕ) → source_at (map (nth_child f) layouts) index ≡ nth_child f (source_at layouts index)
  source_child f =
      source_is (nth_child f) layouts index (source_at layouts index) bound (get_or_default layouts index no_child (source_at layouts index) bound)

  pub bound_child : (g : Grown) (f : ℕ) → g.sources ≡ Some (map (nth_child f) layouts) → bound_rows g index ≡ rows (nth_child f (source_at layouts index))
  bound_child g f sources = ap (λ s. source_rows s index) sources ∙ ap rows (source_child f)

-- rows lie inside each child
pub rows_inside : (l : Layout) (f : ℕ) → IsWhole l → f < length (children_in l) → place_in l (length (rows l)) ≤ length (rows (nth_child f l))
rows_inside (listed t v os c) zero whole within =
    let last : length (rows (listed t v os c)) ≡ length os - 1 = omega (arith, whole.3) in
    omega (arith, whole.1, ap (slice_index os) last)
rows_inside (listed t v os c) (suc f) whole within = absurd (omega (arith, within))
rows_inside (fixed t v s c) zero whole within = omega (arith, whole.2)
rows_inside (fixed t v s c) (suc f) whole within = absurd (omega (arith, within))
rows_inside (fielded t v cs) f whole within = omega (arith, whole.1 f no_child within)
rows_inside _ f whole within = absurd whole

pub binds_child : (layouts : List Layout) (index f : ℕ) (g : Grown) → index < length layouts → g.sources ≡ Some (map (nth_child f) layouts) → IsWhole (source_at layouts index) → f < length (children_in (source_at layouts index)) → BindsRows g index (place_in (source_at layouts index) (length (rows (source_at layouts index))))
binds_child layouts index f g bound sources whole within =
    let l = source_at layouts index in
    record {
      layouts = map (nth_child f) layouts;
      sources = sources;
      bound = omega (arith, bound, length-map layouts (nth_child f));
      within = subst (λ c. place_in l (length (rows l)) ≤ length (rows c)) (sym (source_child layouts index bound f)) (rows_inside l f whole within);
    }

-- a bit for each row of a part
pub bits_long : (l : Layout) (start n : ℕ) → IsWhole l → start + n ≤ length (rows l) → length (bits_of_slice (validity_in l) start n) ≡ n
bits_long (listed t v os c) start n whole within =
    length-bits_of_slice v (length os - 1) start n whole.2 (omega (arith, within, whole.3))
bits_long (fixed t v s c) start n whole within = length-bits_of_slice v (length (rows (fixed t v s c))) start n whole.3 within
bits_long (fielded t v cs) start n whole within = length-bits_of_slice v (length (rows (fielded t v cs))) start n whole.2 within
bits_long _ start n whole within = absurd whole

-- rows behind those of a growable each of whose children has w rows a row, by what they name of each child
module _ (form : Form) (w : ℕ) (children : List Grown) (bits : List Bool) (len : ℕ) (t : ArrowType) (holds : HoldsEven form w children bits len t) (types : map (λ g. g.arrow_type) children ≡ child_types t) (more_of : Grown → List Slot) (named : List Slot) (columns : (f : ℕ) (d : Grown) → f < length children → column_in t f named ≡ more_of (get_or children f d)) where
  abbrev grow : Grown → Grown
  grow g = appended g (more_of g)

  column_whole : (f : ℕ) (d : Grown) → f < length children → column_in t f (nested_rows form bits (rows_of_all children) ++ named) ≡ (get_or children f d).rows ++ more_of (get_or children f d)
  column_whole f d within =
      column-append t f (nested_rows form bits (rows_of_all children)) named ∙ (λ j. holds.columns f d within j ++ columns f d within j)

  -- where a child can't hold them, the rows do not fit
  pub even_refused : (f : ℕ) (d : Grown) → f < length children → (FitsWith (get_or children f d) (more_of (get_or children f d)) → ⊥) → Fits t (nested_rows form bits (rows_of_all children) ++ named) → ⊥
  even_refused f d within over fits =
      let inside : f < length (child_types t) = omega (arith, within, as_many children t types) in
      over (subst {A = ArrowType × List Slot} (λ q. Fits q.0 q.1) (λ j. (sym (type_of_child children t types f d within) j, column_whole f d within j)) (column_fits t f (nested_rows form bits (rows_of_all children) ++ named) inside fits))

  -- and else it holds them
  module _ (more : List Bool) (n : ℕ) (long : length more ≡ n) (many : (f : ℕ) (d : Grown) → f < length children → length (more_of (get_or children f d)) ≡ n * w) (all : nested_rows form (bits ++ more) (rows_of_all (map grow children)) ≡ nested_rows form bits (rows_of_all children) ++ named) (fits : All FitsItself (map grow children)) where
    grown_at : (f : ℕ) (d : Grown) → f < length (map grow children) → get_or (map grow children) f d ≡ grow (get_or children f d)
    grown_at f d within = get_or-map grow children f d d (omega (arith, within, length-map children grow))

    pub even_grown : HoldsEven form w (map grow children) (bits ++ more) (len + n) t
    even_grown =
        record {
          counted = omega (arith, length-append bits more, long, holds.counted);
          well = λ f d within. record { well = ap (λ g. g.failed) (grown_at f d within); fits = fits f d within };
          whole =
              λ f d within.
              let there : f < length children = omega (arith, within, length-map children grow) in
              let split : (len + n) * w ≡ len * w + n * w = omega arith in
              omega (arith, ap (λ g. length g.rows) (grown_at f d within), length-append (get_or children f d).rows (more_of (get_or children f d)), holds.whole f d there, many f d there, split);
          columns =
              λ f d within.
              let there : f < length children = omega (arith, within, length-map children grow) in
              ap (column_in t f) all ∙ (column_whole f d there ∙ sym (ap (λ g. g.rows) (grown_at f d within)));
        }
