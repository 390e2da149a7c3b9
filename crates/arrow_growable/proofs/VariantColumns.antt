-- Children that hold what rows of a union hold of each, and a run of rows of one field behind them.
use Rattle.arrow_growable.proofs.Common.{arith, ◌≡◌, ◌+◌, ◌<◌, ◌≤◌, ℕ, ℤ, Option, List, [], ◌++◌, length, replicate, get_or, refl, ap, sym, subst, ◌∙◌, range_with_len, zip, get_or-replicate, length-replicate, All-append, get_or-range_with_len, length-range_with_len, get_or-zip, length-zip, ArrowType, Slot, id_at, column_of_id, field_ids, union_items, mode_in, IsKnown, column_at, HoldsColumns, field_part, run_rows, variant_type, All, length-append}
use Rattle.arrow_growable.proofs.VariantLemmas.{column_grown, part-append, part_same, rows_behind, zip-append}

-- ids that differ from field to field, of so many
abbrev pub AreApart : Option (List ℤ) → ℕ → Type 0
AreApart ids count = (f g : ℕ) → f < count → g < count → id_at ids f ≡ id_at ids g → f ≡ g

-- so each field has its own column
pub own_column : (ids : Option (List ℤ)) (columns : List (List Slot)) (f : ℕ) → AreApart ids (length columns) → f < length columns → column_of_id ids 0 (id_at ids f) columns ≡ get_or columns f []
own_column ids columns f apart within =
    column_at ids 0 (id_at ids f) columns f f (omega arith) within refl (λ e from below same. absurd (omega (arith, below, apart e f (omega (arith, below, within)) within same)))

-- the places of a run lie inside a column that is long enough
run_placed : (ids : Option (List ℤ)) (columns : List (List Slot)) (id : ℤ) (place n : ℕ) → place + n ≤ length (column_of_id ids 0 id columns) → All (λ row. row.1 < length (column_of_id ids 0 row.0 columns)) (zip (replicate n id) (range_with_len place n))
run_placed ids columns id place n inside =
    λ k d within.
    let many = length-zip (replicate n id) (range_with_len place n) in
    let few : k < n = omega (arith, within, many, length-replicate n id, length-range_with_len place n) in
    let pair = get_or-zip (replicate n id) (range_with_len place n) k d (omega (arith, few, length-replicate n id)) (omega (arith, few, length-range_with_len place n)) in
    let first = get_or-replicate n k id d.0 few in
    let second = get_or-range_with_len place n k d.1 few in
    subst (λ (row : ℤ × ℕ). row.1 < length (column_of_id ids 0 row.0 columns)) (sym pair) (rw (first, second) (omega (arith, inside, few)))

known_run : (ids : Option (List ℤ)) (count f n : ℕ) → f < count → All (IsKnown ids count) (replicate n (id_at ids f))
known_run ids count f n within =
    λ k d inside.
    let same = get_or-replicate n k (id_at ids f) d (omega (arith, inside, length-replicate n (id_at ids f))) in
    (f, within, sym same)

-- n rows of field f, which are these rows of its child
module _ (t : ArrowType) (types : List ℤ) (places : List ℕ) (columns news : List (List Slot)) (f place n : ℕ) (more : List Slot) (holds : HoldsColumns t types places columns) (apart : AreApart (field_ids t) (length columns)) (within : f < length columns) (same : length news ≡ length columns) (grown : (g : ℕ) → g < length columns → get_or news g [] ≡ get_or columns g [] ++ field_part t g (run_rows t f more)) (at : place ≡ length (get_or columns f [])) (many : length more ≡ n) where
  abbrev id : ℤ
  id = id_at (field_ids t) f

  abbrev new_types : List ℤ
  new_types = types ++ replicate n id

  abbrev new_places : List ℕ
  new_places = places ++ range_with_len place n

  own : get_or news f [] ≡ get_or columns f [] ++ more
  own = grown f within ∙ ap (λ ys. get_or columns f [] ++ ys) (part_same (mode_in t) id (variant_type t f) more)

  new_apart : AreApart (field_ids t) (length news)
  new_apart = subst (AreApart (field_ids t)) (sym same) apart

  here : column_of_id (field_ids t) 0 id news ≡ get_or columns f [] ++ more
  here = own_column (field_ids t) news f new_apart (omega (arith, within, same)) ∙ own

  behind : (other : ℤ) → (rest : List Slot) × (column_of_id (field_ids t) 0 other news ≡ column_of_id (field_ids t) 0 other columns ++ rest)
  behind other = column_grown (field_ids t) 0 other columns news (λ g. field_part t g (run_rows t f more)) same grown

  pub run_behind : union_items (field_ids t) news new_types new_places ≡ union_items (field_ids t) columns types places ++ run_rows t f more
  run_behind =
      rows_behind (field_ids t) columns news types places id (get_or columns f []) more place n behind holds.spans holds.placed here at many

  pub holds_run : HoldsColumns t new_types new_places news
  holds_run =
      record {
        spans = omega (arith, length-append places (range_with_len place n), length-append types (replicate n id), length-range_with_len place n, length-replicate n id, holds.spans);
        known = subst (λ count. All (IsKnown (field_ids t) count) new_types) (sym same) (All-append (IsKnown (field_ids t) (length columns)) types (replicate n id) holds.known (known_run (field_ids t) (length columns) f n within));
        placed =
            let old : All (λ row. row.1 < length (column_of_id (field_ids t) 0 row.0 news)) (zip types places) = λ k d inside. (let row = get_or (zip types places) k d in let g = behind row.0 in omega (arith, holds.placed k d inside, ap length g.1, length-append (column_of_id (field_ids t) 0 row.0 columns) g.0)) in
            let run = run_placed (field_ids t) news id place n (omega (arith, ap length here, length-append (get_or columns f []) more, at, many)) in
            subst (All (λ row. row.1 < length (column_of_id (field_ids t) 0 row.0 news))) (sym (zip-append types (replicate n id) places (range_with_len place n) holds.spans)) (All-append (λ row. row.1 < length (column_of_id (field_ids t) 0 row.0 news)) (zip types places) (zip (replicate n id) (range_with_len place n)) old run);
        parts =
            λ g inside.
            let among : g < length columns = omega (arith, inside, same) in
            let rows = union_items (field_ids t) columns types places in
            grown g among ∙ ((λ j. holds.parts g among j ++ field_part t g (run_rows t f more)) ∙ (sym (part-append (mode_in t) (id_at (field_ids t) g) (variant_type t g) rows (run_rows t f more)) ∙ ap (field_part t g) (sym run_behind)));
      }
