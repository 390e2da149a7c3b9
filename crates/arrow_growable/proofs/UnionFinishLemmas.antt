-- Unions without rows, and the array that is made of the parts of one.
use Rattle.arrow_growable.proofs.Common.{arith, ◌≡◌, ◌<◌, ℕ, ℤ, pos, false, Option, Some, None, List, [], length, map, get_or, refl, ap, sym, subst, ◌∙◌, option_map, zip, get_or-map, length-map, All-nil, get_or-zip, length-zip, UnionMode, Dense, Sparse, ArrowType, Fits, Slot, id_at, Fits-nil, AnyArray, any_array_rows, any_array_type, layout_of, Layout, column_of_id, field_ids, rows, union_items, HaveRows, mode_in, FitsMode, FitsOffsets, HoldsUnion, IsInside, IsKnown, UnionParts, child_row_of, child_rows_of, mode_by, union_rows, rows_of_arrays, types_of_layouts, Grown, emptied_of, AreFew, HoldsVariants, IsUnionOver, absent, no_offsets, nth_grown, places_by, variant_rows, rows_of_all, part_of_id, variant_type, All}
use Rattle.arrow_growable.proofs.UnionGrowLemmas.{part_long, length_held, part_of_child}
use Rattle.arrow_growable.proofs.UnionRunLemmas.{rows_are}

-- children without rows, that have not failed
pub record IsBare (g : Grown) : Type 0 where
  pub rows : g.rows ≡ []
  pub well : g.failed ≡ false

pub emptied_bare : (gs : List Grown) → All IsBare (map emptied_of gs)
emptied_bare gs =
    λ k d within.
    let at : get_or (map emptied_of gs) k d ≡ emptied_of (get_or gs k d) = get_or-map emptied_of gs k d d (omega (arith, within, length-map gs emptied_of)) in
    subst IsBare (sym at) (record { rows = refl; well = refl })

-- what a union without rows says of its offsets and its children, in each mode
pub record SaysNone (mode : UnionMode) : Type 0 where
  pub natural : no_offsets mode ≡ option_map (map pos) (child_rows_of (no_offsets mode))
  pub places : places_by [] (no_offsets mode) ≡ []
  pub few : AreFew (no_offsets mode) 0
  pub mode_is : mode_by (child_rows_of (no_offsets mode)) ≡ mode
  pub parts : (id : ℤ) (t : ArrowType) → part_of_id mode id t [] ≡ []

pub says_none : (mode : UnionMode) → SaysNone mode
says_none Sparse = record { natural = refl; places = refl; few = tt; mode_is = refl; parts = λ id t. refl }
says_none Dense = record { natural = refl; places = refl; few = omega arith; mode_is = refl; parts = λ id t. refl }

-- they hold what a union without rows holds
pub holds_none : (t : ArrowType) (gs : List Grown) → All IsBare gs → HoldsVariants t [] (no_offsets (mode_in t)) gs
holds_none t gs bare =
    let offsets = no_offsets (mode_in t) in
    let none = says_none (mode_in t) in
    record {
      well = λ k d within. (let one = bare k d within in record { well = one.well; fits = subst (Fits (get_or gs k d).arrow_type) (sym one.rows) (Fits-nil (get_or gs k d).arrow_type) });
      natural = none.natural;
      few = λ f within. subst (λ xs. AreFew offsets (length xs)) (sym (bare f absent within).rows) none.few;
      rows = record {
        spans = ap length none.places;
        known = All-nil (IsKnown (field_ids t) (length (rows_of_all gs)));
        placed = λ k d within. absurd (omega (arith, within));
        parts =
            λ f within.
            let among : f < length gs = omega (arith, within, length-map gs (λ (g : Grown). g.rows)) in
            get_or-map (λ (g : Grown). g.rows) gs f absent [] among ∙ ((bare f absent among).rows ∙ sym (none.parts (id_at (field_ids t) f) (variant_type t f)));
      };
    }

-- the array of the rows

columns_are : (gs : List Grown) (values : List AnyArray) → map any_array_rows values ≡ map (λ g. g.rows) gs → map rows (map layout_of values) ≡ rows_of_all gs
columns_are gs values same = rows_of_arrays values ∙ same

values_long : (gs : List Grown) (values : List AnyArray) → map any_array_rows values ≡ map (λ g. g.rows) gs → length (map layout_of values) ≡ length gs
values_long gs values same =
    omega (arith, length-map values layout_of, length-map values any_array_rows, length-map gs (λ (g : Grown). g.rows), ap length same)

-- an offset that is natural lies inside where the place does
inside_by : (ids : Option (List ℤ)) (children : List Layout) (columns : List (List Slot)) (types : List ℤ) (ns : List ℕ) → map rows children ≡ columns → length ns ≡ length types → All (λ row. row.1 < length (column_of_id ids 0 row.0 columns)) (zip types ns) → All (λ row. IsInside ids children row.0 row.1) (zip types (map pos ns))
inside_by ids children columns types ns same long placed =
    λ k d within.
    let pairs = length-zip types (map pos ns) in
    let many = length-map ns pos in
    let few : k < length types = omega (arith, within, pairs, many, long) in
    let there : k < length ns = omega (arith, few, long) in
    let pair = get_or-zip types (map pos ns) k d few (omega (arith, there, many)) in
    let read = get_or-map pos ns k (child_row_of d.1) d.1 there in
    let old = placed k (d.0, child_row_of d.1) (omega (arith, few, there, length-zip types ns)) in
    let old_pair = get_or-zip types ns k (d.0, child_row_of d.1) few there in
    let below : get_or ns k (child_row_of d.1) < length (column_of_id ids 0 (get_or types k d.0) columns) = subst (λ (row : ℤ × ℕ). row.1 < length (column_of_id ids 0 row.0 columns)) old_pair old in
    let below_rows : get_or ns k (child_row_of d.1) < length (column_of_id ids 0 (get_or types k d.0) (map rows children)) = subst (λ cs. get_or ns k (child_row_of d.1) < length (column_of_id ids 0 (get_or types k d.0) cs)) (sym same) below in
    subst (λ (row : ℤ × ℤ). IsInside ids children row.0 row.1) (sym pair) (subst (λ z. IsInside ids children (get_or types k d.0) z) (sym read) (λ known. below_rows))

offsets_inside : (ids : Option (List ℤ)) (children : List Layout) (columns : List (List Slot)) (types : List ℤ) (offsets : Option (List ℤ)) → map rows children ≡ columns → offsets ≡ option_map (map pos) (child_rows_of offsets) → length (places_by types offsets) ≡ length types → All (λ row. row.1 < length (column_of_id ids 0 row.0 columns)) (zip types (places_by types offsets)) → FitsOffsets ids children types offsets
offsets_inside ids children columns types None same natural long placed = tt
offsets_inside ids children columns types (Some os) same natural long placed =
    let is : os ≡ map pos (map child_row_of os) = cc in
    subst (λ zs. All (λ row. IsInside ids children row.0 row.1) (zip types zs)) (sym is) (inside_by ids children columns types (map child_row_of os) same long placed)

fits_mode : (mode : UnionMode) (types : List ℤ) (offsets : Option (List ℤ)) (children : List Layout) → mode ≡ mode_by (child_rows_of offsets) → length (places_by types offsets) ≡ length types → (mode ≡ Sparse → HaveRows (length types) children) → FitsMode mode types offsets children
fits_mode Sparse types None children mode long have = have refl
fits_mode Dense types (Some os) children mode long have = sym (length-map os child_row_of) ∙ long
fits_mode _ types offsets children mode long have = cc

module _ (t : ArrowType) (types : List ℤ) (offsets : Option (List ℤ)) (gs : List Grown) (values : List AnyArray) (over : IsUnionOver t offsets gs) (holds : HoldsVariants t types offsets gs) (types_are : map any_array_type values ≡ map (λ g. g.arrow_type) gs) (rows_same : map any_array_rows values ≡ map (λ g. g.rows) gs) where
  have_rows : mode_in t ≡ Sparse → HaveRows (length types) (map layout_of values)
  have_rows sparse =
      λ k d within.
      let among : k < length gs = omega (arith, within, values_long gs values rows_same) in
      let read : rows (get_or (map layout_of values) k d) ≡ (nth_grown gs k).rows = sym (get_or-map rows (map layout_of values) k d [] within) ∙ (ap (λ cs. get_or cs k []) (columns_are gs values rows_same) ∙ get_or-map (λ (g : Grown). g.rows) gs k absent [] among) in
      ap length (read ∙ part_of_child t types offsets gs holds k among) ∙ (part_long (mode_in t) (id_at (field_ids t) k) (variant_type t k) (variant_rows t types offsets gs) sparse ∙ length_held t types offsets gs holds)

  -- the parts are those of an array
  pub holds_array : HoldsUnion t types (map layout_of values) offsets
  holds_array = (
    over.kind,
    types_of_layouts values ∙ (types_are ∙ over.types),
    fits_mode (mode_in t) types offsets (map layout_of values) over.mode holds.rows.spans have_rows,
    offsets_inside (field_ids t) (map layout_of values) (rows_of_all gs) types offsets (columns_are gs values rows_same) holds.natural holds.rows.spans holds.rows.placed,
    subst (λ n. All (IsKnown (field_ids t) n) types) (length-map gs (λ (g : Grown). g.rows) ∙ sym (values_long gs values rows_same)) holds.rows.known,
  )

  -- and its rows are these
  pub rows_in_array : (array : UnionParts) → array ≡ (record { arrow_type = t; types = types; child_rows = child_rows_of offsets; start = 0; children = map layout_of values }) → (array.arrow_type ≡ t) × (union_rows array ≡ variant_rows t types offsets gs)
  rows_in_array array is =
      (ap (λ p. p.arrow_type) is, ap union_rows is ∙ (rows_are (record { arrow_type = t; types = types; child_rows = child_rows_of offsets; start = 0; children = map layout_of values }) ∙ ap (λ cs. union_items (field_ids t) cs types (places_by types offsets)) (columns_are gs values rows_same)))
