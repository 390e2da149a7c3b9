-- Rows of a sparse union behind others: what each child holds of them, field by field.
use Rattle.arrow_growable.proofs.Common.{arith, ◌≡◌, ◌+◌, ◌<◌, ◌≤◌, ℕ, zero, suc, ℤ, pos, Bool, true, false, Option, None, List, [], ◌∷◌, ◌++◌, drop, length, map, replicate, get_or, inl, inr, if◌then◌else◌, refl, ap, sym, subst, ◌∙◌, set, range_with_len, zip, int_eq, Decides-int_eq, append-nil, get_or-map, get_or_default, length-map, same_lists, All-drop, All-take, get_or-range_with_len, length-range_with_len, length-zip, Sparse, ArrowType, Fits, sparse_part, mask, Slot, Null, Variant, id_at, null_slot, sliced, length-sliced, sliced-cut, column_of_id, field_ids, rows, type_of_layout, union_items, variant_at, field_types, mode_in, IsKnown, SpansRows, UnionParts, child_rows_by, rows_of_field, union_rows, Grown, appended, AnyGrowable, grown_of, GrownBy, SameBound, bound_rows, BindsFields, GrownFields, SomeFieldRefused, GrowsVariants, HoldsVariants, IsUnionOver, nth_grown, variant_rows, rows_of_all, HoldsColumns, IsSparse, field_part, have_id, part_of_id, run_rows, variant_type, range-sliced, union_items-sliced, All, append_assoc, length-append}
use Rattle.arrow_growable.proofs.UnionChildLemmas.{grown_well, set_bound, set_rows, set_well}
use Rattle.arrow_growable.proofs.UnionGrowLemmas.{as_many, column_is, columns_long, part_long, type_there, with_rows_here, with_rows_long, with_rows_there, part_of_child}
use Rattle.arrow_growable.proofs.UnionRunLemmas.{none_there, one_is, rows_are}
use Rattle.arrow_growable.proofs.UnionTypeLemmas.{before_or_same, ids_apart, variant_fits}
use Rattle.arrow_growable.proofs.VariantColumns.{AreApart, holds_run, own_column, run_behind}
use Rattle.arrow_growable.proofs.VariantLemmas.{part-append, range-append}

-- a row of one of so many fields, by its type id
pub record IsRowOf (ids : Option (List ℤ)) (count : ℕ) (x : Slot) (id : ℤ) : Type 0 where
  pub field : ℕ
  pub within : field < count
  pub id_is : id ≡ id_at ids field
  pub slot : Slot
  pub row : x ≡ Variant id slot

-- rows behind those that columns hold, of which each column gets what they hold of its field
module _ (t : ArrowType) (sparse : mode_in t ≡ Sparse) where
  abbrev ids_of : Option (List ℤ)
  ids_of = field_ids t

  abbrev items : List (List Slot) → List ℤ → List Slot
  items columns types = union_items ids_of columns types (range_with_len 0 (length types))

  abbrev Held : List ℤ → List (List Slot) → Type 0
  Held types columns = HoldsColumns t types (range_with_len 0 (length types)) columns

  part_nil : (g : ℕ) → field_part t g [] ≡ []
  part_nil g = ap (λ m. part_of_id m (id_at ids_of g) (variant_type t g) []) sparse

  part_more : (g : ℕ) (x : Slot) (xs : List Slot) → field_part t g (x ∷ xs) ≡ field_part t g (x ∷ []) ++ field_part t g xs
  part_more g x xs = part-append (mode_in t) (id_at ids_of g) (variant_type t g) (x ∷ []) xs

  items_long : (columns : List (List Slot)) (types : List ℤ) → length (items columns types) ≡ length types
  items_long columns types =
      let places = range_with_len 0 (length types) in
      length-map (zip types places) (λ row. variant_at ids_of columns row.0 row.1) ∙ omega (arith, length-zip types places, length-range_with_len 0 (length types))

  abbrev next : List (List Slot) → Slot → List (List Slot)
  next columns x =
      map (λ g. get_or columns g [] ++ field_part t g (x ∷ [])) (range_with_len 0 (length columns))

  next_long : (columns : List (List Slot)) (x : Slot) → length (next columns x) ≡ length columns
  next_long columns x =
      length-map (range_with_len 0 (length columns)) (λ g. get_or columns g [] ++ field_part t g (x ∷ [])) ∙ length-range_with_len 0 (length columns)

  next_at : (columns : List (List Slot)) (x : Slot) (g : ℕ) → g < length columns → get_or (next columns x) g [] ≡ get_or columns g [] ++ field_part t g (x ∷ [])
  next_at columns x g within =
      let f = λ (h : ℕ). get_or columns h [] ++ field_part t h (x ∷ []) in
      let at : 0 + g ≡ g = omega arith in
      get_or-map f (range_with_len 0 (length columns)) g 0 [] (omega (arith, within, length-range_with_len 0 (length columns))) ∙ ap f (get_or-range_with_len 0 (length columns) g 0 within ∙ at)

  pub rows_behind : (more : List Slot) (ids types : List ℤ) (columns news : List (List Slot)) → Held types columns → AreApart ids_of (length columns) → length ids ≡ length more → ((i : ℕ) → i < length more → IsRowOf ids_of (length columns) (get_or more i Null) (get_or ids i (pos 0))) → length news ≡ length columns → ((g : ℕ) → g < length columns → get_or news g [] ≡ get_or columns g [] ++ field_part t g more) → Held (types ++ ids) news × (items news (types ++ ids) ≡ items columns types ++ more)
  rows_behind [] [] types columns news holds apart many named same grown =
      let news_are : news ≡ columns = same_lists news columns same (λ i d within.
      let inside : i < length columns = omega (arith, within, same) in
      get_or_default news i d [] within ∙ (grown i inside ∙ (ap (λ ys. get_or columns i [] ++ ys) (part_nil i) ∙ (append-nil (get_or columns i []) ∙ sym (get_or_default columns i d [] inside))))) in
      let none : types ++ [] ≡ types = append-nil types in
      (subst {A = List ℤ × List (List Slot)} (λ q. Held q.0 q.1) (λ j. (sym none j, sym news_are j)) holds, (λ j. items (news_are j) (none j)) ∙ sym (append-nil (items columns types)))
  rows_behind (x ∷ more) (id ∷ ids) types columns news holds apart many named same grown =
      let row = named 0 (omega arith) in
      let f = row.field in
      let mid = next columns x in
      let places = range_with_len 0 (length types) in
      let here : run_rows t f (row.slot ∷ []) ≡ x ∷ [] = (λ j. Variant (sym row.id_is j) row.slot ∷ []) ∙ ap (λ y. y ∷ []) (sym row.row) in
      let at : length types ≡ length (get_or columns f []) = sym (ap length (holds.parts f row.within) ∙ (part_long (mode_in t) (id_at ids_of f) (variant_type t f) (items columns types) sparse ∙ items_long columns types)) in
      let step_grown : (g : ℕ) → g < length columns → get_or mid g [] ≡ get_or columns g [] ++ field_part t g (run_rows t f (row.slot ∷ [])) = λ g inside. next_at columns x g inside ∙ ap (λ xs. get_or columns g [] ++ field_part t g xs) (sym here) in
      let ids_are : types ++ replicate 1 (id_at ids_of f) ≡ types ++ id ∷ [] = ap (λ k. types ++ k ∷ []) (sym row.id_is) in
      let from : 0 + length types ≡ length types = omega arith in
      let places_are : places ++ range_with_len (length types) 1 ≡ range_with_len 0 (length (types ++ id ∷ [])) = (λ j. places ++ range_with_len (sym from j) 1) ∙ (sym (range-append 0 (length types) 1) ∙ ap (range_with_len 0) (sym (length-append types (id ∷ [])))) in
      let step = holds_run t types places columns mid f (length types) 1 (row.slot ∷ []) holds apart row.within (next_long columns x) step_grown at refl in
      let held : Held (types ++ id ∷ []) mid = subst {A = List ℤ × List ℕ} (λ q. HoldsColumns t q.0 q.1 mid) (λ j. (ids_are j, places_are j)) step in
      let made : items mid (types ++ id ∷ []) ≡ items columns types ++ x ∷ [] = (λ j. union_items ids_of mid (sym ids_are j) (sym places_are j)) ∙ (run_behind t types places columns mid f (length types) 1 (row.slot ∷ []) holds apart row.within (next_long columns x) step_grown at refl ∙ ap (λ ys. items columns types ++ ys) here) in
      let tail : (i : ℕ) → i < length more → IsRowOf ids_of (length mid) (get_or more i Null) (get_or ids i (pos 0)) = λ i within. subst (λ n. IsRowOf ids_of n (get_or more i Null) (get_or ids i (pos 0))) (sym (next_long columns x)) (named (suc i) (omega (arith, within))) in
      let grows : (g : ℕ) → g < length mid → get_or news g [] ≡ get_or mid g [] ++ field_part t g more = λ g inside.
      let among : g < length columns = omega (arith, inside, next_long columns x) in
      grown g among ∙ (ap (λ ys. get_or columns g [] ++ ys) (part_more g x more) ∙ (sym (append_assoc (get_or columns g []) (field_part t g (x ∷ [])) (field_part t g more)) ∙ ap (λ c. c ++ field_part t g more) (sym (next_at columns x g among)))) in
      let rest = rows_behind more ids (types ++ id ∷ []) mid news held (subst (AreApart ids_of) (sym (next_long columns x)) apart) (omega (arith, many)) tail (same ∙ sym (next_long columns x)) grows in
      let assoc : (types ++ id ∷ []) ++ ids ≡ types ++ id ∷ ids = append_assoc types (id ∷ []) ids in
      (subst (λ ts. Held ts news) assoc rest.0, (λ j. items news (sym assoc j)) ∙ (rest.1 ∙ (ap (λ ys. ys ++ more) made ∙ append_assoc (items columns types) (x ∷ []) more)))
  rows_behind more ids types columns news holds apart many named same grown = absurd (omega (arith, many))

-- rows one behind the other in each child, by their type ids
module _ (ids : Option (List ℤ)) (columns : List (List Slot)) where
  pub rows_known : (types : List ℤ) (place : ℕ) (count : ℕ) → All (IsKnown ids count) types → (i : ℕ) → i < length types → IsRowOf ids count (get_or (union_items ids columns types (range_with_len place (length types))) i Null) (get_or types i (pos 0))
  rows_known [] place count known i within = absurd (omega (arith, within))
  rows_known (id ∷ types) place count known zero within =
      let one = known 0 id (omega arith) in
      record { field = one.0; within = one.1; id_is = sym one.2; slot = get_or (column_of_id ids 0 id columns) place Null; row = refl }
  rows_known (id ∷ types) place count known (suc i) within =
      rows_known types (place + 1) count (λ k d inside. known (suc k) d (omega (arith, inside))) i (omega (arith, within))

-- what a field holds of them: its rows where they are its own, and nulls elsewhere
choose : (b : Bool) (x y n m : Slot) → (b ≡ true → x ≡ y) → n ≡ m → (if b then x else n) ≡ (if b then y else m)
choose true x y n m own null = own refl
choose false x y n m own null = null

module _ (ids : Option (List ℤ)) (columns : List (List Slot)) (apart : AreApart ids (length columns)) (g : ℕ) (within : g < length columns) (u : ArrowType) (null : null_slot u ≡ Null) where
  abbrev own_id : ℤ
  own_id = id_at ids g

  abbrev col : List Slot
  col = get_or columns g []

  pub part_under : (types : List ℤ) (place : ℕ) → place + length types ≤ length col → map (sparse_part own_id u) (union_items ids columns types (range_with_len place (length types))) ≡ mask (have_id own_id types) (sliced col place (length types))
  part_under [] place inside = refl
  part_under (id ∷ types) place inside =
      let own : int_eq own_id id ≡ true → get_or (column_of_id ids 0 id columns) place Null ≡ get_or col place Null = λ told. ap (λ k. get_or (column_of_id ids 0 k columns) place Null) (sym ((Decides-int_eq own_id id).0 told)) ∙ ap (λ c. get_or c place Null) (own_column ids columns g apart within) in
      let head = choose (int_eq own_id id) (get_or (column_of_id ids 0 id columns) place Null) (get_or col place Null) (null_slot u) Null own null in
      let rest = part_under types (place + 1) (omega (arith, inside)) in
      let one : suc (length types) ≡ 1 + length types = omega arith in
      let cut : sliced col place (suc (length types)) ≡ get_or col place Null ∷ sliced col (place + 1) (length types) = ap (sliced col place) one ∙ (sliced-cut col place 1 (length types) ∙ ap (λ ys. ys ++ sliced col (place + 1) (length types)) (one_is col place Null (omega (arith, inside)))) in
      (λ j. head j ∷ rest j) ∙ sym (ap (mask (have_id own_id (id ∷ types))) cut)

-- one field more
pub field_next : (t : ArrowType) (more : List Slot) (gs : List Grown) (xs : List AnyGrowable) (k : ℕ) (x : AnyGrowable) (part : List Slot) → k < length xs → GrownFields t more gs (map grown_of xs) k → GrownBy (nth_grown (map grown_of xs) k) (grown_of x) part → part ≡ field_part t k more → SameBound (nth_grown (map grown_of xs) k) (grown_of x) → GrownFields t more gs (map grown_of (set xs k x)) (k + 1)
field_next t more gs xs k x part within so_far grows part_is same =
    let olds = map grown_of xs in
    let inside : k < length olds = omega (arith, within, length-map xs grown_of) in
    let set_is = set_rows xs k x part within grows.grown in
    let bound = set_bound xs k x same in
    let here : nth_grown (map grown_of (set xs k x)) k ≡ appended (nth_grown gs k) (field_part t k more) = ap (λ ns. nth_grown ns k) set_is ∙ (with_rows_here k part olds inside ∙ (λ j. appended (so_far.others k (omega arith) j) (part_is j))) in
    record {
      width = ap length set_is ∙ (with_rows_long k part olds ∙ so_far.width);
      grown =
          λ f before among.
          elim (before_or_same f k) [
            | inl less ↦ ap (λ ns. nth_grown ns f) set_is ∙ (with_rows_there k f part olds (λ is. omega (arith, less, is)) ∙ so_far.grown f less among)
            | inr rest ↦ elim rest [ inl is ↦ subst (λ h. nth_grown (map grown_of (set xs k x)) h ≡ appended (nth_grown gs h) (field_part t h more)) (sym is) here | inr over ↦ absurd (omega (arith, over, before)) ]
          ];
      others =
          λ f from.
          ap (λ ns. nth_grown ns f) set_is ∙ (with_rows_there k f part olds (λ is. omega (arith, from, is)) ∙ so_far.others f (omega (arith, from)));
      well = set_well xs k x so_far.well (grown_well grows);
      kept = record { same_types = bound.same_types ∙ so_far.kept.same_types; same_sources = bound.same_sources ∙ so_far.kept.same_sources };
    }

-- rows of a sparse union from row start on
module _ (p : UnionParts) (sparse : IsSparse p) (start len : ℕ) (part : start + len ≤ length p.types) where
  abbrev all_ids : Option (List ℤ)
  all_ids = field_ids p.arrow_type

  abbrev cols : List (List Slot)
  cols = map rows p.children

  abbrev named : List ℤ
  named = sliced p.types start len

  named_long : length named ≡ len
  named_long = length-sliced p.types start len part

  pub rows_named : sliced (union_rows p) start len ≡ union_items all_ids cols named (range_with_len (p.start + start) (length named))
  rows_named =
      let places = child_rows_by p.child_rows p.start (length p.types) in
      let at : sliced places start len ≡ range_with_len (p.start + start) (length named) = ap (λ r. sliced (child_rows_by r p.start (length p.types)) start len) sparse.child_rows ∙ (range-sliced p.start (length p.types) start len part ∙ ap (range_with_len (p.start + start)) (sym named_long)) in
      ap (λ xs. sliced xs start len) (rows_are p) ∙ (sym (union_items-sliced all_ids cols p.types places start len) ∙ ap (union_items all_ids cols named) at)

  pub rows_long : length (sliced (union_rows p) start len) ≡ length named
  rows_long =
      let places = range_with_len (p.start + start) (length named) in
      ap length rows_named ∙ (length-map (zip named places) (λ row. variant_at all_ids cols row.0 row.1) ∙ omega (arith, length-zip named places, length-range_with_len (p.start + start) (length named)))

  pub named_known : (i : ℕ) → i < length (sliced (union_rows p) start len) → IsRowOf all_ids (length p.children) (get_or (sliced (union_rows p) start len) i Null) (get_or named i (pos 0))
  named_known i within =
      let known = All-take (IsKnown all_ids (length p.children)) len (drop start p.types) (All-drop (IsKnown all_ids (length p.children)) start p.types sparse.known) in
      subst (λ xs. IsRowOf all_ids (length p.children) (get_or xs i Null) (get_or named i (pos 0))) (sym rows_named) (rows_known all_ids cols named (p.start + start) (length p.children) known i (omega (arith, within, rows_long)))

  field_is : (f : ℕ) → f < length p.children → null_slot (variant_type p.arrow_type f) ≡ Null → mask (have_id (id_at all_ids f) named) (sliced (rows_of_field p.children f) (p.start + start) len) ≡ field_part p.arrow_type f (sliced (union_rows p) start len)
  field_is f within null =
      let id = id_at all_ids f in
      let u = variant_type p.arrow_type f in
      let col = rows_of_field p.children f in
      let columns_long : length cols ≡ length p.children = length-map p.children rows in
      let fields_long : length p.children ≡ length (field_types p.arrow_type) = sym (length-map p.children type_of_layout) ∙ ap length sparse.fields in
      let apart = subst (AreApart all_ids) (sym (columns_long ∙ fields_long)) (ids_apart p.arrow_type sparse.kind) in
      let spans = subst (λ r. SpansRows r p.start (length p.types) p.children) sparse.child_rows sparse.spans in
      let long = ap length (get_or-map rows p.children f none_there [] within) in
      let inside : p.start + start + length named ≤ length col = omega (arith, spans f none_there within, long, named_long, part) in
      let under = part_under all_ids cols apart f (omega (arith, within, columns_long)) u null named (p.start + start) inside in
      sym (ap (λ m. part_of_id m id u (sliced (union_rows p) start len)) sparse.mode ∙ (ap (map (sparse_part id u)) rows_named ∙ (under ∙ ap (λ n. mask (have_id id named) (sliced col (p.start + start) n)) named_long)))

  -- behind those that are held
  module _ (types : List ℤ) (gs : List Grown) (over : IsUnionOver p.arrow_type None gs) (holds : HoldsVariants p.arrow_type types None gs) where
    abbrev more : List Slot
    more = sliced (union_rows p) start len

    pub grows_fields : (i : ℕ) (new_types : List ℤ) (news : List Grown) → BindsFields p i gs → new_types ≡ types ++ named → GrownFields p.arrow_type more gs news (length gs) → GrowsVariants p.arrow_type types None gs new_types None news more
    grows_fields i new_types news bound types_are fields =
        let olds = rows_of_all gs in
        let nows = rows_of_all news in
        let many : length p.children ≡ length olds = sym (columns_long gs ∙ bound.width) in
        let apart = subst (AreApart all_ids) (sym (columns_long gs ∙ as_many p.arrow_type gs over.types)) (ids_apart p.arrow_type over.kind) in
        let known : (k : ℕ) → k < length more → IsRowOf all_ids (length olds) (get_or more k Null) (get_or named k (pos 0)) = λ k within. subst (λ n. IsRowOf all_ids n (get_or more k Null) (get_or named k (pos 0))) many (named_known k within) in
        let grown : (g : ℕ) → g < length olds → get_or nows g [] ≡ get_or olds g [] ++ field_part p.arrow_type g more = λ g inside.
        let among : g < length gs = omega (arith, inside, columns_long gs) in
        column_is news g (omega (arith, among, fields.width)) ∙ (ap (λ (h : Grown). h.rows) (fields.grown g among among) ∙ ap (λ xs. xs ++ field_part p.arrow_type g more) (sym (column_is gs g among))) in
        let behind = rows_behind p.arrow_type sparse.mode more named types olds nows holds.rows apart (sym rows_long) known (columns_long news ∙ (fields.width ∙ sym (columns_long gs))) grown in
        subst (λ ts. GrowsVariants p.arrow_type types None gs ts None news more) (sym types_are) (record { holds = record { well = fields.well; natural = refl; few = λ g within. tt; rows = behind.0 }; rows = behind.1 })

    pub fields_refused : SomeFieldRefused p.arrow_type more gs → Fits p.arrow_type (variant_rows p.arrow_type types None gs ++ more) → ⊥
    fields_refused refused fits =
        let f = refused.0 in
        let within = refused.1 in
        let held = variant_rows p.arrow_type types None gs in
        let u = variant_type p.arrow_type f in
        let both = (variant_fits p.arrow_type f (held ++ more) over.kind.1 (omega (arith, within, as_many p.arrow_type gs over.types)) fits).1 in
        let parts : field_part p.arrow_type f (held ++ more) ≡ (nth_grown gs f).rows ++ field_part p.arrow_type f more = part-append (mode_in p.arrow_type) (id_at all_ids f) u held more ∙ ap (λ xs. xs ++ field_part p.arrow_type f more) (sym (part_of_child p.arrow_type types None gs holds f within)) in
        refused.2 (subst {A = ArrowType × List Slot} (λ q. Fits q.0 q.1) (λ j. (sym (type_there p.arrow_type gs f over.types within) j, parts j)) both)

-- a loop over the fields has come to field k: its child, as the loop has it and as it was, and the bits of its own rows
pub record AtField (p : UnionParts) (i : ℕ) (gs : List Grown) (xs : List AnyGrowable) (k : ℕ) (e : AnyGrowable) (start len : ℕ) (own : List Bool) : Type 0 where
  pub sparse : IsSparse p
  pub part : start + len ≤ length p.types
  pub bound : BindsFields p i gs
  pub within : k < length xs
  pub inside : k < length gs
  pub read : nth_grown (map grown_of xs) k ≡ grown_of (get_or xs k e)
  pub was : nth_grown gs k ≡ grown_of (get_or xs k e)
  pub own_is : own ≡ have_id (id_at (field_ids p.arrow_type) k) (sliced p.types start len)

module _ (p : UnionParts) (i : ℕ) (gs : List Grown) (xs : List AnyGrowable) (k : ℕ) (e : AnyGrowable) (start len : ℕ) (own : List Bool) (at : AtField p i gs xs k e start len own) where
  pub own_long : length own ≡ len
  own_long =
      ap length at.own_is ∙ (length-map (sliced p.types start len) (int_eq (id_at (field_ids p.arrow_type) k)) ∙ length-sliced p.types start len at.part)

  pub field_named : (first : ℕ) → first ≡ p.start + start → null_slot (grown_of (get_or xs k e)).arrow_type ≡ Null → mask own (sliced (bound_rows (grown_of (get_or xs k e)) i) first (length own)) ≡ field_part p.arrow_type k (sliced (union_rows p) start len)
  field_named first is null =
      let rows_of = ap (λ g. bound_rows g i) (sym at.was) ∙ at.bound.rows k at.inside in
      let type_is = ap (λ (g : Grown). g.arrow_type) (sym at.was) ∙ at.bound.types k at.inside in
      (λ j. mask (at.own_is j) (sliced (rows_of j) (is j) (own_long j))) ∙ field_is p at.sparse start len at.part k (omega (arith, at.inside, at.bound.width)) (ap null_slot (sym type_is) ∙ null)
