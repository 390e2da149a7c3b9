-- Structs by index: each column by index, under the validity by index.
use Rattle.arrow_take.proofs.Common.{arith, ◌≡◌, ℕ, ◌<◌, ◌^◌, pos, Bool, true, false, Option, Some, None, List, [], ◌∷◌, length, map, get_or, if◌then◌else◌, refl, ap, sym, subst, ◌∙◌, slice_index_or, unwrap_or, All, get_or-map, length-map, All-map, get_or_from_slice_get, slice_get-get_or, slice_get_within, map-map, ArrowType, Fits, part_in, gather, gathered, masked, valid_at, Slot, Slots, Null, Number, more_slots, no_slots, null_slot, to_slots, FitsRows, any_array_rows, any_array_type, layout_of, AreKeys, IsKey, across, columns_of, rows, stacked, struct_items, to_layouts, FitsColumns, HaveRows, IsStruct, StructParts, row_count, row_of, struct_rows, AnyArray, columns_of-to_layouts, length-struct_rows, struct_row_null, struct_row_valid, MarksTaken, SomeDoNotFit, is_taken_valid, taken_rows, valid_index, column_long, column_of_fits, columns_fit, first_long, part_at, some_column, splat_is_map, each_key}
use Rattle.arrow_types.specs.Slot.{Parts as fields}
use Rattle.arrow_take.proofs.IndexLemmas.{Stores, fits_taken, length-gather, map-agree, named_valid, null_is_none, rows_taken}

-- columns of so many rows, read across
stacked-map : (a : Slot → Slot) (b : Slot → Slots) (indices : List Slot) → stacked (map a indices) (map b indices) ≡ map (λ s. more_slots (a s) (b s)) indices
stacked-map a b [] = refl
stacked-map a b (s ∷ indices) = ap (λ rs. more_slots (a s) (b s) ∷ rs) (stacked-map a b indices)

across-map : {A : Type 0} (h : A → Slot → Slot) (columns : List A) (indices : List Slot) → across (length indices) (map (λ c. map (h c) indices) columns) ≡ map (λ s. to_slots (map (λ c. h c s) columns)) indices
across-map h [] indices = splat_is_map indices (length indices) no_slots refl
across-map h (c ∷ columns) indices =
    ap (stacked (map (h c) indices)) (across-map h columns indices) ∙ stacked-map (h c) (λ s. to_slots (map (λ d. h d s) columns)) indices

-- the rows of structs whose columns are by index
items-map : {A : Type 0} (h : A → Slot → Slot) (columns : List A) (indices : List Slot) → 0 < length columns → struct_items (map (λ c. map (h c) indices) columns) ≡ map (λ s. fields (to_slots (map (λ c. h c s) columns))) indices
items-map h [] indices some = absurd (omega (arith, some))
items-map h (c ∷ columns) indices some =
    ap (λ n. map fields (across n (map (λ d. map (h d) indices) (c ∷ columns)))) (length-map indices (h c)) ∙ (ap (map fields) (across-map h (c ∷ columns) indices) ∙ map-map fields (λ s. to_slots (map (λ d. h d s) (c ∷ columns))) indices)

-- an index whose row is valid, or a null one, is an index
valid_key : (count : ℕ) (s : Slot) (b : Bool) → IsKey count s → IsKey count (if b then s else Null)
valid_key count s true key = key
valid_key count s false key = tt

pub valid_keys : (v : Option (List Bool)) (count : ℕ) (indices : List Slot) → AreKeys count indices → AreKeys count (map (valid_index v) indices)
valid_keys v count indices keys =
    All-map (IsKey count) (valid_index v) indices (λ k d within. valid_key count (get_or indices k d) (is_taken_valid v (get_or indices k d)) (keys k d within))

-- what holds of each that a function gives
all_of : {A B : Type 0} (P : B → Type 0) (f : A → B) (xs : List A) → All P (map f xs) → All (λ x. P (f x)) xs
all_of P f xs all =
    λ k d within. subst P (get_or-map f xs k d (f d) within) (all k (f d) (omega (arith, within, length-map xs f)))

-- structs, each of whose fields is taken by the indices whose row is valid
module _ (p : StructParts) (columns : List AnyArray) (held : IsStruct p) (children : map layout_of columns ≡ p.children) (none : null_slot p.arrow_type ≡ Null) (indices : List Slot) (keys : AreKeys (length (struct_rows p)) indices) where
  abbrev v : Option (List Bool)
  v = p.validity

  abbrev count : ℕ
  count = row_count p.children

  -- the row of a column that an index names
  abbrev by_index : AnyArray → Slot → Slot
  by_index c s = gathered (any_array_rows c) (any_array_type c) (valid_index v s)

  long : length (struct_rows p) ≡ count
  long = length-struct_rows p held

  some : 0 < length columns
  some = some_column p columns held children

  -- the same array without a validity
  abbrev bare : StructParts
  bare = record { arrow_type = p.arrow_type; validity = None; children = p.children }

  bare_held : IsStruct bare
  bare_held =
      record { kind = held.kind; children = held.children; some = held.some; fits = (held.fits.0, tt) }

  abbrev stored : Slot → Slot
  stored s = fields (to_slots (map (λ c. by_index c s) columns))

  -- an index of a valid row is itself, and another one is null
  index_is : (n : ℕ) → n < count → (b : Bool) → valid_at v n ≡ b → valid_index v (Number (pos n)) ≡ (if b then Number (pos n) else Null)
  index_is n within b is =
      ap (λ b. if b then Number (pos n) else Null) (sym (named_valid v n count held.fits.1 within) ∙ is)

  -- what a column has at a place
  read_column : (n : ℕ) → n < count → (k : ℕ) (d : AnyArray) → k < length columns → gathered (any_array_rows (get_or columns k d)) (any_array_type (get_or columns k d)) (Number (pos n)) ≡ slice_index_or (any_array_rows (get_or columns k d)) n Null
  read_column n within k d among =
      ap (λ o. unwrap_or o (null_slot (any_array_type (get_or columns k d)))) (slice_get-get_or (any_array_rows (get_or columns k d)) n Null (omega (arith, within, column_long p columns held children k d among)))

  row_stored : (n : ℕ) → n < count → valid_at v n ≡ true → row_of n p.children ≡ stored (Number (pos n))
  row_stored n within valid =
      let stays = ap (λ s. fields (to_slots (map (λ c. gathered (any_array_rows c) (any_array_type c) s) columns))) (index_is n within true valid) in
      let each = map-agree (λ c. gathered (any_array_rows c) (any_array_type c) (Number (pos n)) ≡ slice_index_or (any_array_rows c) n Null) (λ c. slice_index_or (any_array_rows c) n Null) (λ c. gathered (any_array_rows c) (any_array_type c) (Number (pos n))) (λ c is. sym is) columns (read_column n within) in
      ap (λ ls. fields (to_slots (map (λ l. slice_index_or (rows l) n Null) ls))) (sym children) ∙ (ap (λ ss. fields (to_slots ss)) (map-map (λ l. slice_index_or (rows l) n Null) layout_of columns ∙ each) ∙ sym stays)

  stores : Stores v (struct_rows bare) stored
  stores =
      λ n within valid.
      let among : n < count = omega (arith, within, length-struct_rows bare bare_held) in
      slice_get-get_or (struct_rows bare) n Null within ∙ ap Some (struct_row_valid bare n bare_held among refl ∙ row_stored n among valid)

  -- columns by index
  columns_by_index : (taken : List AnyArray) → map any_array_rows taken ≡ map (taken_rows (map (valid_index v) indices)) columns → columns_of (to_layouts (map layout_of taken)) ≡ map (λ c. map (by_index c) indices) columns
  columns_by_index taken are =
      columns_of-to_layouts (map layout_of taken) ∙ (map-map rows layout_of taken ∙ (are ∙ map-agree (λ c. Unit {0}) (taken_rows (map (valid_index v) indices)) (λ c. map (by_index c) indices) (λ c u. map-map (gathered (any_array_rows c) (any_array_type c)) (valid_index v) indices) columns (λ k d within. tt)))

  -- the structs by index
  pub fields_taken : (taken : List AnyArray) (validity : Option (List Bool)) → map any_array_rows taken ≡ map (taken_rows (map (valid_index v) indices)) columns → MarksTaken v indices validity → masked validity (struct_items (columns_of (to_layouts (map layout_of taken)))) ≡ gather (struct_rows p) indices p.arrow_type
  fields_taken taken validity are marks =
      let bare_long = length-struct_rows bare bare_held in
      ap (λ cs. masked validity (struct_items cs)) (columns_by_index taken are) ∙ (ap (masked validity) (items-map by_index columns indices some) ∙ rows_taken (struct_rows bare) p.arrow_type stored none v validity indices (subst (FitsRows v) (sym bare_long) held.fits.1) stores (subst (λ n. AreKeys n indices) (long ∙ sym bare_long) keys) marks)

  -- what rows by index have in a column
  part_stored : (u : ArrowType) (f : ℕ) (d : AnyArray) → f < length columns → any_array_type (get_or columns f d) ≡ u → (n : ℕ) → n < count → (b : Bool) → valid_at v n ≡ b → part_in f u (get_or (struct_rows p) n Null) ≡ by_index (get_or columns f d) (Number (pos n))
  part_stored u f d has is n within true valid =
      ap (part_in f u) (struct_row_valid p n held within valid ∙ row_stored n within valid) ∙ (part_at (map (λ c. by_index c (Number (pos n))) columns) f ∙ get_or-map (λ c. by_index c (Number (pos n))) columns f d Null has)
  part_stored u f d has is n within false unset =
      ap (part_in f u) (struct_row_null p n held within unset) ∙ (ap null_slot (sym is) ∙ sym (ap (gathered (any_array_rows (get_or columns f d)) (any_array_type (get_or columns f d))) (index_is n within false unset)))

  part_taken : (u : ArrowType) (f : ℕ) (d : AnyArray) → f < length columns → any_array_type (get_or columns f d) ≡ u → (s : Slot) → IsKey (length (struct_rows p)) s → part_in f u (gathered (struct_rows p) p.arrow_type s) ≡ by_index (get_or columns f d) s
  part_taken u f d has is =
      each_key (length (struct_rows p)) (λ s. part_in f u (gathered (struct_rows p) p.arrow_type s) ≡ by_index (get_or columns f d) s) (ap (part_in f u) none ∙ (ap null_slot (sym is) ∙ sym (ap (gathered (any_array_rows (get_or columns f d)) (any_array_type (get_or columns f d))) (ap (λ b. if b then Null else Null) (null_is_none v))))) (λ n within. ap (λ o. part_in f u (unwrap_or o (null_slot p.arrow_type))) (slice_get-get_or (struct_rows p) n Null within) ∙ part_stored u f d has is n (omega (arith, within, long)) (valid_at v n) refl)

  pub column_taken : (u : ArrowType) (f : ℕ) (d : AnyArray) → f < length columns → any_array_type (get_or columns f d) ≡ u → map (part_in f u) (gather (struct_rows p) indices p.arrow_type) ≡ taken_rows (map (valid_index v) indices) (get_or columns f d)
  column_taken u f d has is =
      map-map (part_in f u) (gathered (struct_rows p) p.arrow_type) indices ∙ (map-agree (IsKey (length (struct_rows p))) _ _ (part_taken u f d has is) indices keys ∙ sym (map-map (gathered (any_array_rows (get_or columns f d)) (any_array_type (get_or columns f d))) (valid_index v) indices))

  -- they fit where each column does
  pub fields_fit : length indices < 2 ^ 64 → All (λ c. Fits (any_array_type c) (taken_rows (map (valid_index v) indices) c)) columns → Fits p.arrow_type (gather (struct_rows p) indices p.arrow_type)
  fields_fit counted each =
      columns_fit p columns held children (gather (struct_rows p) indices p.arrow_type) (omega (arith, counted, length-map indices (gathered (struct_rows p) p.arrow_type))) (λ f d has. subst (Fits (any_array_type (get_or columns f d))) (sym (column_taken (any_array_type (get_or columns f d)) f d has refl)) (each f d has))

  -- the columns by index are of one length
  pub taken_fits : (taken : List AnyArray) (validity : Option (List Bool)) → map any_array_rows taken ≡ map (taken_rows (map (valid_index v) indices)) columns → MarksTaken v indices validity → FitsColumns (map layout_of taken) validity
  taken_fits taken validity are marks =
      let each = All-map (λ c. length c ≡ length indices) (taken_rows (map (valid_index v) indices)) columns (λ k d within. length-gather (any_array_rows (get_or columns k d)) (map (valid_index v) indices) (any_array_type (get_or columns k d)) ∙ length-map indices (valid_index v)) in
      let same = map-map rows layout_of taken ∙ are in
      let all = subst (All (λ c. length c ≡ length indices)) (sym same) each in
      let enough : 0 < length (map rows (map layout_of taken)) = omega (arith, ap length same, length-map columns (taken_rows (map (valid_index v) indices)), some) in
      let count = first_long (map rows (map layout_of taken)) (length indices) enough all in
      (subst (λ n. HaveRows n (map layout_of taken)) (sym count) (all_of (λ c. length c ≡ length indices) rows (map layout_of taken) all), subst (FitsRows validity) (sym count) (fits_taken v validity indices marks))

-- a struct that indices name rows of, its columns, the indices of these, and a validity by index
pub record TakesFields (p : StructParts) (columns : List AnyArray) (indices valid : List Slot) (validity : Option (List Bool)) : Type 0 where
  pub held : IsStruct p
  pub children : map layout_of columns ≡ p.children
  pub none : null_slot p.arrow_type ≡ Null
  pub keys : AreKeys (length (struct_rows p)) indices
  pub valid_are : valid ≡ map (valid_index p.validity) indices
  pub marks : MarksTaken p.validity indices validity

module _ {p : StructParts} {columns : List AnyArray} {indices valid : List Slot} {validity : Option (List Bool)} (takes : TakesFields p columns indices valid validity) where
  -- these name rows of each column
  pub columns_inside : All (λ c. AreKeys (length (any_array_rows c)) valid) columns
  columns_inside =
      λ k d within. subst (λ n. AreKeys n valid) (length-struct_rows p takes.held ∙ sym (column_long p columns takes.held takes.children k d within)) (subst (AreKeys (length (struct_rows p))) (sym takes.valid_are) (valid_keys p.validity (length (struct_rows p)) indices takes.keys))

  -- each column fits where the structs by index do
  pub fields_pass : SomeDoNotFit valid columns → Fits p.arrow_type (gather (struct_rows p) indices p.arrow_type) → ⊥
  fields_pass (k, c, read, over) fits =
      let has = slice_get_within columns k c read in
      let at = get_or_from_slice_get columns k c c read in
      let column = column_of_fits p columns takes.held takes.children (gather (struct_rows p) indices p.arrow_type) k c has fits in
      let rows = column_taken p columns takes.held takes.children takes.none indices takes.keys (any_array_type (get_or columns k c)) k c has refl ∙ ap (λ is. taken_rows is (get_or columns k c)) (sym takes.valid_are) in
      over (subst (λ e. Fits (any_array_type e) (taken_rows valid e)) at (subst (Fits (any_array_type (get_or columns k c))) rows column))

  -- and they where each column does
  pub struct_fits : length indices < 2 ^ 64 → All (λ c. Fits (any_array_type c) (taken_rows valid c)) columns → Fits p.arrow_type (gather (struct_rows p) indices p.arrow_type)
  struct_fits counted each =
      fields_fit p columns takes.held takes.children takes.none indices takes.keys counted (subst (λ is. All (λ c. Fits (any_array_type c) (taken_rows is c)) columns) takes.valid_are each)

  -- what the columns by index give
  module _ (taken : List AnyArray) (are : map any_array_rows taken ≡ map (taken_rows valid) columns) where
    by_index_are : map any_array_rows taken ≡ map (taken_rows (map (valid_index p.validity) indices)) columns
    by_index_are = are ∙ ap (λ is. map (taken_rows is) columns) takes.valid_are

    pub struct_taken : masked validity (struct_items (columns_of (to_layouts (map layout_of taken)))) ≡ gather (struct_rows p) indices p.arrow_type
    struct_taken =
        fields_taken p columns takes.held takes.children takes.none indices takes.keys taken validity by_index_are takes.marks

    pub taken_columns_fit : FitsColumns (map layout_of taken) validity
    taken_columns_fit =
        taken_fits p columns takes.held takes.children takes.none indices takes.keys taken validity by_index_are takes.marks
