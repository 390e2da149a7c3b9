-- Rows behind those of a growable of arrays with children, by how its rows lie in these.
use Rattle.arrow_growable.proofs.Common.{arith, ◌≡◌, ◌+◌, ◌*◌, ◌<◌, ◌≤◌, ◌^◌, ℕ, zero, suc, Bool, false, List, [], ◌∷◌, ◌++◌, Option, length, map, flat_map, replicate, get_or, slice_index, refl, ap, sym, subst, ◌∙◌, mul-le-mul_left, mul-le-mul_right, All-map, append-nil, length-map, length-replicate, PhysicalType, ArrowType, plain, null, Fits, fixed_items_in, physical_type_of, mask, Slot, Null, Parts, null_slot, Fits-nil, length-mask, null_slot-no_union, last_of, with_valid_rows, sliced, bits_of_slice, length-chunks, chunks, Layout, Layouts, across, fielded, fixed, from_layouts, items_row, listed, rows, type_of_layout, ListParts, list_size, list_shape, shape_in, shape_of, fits_count, Grown, FitsItself, FitsWith, appended, empty_over, null_rows_of, valid_values, GrownBy, IsWell, bound_rows, grown_by, grown_by_nulls, spread, Form, by_fields, by_offsets, by_size, child_type, child_types, column_in, first_column, items_by, nested_rows, null_slots_by, IsFormOf, IsSoundForm, PassesGreatest, emptied, form_with, form_with_nulls, HoldsLists, IsListType, lists_rows, HoldsEven, HoldsNested, rows_of_all, IsOfForm, IsWhole, children_in, no_child, nth_child, nulls_in, place_in, validity_in, All, length-append, map-map}
use Rattle.arrow_types.specs.declared.datatypes.physical_type.PhysicalType.TheVariants as physical
use Rattle.arrow_growable.specs.Source.{offsets_in}
use Rattle.arrow_growable.proofs.ChildLemmas.{appended_none}
use Rattle.arrow_growable.proofs.ColumnLemmas.{column-nil, field_column, fits_fields, fits_sized, list_child_types, size_fits, sized_column}
use Rattle.arrow_growable.proofs.EvenLemmas.{column_of, fields_behind, fields_named, no_grown, owns_long, sized_behind, sized_named}
use Rattle.arrow_growable.proofs.FieldLemmas.{Column, across_long, field_of_nulls, fields_nulls}
use Rattle.arrow_growable.proofs.FixedSizeLemmas.{fixed_nulls, fixed_of_nulls}
use Rattle.arrow_growable.proofs.ListLemmas.{holds_counts, holds_fits, holds_more, holds_none, holds_nulls, items_refuse, nulls_appended, offsets_refuse, rows_appended}
use Rattle.arrow_growable.proofs.NestedLemmas.{as_many, bits_long, even_grown, even_refused, type_of_child}
use Rattle.arrow_growable.proofs.SpreadLemmas.{length-spread, row_places, size_places, spread-valid}

-- the arrays whose rows lie so
abbrev pub LiesSo : PhysicalType → Form → Type 0
LiesSo physical.List (by_offsets os) = Unit {0}
LiesSo physical.LargeList (by_offsets os) = Unit {0}
LiesSo physical.Map (by_offsets os) = Unit {0}
LiesSo physical.FixedSizeList (by_size s) = Unit {0}
LiesSo physical.Struct by_fields = Unit {0}
LiesSo _ _ = ⊥

lists_lie : (arrays : PhysicalType) → LiesSo arrays (by_offsets (0 ∷ [])) → IsListType arrays × (shape_of arrays ≡ list_shape)
lists_lie physical.List lies = (tt, refl)
lists_lie physical.LargeList lies = (tt, refl)
lists_lie physical.Map lies = (tt, refl)
lists_lie _ lies = absurd lies

sized_lie : (arrays : PhysicalType) (s : ℕ) → LiesSo arrays (by_size s) → arrays ≡ physical.FixedSizeList
sized_lie physical.FixedSizeList s lies = refl
sized_lie _ s lies = absurd lies

fields_lie : (arrays : PhysicalType) → LiesSo arrays by_fields → arrays ≡ physical.Struct
fields_lie physical.Struct lies = refl
fields_lie _ lies = absurd lies

-- of the shape of lists
shape_lists : (t : ArrowType) (arrays : PhysicalType) → LiesSo arrays (by_offsets (0 ∷ [])) → physical_type_of t ≡ arrays → shape_in t ≡ list_shape
shape_lists t arrays lies kind = ap shape_of kind ∙ (lists_lie arrays lies).1

-- a growable that holds rows, and the type
pub record Holds (arrays : PhysicalType) (form : Form) (children : List Grown) (bits : List Bool) (len : ℕ) (t : ArrowType) : Type 0 where
  pub lies : LiesSo arrays (emptied form)
  pub kind : physical_type_of t ≡ arrays
  pub size : IsFormOf t form
  pub sound : IsSoundForm arrays form
  pub types : map (λ g. g.arrow_type) children ≡ child_types t
  pub holds : HoldsNested form children bits len t

-- rows of a source that is bound to it
pub record Names (arrays : PhysicalType) (form : Form) (children : List Grown) (bits : List Bool) (len : ℕ) (t : ArrowType) (l : Layout) (index start n : ℕ) : Type 0 where
  pub grown : Holds arrays form children bits len t
  pub of_form : IsOfForm form l
  pub of_type : type_of_layout l ≡ t
  pub whole : IsWhole l
  pub width : length (children_in l) ≡ length children
  pub inside : start + n ≤ length (rows l)
  pub mates : (f : ℕ) (d : Grown) → f < length children → bound_rows (get_or children f d) index ≡ rows (nth_child f l)

-- what it holds with rows behind
pub record Grows (form new_form : Form) (children news : List Grown) (bits new_bits : List Bool) (new_len : ℕ) (t : ArrowType) (named : List Slot) : Type 0 where
  pub holds : HoldsNested new_form news new_bits new_len t
  pub rows : nested_rows new_form new_bits (rows_of_all news) ≡ nested_rows form bits (rows_of_all children) ++ named

-- a size that is the type's is the growable's
same_size : (arrays : PhysicalType) (s z : ℕ) (t u : ArrowType) → IsFormOf t (by_size s) → z ≡ list_size u → u ≡ t → z ≡ s
same_size arrays s z t u size whole of_type = whole ∙ (ap list_size of_type ∙ sym size)

-- the one child of a list of any form
one_child : (children : List Grown) (t : ArrowType) → shape_in t ≡ list_shape → map (λ c. c.arrow_type) children ≡ child_types t → length children ≡ 1
one_child children t shape types = as_many children t types ∙ ap length (list_child_types t shape)

alone : {arrays : PhysicalType} {s : ℕ} {children : List Grown} {bits : List Bool} {len : ℕ} {t : ArrowType} → Holds arrays (by_size s) children bits len t → length children ≡ 1
alone {arrays} {s} {children} {bits} {len} {t} holds =
    one_child children t (ap shape_of (holds.kind ∙ sized_lie arrays s holds.lies)) holds.types

-- a list, as its parts
abbrev parts_of : ArrowType → Option (List Bool) → List ℕ → Layout → ListParts
parts_of u v offsets c = record { arrow_type = u; validity = v; offsets = offsets; child = c }

-- the one child of lists with what rows of others name of it: what is valid of their items
lists_child : (child : Grown) (more : List Bool) (offsets : List ℕ) (index start : ℕ) (xs : List Slot) → bound_rows child index ≡ xs → FitsItself (grown_by 0 more (slice_index offsets) index start child) → GrownBy child (grown_by 0 more (slice_index offsets) index start child) (valid_values more offsets xs start)
lists_child child more offsets index start xs mate fits =
    record {
      grown = ap (appended child) (ap (λ ys. spread 0 (null_slot child.arrow_type) more (slice_index offsets) ys start) mate ∙ spread-valid (null_slot child.arrow_type) more offsets xs start);
      fits = fits;
    }

-- rows of a source behind those of a growable

grows_lists : (arrays : PhysicalType) (os : List ℕ) (child : Grown) (bits : List Bool) (len : ℕ) (t u : ArrowType) (v : Option (List Bool)) (offsets : List ℕ) (c : Layout) (index start n : ℕ) → Names arrays (by_offsets os) (child ∷ []) bits len t (listed u v offsets c) index start n → FitsItself (grown_by 0 (bits_of_slice v start n) (slice_index offsets) index start child) → Grows (by_offsets os) (by_offsets (with_valid_rows os (bits_of_slice v start n) offsets start)) (child ∷ []) (grown_by 0 (bits_of_slice v start n) (slice_index offsets) index start child ∷ []) bits (bits ++ bits_of_slice v start n) (len + n) t (sliced (rows (listed u v offsets c)) start n)
grows_lists arrays os child bits len t u v offsets c index start n names fits =
    let w = names.whole in
    let inside : start + n < length offsets = omega (arith, names.inside, w.3) in
    let grown = lists_child child (bits_of_slice v start n) offsets index start (rows c) (names.mates 0 child (omega arith)) fits in
    let new_os = with_valid_rows os (bits_of_slice v start n) offsets start in
    record {
      holds = holds_more os child bits len names.grown.sound.0 names.grown.holds (parts_of u v offsets c) start n w.0 w.1 w.2 inside _ grown;
      rows = ap (λ g. lists_rows (bits ++ bits_of_slice v start n) new_os g.rows) grown.grown ∙ rows_appended os child bits len names.grown.sound.0 names.grown.holds (parts_of u v offsets c) start n w.0 w.1 w.2 inside;
    }

-- how many rows each child of fixed-size lists or structs gets
many_sized : (s : ℕ) (none : Slot) (more : List Bool) (xs : List Slot) (start n : ℕ) → length more ≡ n → (start + n) * s ≤ length xs → length (spread s none more (λ k. k * s) xs start) ≡ n * s
many_sized s none more xs start n long room =
    length-spread s none (λ k. k * s) xs (start + n) (size_places s (start + n) (length xs) room) (λ k within. omega arith) more start (omega (arith, long)) ∙ ap (λ k. k * s) long

many_fields : (none : Slot) (more : List Bool) (xs : List Slot) (start n : ℕ) → length more ≡ n → start + n ≤ length xs → length (spread 1 none more (λ k. k) xs start) ≡ n * 1
many_fields none more xs start n long room =
    length-spread 1 none (λ k. k) xs (start + n) (row_places (start + n) (length xs) room) (λ k within. refl) more start (omega (arith, long)) ∙ ap (λ k. k * 1) long

-- what rows of a fixed-size list name of the one child, and rows behind others
module _ (arrays : PhysicalType) (s : ℕ) (g : Grown) (bits : List Bool) (len : ℕ) (t : ArrowType) (v : Option (List Bool)) (c : Layout) (index start n : ℕ) (names : Names arrays (by_size s) (g ∷ []) bits len t (fixed t v s c) index start n) where
  abbrev sized_bits : List Bool
  sized_bits = bits_of_slice v start n

  sized_columns : (f : ℕ) (d : Grown) → f < 1 → column_in t f (sliced (rows (fixed t v s c)) start n) ≡ spread s (null_slot (get_or (g ∷ []) f d).arrow_type) sized_bits (λ k. k * s) (bound_rows (get_or (g ∷ []) f d) index) start
  sized_columns zero d within =
      let one = type_of_child (g ∷ []) t names.grown.types 0 d within in
      sized_named t v s c start n names.whole names.inside (names.grown.kind ∙ sized_lie arrays s names.grown.lies) ∙ (λ j. spread s (null_slot (sym one j)) sized_bits (λ k. k * s) (sym (names.mates 0 d within) j) start)
  sized_columns (suc f) d within = absurd (omega (arith, within))

  sized_full : length bits * s ≡ length g.rows
  sized_full =
      ap (λ k. k * s) names.grown.holds.counted ∙ sym (names.grown.holds.whole 0 g (omega arith))

  sized_many : (f : ℕ) (d : Grown) → f < 1 → length (spread s (null_slot (get_or (g ∷ []) f d).arrow_type) sized_bits (λ k. k * s) (bound_rows (get_or (g ∷ []) f d) index) start) ≡ n * s
  sized_many zero d within =
      let room : (start + n) * s ≤ length (rows c) = omega (arith, names.whole.2, mul-le-mul_right s names.inside) in
      many_sized s (null_slot g.arrow_type) sized_bits (bound_rows g index) start n (bits_long (fixed t v s c) start n names.whole names.inside) (subst (λ xs. (start + n) * s ≤ length xs) (sym (names.mates 0 d within)) room)
  sized_many (suc f) d within = absurd (omega (arith, within))

  grows_sized : All FitsItself (map (grown_by s sized_bits (λ k. k * s) index start) (g ∷ [])) → Grows (by_size s) (by_size s) (g ∷ []) (map (grown_by s sized_bits (λ k. k * s) index start) (g ∷ [])) bits (bits ++ sized_bits) (len + n) t (sliced (rows (fixed t v s c)) start n)
  grows_sized fits =
      let behind = sized_behind t v s c start n names.whole names.inside g index bits sized_full (names.mates 0 g (omega arith)) in
      record {
        holds = even_grown (by_size s) s (g ∷ []) bits len t names.grown.holds names.grown.types (λ h. spread s (null_slot h.arrow_type) sized_bits (λ k. k * s) (bound_rows h index) start) (sliced (rows (fixed t v s c)) start n) sized_columns sized_bits n (bits_long (fixed t v s c) start n names.whole names.inside) sized_many behind fits;
        rows = behind;
      }

  sized_refused : (f : ℕ) (d : Grown) → f < 1 → (FitsWith (get_or (g ∷ []) f d) (spread s (null_slot (get_or (g ∷ []) f d).arrow_type) sized_bits (λ k. k * s) (bound_rows (get_or (g ∷ []) f d) index) start) → ⊥) → Fits t (nested_rows (by_size s) bits (rows_of_all (g ∷ [])) ++ sliced (rows (fixed t v s c)) start n) → ⊥
  sized_refused f d within =
      even_refused (by_size s) s (g ∷ []) bits len t names.grown.holds names.grown.types (λ h. spread s (null_slot h.arrow_type) sized_bits (λ k. k * s) (bound_rows h index) start) (sliced (rows (fixed t v s c)) start n) sized_columns f d within

-- and of a struct
module _ (arrays : PhysicalType) (children : List Grown) (bits : List Bool) (len : ℕ) (t : ArrowType) (v : Option (List Bool)) (cs : Layouts) (index start n : ℕ) (names : Names arrays by_fields children bits len t (fielded t v cs) index start n) where
  abbrev field_bits : List Bool
  field_bits = bits_of_slice v start n

  field_columns : (f : ℕ) (d : Grown) → f < length children → column_in t f (sliced (rows (fielded t v cs)) start n) ≡ spread 1 (null_slot (get_or children f d).arrow_type) field_bits (λ k. k) (bound_rows (get_or children f d) index) start
  field_columns f d within =
      let one = type_of_child children t names.grown.types f d within in
      fields_named t v cs start n names.whole names.inside (names.grown.kind ∙ fields_lie arrays names.grown.lies) f (omega (arith, within, names.width)) ∙ (λ j. spread 1 (null_slot (sym one j)) field_bits (λ k. k) (sym (names.mates f d within) j) start)

  field_many : (f : ℕ) (d : Grown) → f < length children → length (spread 1 (null_slot (get_or children f d).arrow_type) field_bits (λ k. k) (bound_rows (get_or children f d) index) start) ≡ n * 1
  field_many f d within =
      let there : f < length (from_layouts cs) = omega (arith, within, names.width) in
      many_fields (null_slot (get_or children f d).arrow_type) field_bits (bound_rows (get_or children f d) index) start n (bits_long (fielded t v cs) start n names.whole names.inside) (omega (arith, ap length (names.mates f d within), names.whole.1 f no_child there, names.inside))

  grows_fields : All FitsItself (map (grown_by 1 field_bits (λ k. k) index start) children) → Grows by_fields by_fields children (map (grown_by 1 field_bits (λ k. k) index start) children) bits (bits ++ field_bits) (len + n) t (sliced (rows (fielded t v cs)) start n)
  grows_fields fits =
      let behind = fields_behind t v cs start n names.whole names.inside children index bits len names.grown.holds.counted names.grown.holds.whole names.width names.mates in
      record {
        holds = even_grown by_fields 1 children bits len t names.grown.holds names.grown.types (λ h. spread 1 (null_slot h.arrow_type) field_bits (λ k. k) (bound_rows h index) start) (sliced (rows (fielded t v cs)) start n) field_columns field_bits n (bits_long (fielded t v cs) start n names.whole names.inside) field_many behind fits;
        rows = behind;
      }

  fields_refused : (f : ℕ) (d : Grown) → f < length children → (FitsWith (get_or children f d) (spread 1 (null_slot (get_or children f d).arrow_type) field_bits (λ k. k) (bound_rows (get_or children f d) index) start) → ⊥) → Fits t (nested_rows by_fields bits (rows_of_all children) ++ sliced (rows (fielded t v cs)) start n) → ⊥
  fields_refused f d within =
      even_refused by_fields 1 children bits len t names.grown.holds names.grown.types (λ h. spread 1 (null_slot h.arrow_type) field_bits (λ k. k) (bound_rows h index) start) (sliced (rows (fielded t v cs)) start n) field_columns f d within

-- the same type and size as the growable's
sized_names : (arrays : PhysicalType) (z : ℕ) (children : List Grown) (bits : List Bool) (len : ℕ) (t u : ArrowType) (v : Option (List Bool)) (s : ℕ) (c : Layout) (index start n : ℕ) → Names arrays (by_size z) children bits len t (fixed u v s c) index start n → Names arrays (by_size s) children bits len t (fixed t v s c) index start n
sized_names arrays z children bits len t u v s c index start n names =
    let one = same_size arrays z s t u names.grown.size names.whole.0 names.of_type in
    subst {A = ℕ × ArrowType} (λ q. Names arrays (by_size q.0) children bits len t (fixed q.1 v s c) index start n) (λ j. (sym one j, names.of_type j)) names

field_names : (arrays : PhysicalType) (children : List Grown) (bits : List Bool) (len : ℕ) (t u : ArrowType) (v : Option (List Bool)) (cs : Layouts) (index start n : ℕ) → Names arrays by_fields children bits len t (fielded u v cs) index start n → Names arrays by_fields children bits len t (fielded t v cs) index start n
field_names arrays children bits len t u v cs index start n names =
    subst (λ w. Names arrays by_fields children bits len t (fielded w v cs) index start n) names.of_type names

-- rows of a source behind those of a growable, whichever way they lie
pub grows : (arrays : PhysicalType) (form : Form) (children : List Grown) (bits : List Bool) (len : ℕ) (t : ArrowType) (l : Layout) (index start n : ℕ) → Names arrays form children bits len t l index start n → All FitsItself (map (grown_by (nulls_in l) (bits_of_slice (validity_in l) start n) (place_in l) index start) children) → Grows form (form_with form (bits_of_slice (validity_in l) start n) (offsets_in l) start) children (map (grown_by (nulls_in l) (bits_of_slice (validity_in l) start n) (place_in l) index start) children) bits (bits ++ bits_of_slice (validity_in l) start n) (len + n) t (sliced (rows l) start n)
grows arrays (by_offsets os) [] bits len t l index start n names fits = absurd names.grown.holds
grows arrays (by_offsets os) (child ∷ []) bits len t (listed u v offsets c) index start n names fits =
    grows_lists arrays os child bits len t u v offsets c index start n names (fits 0 child (omega arith))
grows arrays (by_offsets os) (child ∷ other ∷ rest) bits len t l index start n names fits = absurd names.grown.holds
grows arrays (by_size z) [] bits len t l index start n names fits = absurd (omega (arith, alone names.grown))
grows arrays (by_size z) (g ∷ []) bits len t (fixed u v s c) index start n names fits =
    let one = same_size arrays z s t u names.grown.size names.whole.0 names.of_type in
    subst (λ y. Grows (by_size y) (by_size y) (g ∷ []) (map (grown_by s (bits_of_slice v start n) (λ k. k * s) index start) (g ∷ [])) bits (bits ++ bits_of_slice v start n) (len + n) t (sliced (rows (fixed u v s c)) start n)) one (grows_sized arrays s g bits len t v c index start n (sized_names arrays z (g ∷ []) bits len t u v s c index start n names) fits)
grows arrays (by_size z) (g ∷ h ∷ rest) bits len t l index start n names fits = absurd (omega (arith, alone names.grown))
grows arrays by_fields children bits len t (fielded u v cs) index start n names fits =
    grows_fields arrays children bits len t v cs index start n (field_names arrays children bits len t u v cs index start n names) fits
grows arrays form children bits len t l index start n names fits = absurd names.of_form

-- where a child can't hold what they name of it, the rows do not fit
pub child_refused : (arrays : PhysicalType) (form : Form) (children : List Grown) (bits : List Bool) (len : ℕ) (t : ArrowType) (l : Layout) (index start n : ℕ) → Names arrays form children bits len t l index start n → (f : ℕ) (d : Grown) → f < length children → (FitsWith (get_or children f d) (spread (nulls_in l) (null_slot (get_or children f d).arrow_type) (bits_of_slice (validity_in l) start n) (place_in l) (bound_rows (get_or children f d) index) start) → ⊥) → Fits t (nested_rows form bits (rows_of_all children) ++ sliced (rows l) start n) → ⊥
child_refused arrays (by_offsets os) [] bits len t l index start n names f d within over fits = names.grown.holds
child_refused arrays (by_offsets os) (child ∷ []) bits len t (listed u v offsets c) index start n names zero d within over fits =
    let w = names.whole in
    let inside : start + n < length offsets = omega (arith, names.inside, w.3) in
    let is_list = (lists_lie arrays names.grown.lies).0 in
    let of_items = type_of_child (child ∷ []) t names.grown.types 0 child (omega arith) ∙ ap (λ ts. get_or ts 0 (plain null)) (list_child_types t (shape_lists t arrays names.grown.lies names.grown.kind)) in
    items_refuse os child bits len names.grown.sound.0 names.grown.holds (parts_of u v offsets c) start n w.0 w.1 w.2 inside arrays t is_list names.grown.kind of_items (λ fit. over (subst (FitsWith child) (sym (ap (λ ys. spread 0 (null_slot child.arrow_type) (bits_of_slice v start n) (slice_index offsets) ys start) (names.mates 0 d within) ∙ spread-valid (null_slot child.arrow_type) (bits_of_slice v start n) offsets (rows c) start)) fit)) fits
child_refused arrays (by_offsets os) (child ∷ []) bits len t (listed u v offsets c) index start n names (suc f) d within over fits = absurd (omega (arith, within))
child_refused arrays (by_offsets os) (child ∷ other ∷ rest) bits len t l index start n names f d within over fits = names.grown.holds
child_refused arrays (by_size z) [] bits len t l index start n names f d within over fits = absurd (omega (arith, within))
child_refused arrays (by_size z) (g ∷ []) bits len t (fixed u v s c) index start n names f d within over fits =
    let one = same_size arrays z s t u names.grown.size names.whole.0 names.of_type in
    sized_refused arrays s g bits len t v c index start n (sized_names arrays z (g ∷ []) bits len t u v s c index start n names) f d within over (subst (λ y. Fits t (nested_rows (by_size y) bits (rows_of_all (g ∷ [])) ++ sliced (rows (fixed u v s c)) start n)) (sym one) fits)
child_refused arrays (by_size z) (g ∷ h ∷ rest) bits len t l index start n names f d within over fits = omega (arith, alone names.grown)
child_refused arrays by_fields children bits len t (fielded u v cs) index start n names f d within over fits =
    fields_refused arrays children bits len t v cs index start n (field_names arrays children bits len t u v cs index start n names) f d within over fits
child_refused arrays form children bits len t l index start n names f d within over fits = names.of_form

-- nor do they where the last offset would pass the greatest
pub offsets_refused : (arrays : PhysicalType) (form : Form) (children : List Grown) (bits : List Bool) (len : ℕ) (t : ArrowType) (l : Layout) (index start n : ℕ) → Names arrays form children bits len t l index start n → PassesGreatest arrays form (bits_of_slice (validity_in l) start n) (offsets_in l) start → Fits t (nested_rows form bits (rows_of_all children) ++ sliced (rows l) start n) → ⊥
offsets_refused arrays (by_offsets os) (child ∷ []) bits len t (listed u v offsets c) index start n names passes fits =
    let w = names.whole in
    let inside : start + n < length offsets = omega (arith, names.inside, w.3) in
    let of_items = type_of_child (child ∷ []) t names.grown.types 0 child (omega arith) ∙ ap (λ ts. get_or ts 0 (plain null)) (list_child_types t (shape_lists t arrays names.grown.lies names.grown.kind)) in
    offsets_refuse os child bits len names.grown.sound.0 names.grown.holds (parts_of u v offsets c) start n w.0 w.1 w.2 inside arrays t (lists_lie arrays names.grown.lies).0 names.grown.kind of_items passes fits
offsets_refused arrays (by_offsets os) (child ∷ []) bits len t _ index start n names passes fits = names.of_form
offsets_refused arrays (by_size z) children bits len t l index start n names passes fits = passes
offsets_refused arrays by_fields children bits len t l index start n names passes fits = passes
offsets_refused arrays form children bits len t l index start n names passes fits = names.grown.holds

-- a growable counts its rows
pub counts : (form : Form) (children : List Grown) (bits : List Bool) (len : ℕ) (t : ArrowType) → HoldsNested form children bits len t → len ≡ length (nested_rows form bits (rows_of_all children))
counts (by_offsets os) (child ∷ []) bits len t holds = holds_counts os child bits len holds
counts (by_size s) children bits len t holds =
    let items = items_by (by_size s) (length bits) (rows_of_all children) in
    let long : length items ≡ length bits = length-map (chunks (length bits) s (first_column (rows_of_all children))) items_row ∙ length-chunks (length bits) s (first_column (rows_of_all children)) in
    omega (arith, length-mask bits items (sym long), long, holds.counted)
counts by_fields children bits len t holds =
    let items = items_by by_fields (length bits) (rows_of_all children) in
    let full : All (λ c. length c ≡ length bits) (rows_of_all children) = All-map (λ c. length c ≡ length bits) (λ g. g.rows) children (λ f d within. omega (arith, holds.whole f d within, holds.counted)) in
    let long : length items ≡ length bits = length-map (across (length bits) (rows_of_all children)) Parts ∙ across_long (length bits) (rows_of_all children) full in
    omega (arith, length-mask bits items (sym long), long, holds.counted)
counts form children bits len t holds = absurd holds

-- what a child holds fits
child_fits : (form : Form) (w : ℕ) (children : List Grown) (bits : List Bool) (len : ℕ) (t : ArrowType) → HoldsEven form w children bits len t → map (λ g. g.arrow_type) children ≡ child_types t → (f : ℕ) → f < length children → Fits (child_type t f) (column_in t f (nested_rows form bits (rows_of_all children)))
child_fits form w children bits len t holds types f within =
    subst {A = ArrowType × List Slot} (λ q. Fits q.0 q.1) (λ j. (type_of_child children t types f no_grown within j, sym (holds.columns f no_grown within) j)) (holds.well f no_grown within).fits

-- its rows fit
pub fits_rows : (arrays : PhysicalType) (form : Form) (children : List Grown) (bits : List Bool) (len : ℕ) (t : ArrowType) → Holds arrays form children bits len t → len < 2 ^ 64 → Fits t (nested_rows form bits (rows_of_all children))
fits_rows arrays (by_offsets os) (child ∷ []) bits len t holds few =
    let of_items = type_of_child (child ∷ []) t holds.types 0 child (omega arith) ∙ ap (λ ts. get_or ts 0 (plain null)) (list_child_types t (shape_lists t arrays holds.lies holds.kind)) in
    holds_fits os child bits len holds.sound.0 holds.holds arrays t (lists_lie arrays holds.lies).0 holds.kind of_items holds.sound.1 few
fits_rows arrays (by_size s) [] bits len t holds few = absurd (omega (arith, alone holds))
fits_rows arrays (by_size s) (g ∷ rest) bits len t holds few =
    let kind = holds.kind ∙ sized_lie arrays s holds.lies in
    let count = counts (by_size s) (g ∷ rest) bits len t holds.holds in
    let full = holds.holds.whole 0 g (omega arith) in
    let items = fits_count g.arrow_type g.rows (holds.holds.well 0 g (omega arith)).fits in
    let turned : s * len ≡ len * s = omega arith in
    fits_sized t (nested_rows (by_size s) bits (rows_of_all (g ∷ rest))) kind (omega (arith, few, count)) (subst {A = ℕ × ℕ} (λ q. q.0 * q.1 < 2 ^ 64) (λ j. (holds.size j, count j)) (omega (arith, full, items, turned))) (child_fits (by_size s) s (g ∷ rest) bits len t holds.holds holds.types 0 (omega arith))
fits_rows arrays by_fields children bits len t holds few =
    fits_fields t (nested_rows by_fields bits (rows_of_all children)) (holds.kind ∙ fields_lie arrays holds.lies) (omega (arith, few, counts by_fields children bits len t holds.holds)) (λ f within. child_fits by_fields 1 children bits len t holds.holds holds.types f (omega (arith, within, as_many children t holds.types)))
fits_rows arrays form children bits len t holds few = absurd holds.holds

-- null rows behind

-- no union has children that grow so far
null_is : (arrays : PhysicalType) (form : Form) (t : ArrowType) → LiesSo arrays form → physical_type_of t ≡ arrays → null_slot t ≡ Null
null_is arrays form t lies kind =
    null_slot-no_union t (λ union. subst (λ a. LiesSo a form) (sym kind ∙ union) lies)

-- what null rows name of a child
sized_nulls : (arrays : PhysicalType) (s : ℕ) (g : Grown) (bits : List Bool) (len : ℕ) (t : ArrowType) (n : ℕ) → Holds arrays (by_size s) (g ∷ []) bits len t → (f : ℕ) (d : Grown) → f < 1 → column_in t f (replicate n Null) ≡ null_rows_of (get_or (g ∷ []) f d) (n * s)
sized_nulls arrays s g bits len t n holds zero d within =
    let one = type_of_child (g ∷ []) t holds.types 0 d within in
    sized_column t (replicate n Null) (holds.kind ∙ sized_lie arrays s holds.lies) ∙ (ap (λ z. flat_map (fixed_items_in z (child_type t 0)) (replicate n Null)) (sym holds.size) ∙ (fixed_of_nulls s (child_type t 0) n ∙ ap (λ u. replicate (n * s) (null_slot u)) (sym one)))
sized_nulls arrays s g bits len t n holds (suc f) d within = absurd (omega (arith, within))

field_nulls : (arrays : PhysicalType) (children : List Grown) (bits : List Bool) (len : ℕ) (t : ArrowType) (n : ℕ) → Holds arrays by_fields children bits len t → (f : ℕ) (d : Grown) → f < length children → column_in t f (replicate n Null) ≡ null_rows_of (get_or children f d) (n * 1)
field_nulls arrays children bits len t n holds f d within =
    field_column t f (replicate n Null) (holds.kind ∙ fields_lie arrays holds.lies) ∙ (field_of_nulls f (child_type t f) n ∙ ap (λ u. replicate (n * 1) (null_slot u)) (sym (type_of_child children t holds.types f d within)))

-- how many rows null slots are
many_nulls : (n : ℕ) (children : List Grown) (f : ℕ) (d : Grown) → f < length children → length (null_rows_of (get_or children f d) n) ≡ n
many_nulls n children f d within = length-replicate n (null_slot (get_or children f d).arrow_type)

fields_null_rows : (children : List Grown) (bits : List Bool) (len n : ℕ) → length bits ≡ len → All (λ g. length g.rows ≡ len * 1) children → nested_rows by_fields (bits ++ replicate n false) (rows_of_all (map (grown_by_nulls (n * 1)) children)) ≡ nested_rows by_fields bits (rows_of_all children) ++ replicate n Null
fields_null_rows children bits len n counted full =
    let more = replicate n false in
    let grown = map-map (λ (g : Grown). g.rows) (grown_by_nulls (n * 1)) children ∙ sym (map-map (λ (c : Column). c.own ++ replicate (n * 1) c.none) (column_of 0) children) in
    let owned = map-map (λ (c : Column). c.own) (column_of 0) children in
    ap (λ xs. mask (bits ++ more) (map Parts (across (length (bits ++ more)) xs))) grown ∙ (fields_nulls bits (map (column_of 0) children) n (owns_long 0 children bits len counted full) ∙ ap (λ xs. mask bits (map Parts (across (length bits) xs)) ++ replicate n Null) owned)

-- with null slots behind each child
pub grows_nulls : (arrays : PhysicalType) (form : Form) (children : List Grown) (bits : List Bool) (len : ℕ) (t : ArrowType) (n : ℕ) → Holds arrays form children bits len t → All FitsItself (map (grown_by_nulls (n * null_slots_by form)) children) → Grows form (form_with_nulls form n) children (map (grown_by_nulls (n * null_slots_by form)) children) bits (bits ++ replicate n false) (len + n) t (replicate n (null_slot t))
grows_nulls arrays (by_offsets os) (child ∷ []) bits len t n holds fits =
    let none : n * 0 ≡ 0 = omega arith in
    let same : grown_by_nulls (n * 0) child ≡ child = ap (λ k. grown_by_nulls k child) none ∙ appended_none child holds.holds.child.well in
    record {
      holds = subst (λ g. HoldsLists (os ++ replicate n (last_of os)) g (bits ++ replicate n false) (len + n)) (sym same) (holds_nulls os child bits len holds.sound.0 holds.holds n);
      rows = ap (λ g. lists_rows (bits ++ replicate n false) (os ++ replicate n (last_of os)) g.rows) same ∙ (nulls_appended os child bits len holds.sound.0 holds.holds n ∙ ap (λ s. lists_rows bits os child.rows ++ replicate n s) (sym (null_is arrays (by_offsets (0 ∷ [])) t holds.lies holds.kind)));
    }
grows_nulls arrays (by_size s) [] bits len t n holds fits = absurd (omega (arith, alone holds))
grows_nulls arrays (by_size s) (g ∷ []) bits len t n holds fits =
    let full : length bits * s ≡ length g.rows = ap (λ k. k * s) holds.holds.counted ∙ sym (holds.holds.whole 0 g (omega arith)) in
    let behind = fixed_nulls s (null_slot g.arrow_type) bits g.rows n full in
    subst (λ slot. Grows (by_size s) (by_size s) (g ∷ []) (map (grown_by_nulls (n * s)) (g ∷ [])) bits (bits ++ replicate n false) (len + n) t (replicate n slot)) (sym (null_is arrays (by_size s) t holds.lies holds.kind)) (record {
      holds = even_grown (by_size s) s (g ∷ []) bits len t holds.holds holds.types (λ h. null_rows_of h (n * s)) (replicate n Null) (sized_nulls arrays s g bits len t n holds) (replicate n false) n (length-replicate n false) (many_nulls (n * s) (g ∷ [])) behind fits;
      rows = behind;
    })
grows_nulls arrays (by_size s) (g ∷ h ∷ rest) bits len t n holds fits = absurd (omega (arith, alone holds))
grows_nulls arrays by_fields children bits len t n holds fits =
    let behind = fields_null_rows children bits len n holds.holds.counted holds.holds.whole in
    subst (λ slot. Grows by_fields by_fields children (map (grown_by_nulls (n * 1)) children) bits (bits ++ replicate n false) (len + n) t (replicate n slot)) (sym (null_is arrays by_fields t holds.lies holds.kind)) (record {
      holds = even_grown by_fields 1 children bits len t holds.holds holds.types (λ h. null_rows_of h (n * 1)) (replicate n Null) (field_nulls arrays children bits len t n holds) (replicate n false) n (length-replicate n false) (many_nulls (n * 1) children) behind fits;
      rows = behind;
    })
grows_nulls arrays form children bits len t n holds fits = absurd holds.holds

-- where a child can't hold its null slots, the rows do not fit
pub nulls_refused : (arrays : PhysicalType) (form : Form) (children : List Grown) (bits : List Bool) (len : ℕ) (t : ArrowType) (n : ℕ) → Holds arrays form children bits len t → (f : ℕ) (d : Grown) → f < length children → (FitsWith (get_or children f d) (null_rows_of (get_or children f d) (n * null_slots_by form)) → ⊥) → Fits t (nested_rows form bits (rows_of_all children) ++ replicate n (null_slot t)) → ⊥
nulls_refused arrays (by_offsets os) (child ∷ []) bits len t n holds zero d within over fits =
    let none : n * 0 ≡ 0 = omega arith in
    over (subst (Fits child.arrow_type) (sym (ap (λ k. child.rows ++ replicate k (null_slot child.arrow_type)) none ∙ append-nil child.rows)) holds.holds.child.fits)
nulls_refused arrays (by_offsets os) (child ∷ []) bits len t n holds (suc f) d within over fits = omega (arith, within)
nulls_refused arrays (by_size s) [] bits len t n holds f d within over fits = omega (arith, within)
nulls_refused arrays (by_size s) (g ∷ []) bits len t n holds f d within over fits =
    even_refused (by_size s) s (g ∷ []) bits len t holds.holds holds.types (λ h. null_rows_of h (n * s)) (replicate n Null) (sized_nulls arrays s g bits len t n holds) f d within over (subst (λ slot. Fits t (nested_rows (by_size s) bits (rows_of_all (g ∷ [])) ++ replicate n slot)) (null_is arrays (by_size s) t holds.lies holds.kind) fits)
nulls_refused arrays (by_size s) (g ∷ h ∷ rest) bits len t n holds f d within over fits = omega (arith, alone holds)
nulls_refused arrays by_fields children bits len t n holds f d within over fits =
    even_refused by_fields 1 children bits len t holds.holds holds.types (λ h. null_rows_of h (n * 1)) (replicate n Null) (field_nulls arrays children bits len t n holds) f d within over (subst (λ slot. Fits t (nested_rows by_fields bits (rows_of_all children) ++ replicate n slot)) (null_is arrays by_fields t holds.lies holds.kind) fits)
nulls_refused arrays form children bits len t n holds f d within over fits = holds.holds

-- nor do they where the slots can't be counted
pub slots_refused : (arrays : PhysicalType) (form : Form) (children : List Grown) (bits : List Bool) (len : ℕ) (t : ArrowType) (n : ℕ) → Holds arrays form children bits len t → n < 2 ^ 64 → 2 ^ 64 ≤ n * null_slots_by form → Fits t (nested_rows form bits (rows_of_all children) ++ replicate n (null_slot t)) → ⊥
slots_refused arrays (by_offsets os) children bits len t n holds few over fits =
    let none : n * 0 ≡ 0 = omega arith in
    omega (arith, none, over)
slots_refused arrays (by_size s) children bits len t n holds few over fits =
    let all = nested_rows (by_size s) bits (rows_of_all children) in
    let sized = size_fits t (all ++ replicate n (null_slot t)) (holds.kind ∙ sized_lie arrays s holds.lies) fits in
    let long : n ≤ length (all ++ replicate n (null_slot t)) = omega (arith, length-append all (replicate n (null_slot t)), length-replicate n (null_slot t)) in
    let turned : n * s ≡ s * n = omega arith in
    omega (arith, over, turned, subst (λ z. z * length (all ++ replicate n (null_slot t)) < 2 ^ 64) (sym holds.size) sized, mul-le-mul_left s long)
slots_refused arrays by_fields children bits len t n holds few over fits =
    let same : n * 1 ≡ n = omega arith in
    omega (arith, same, few, over)

-- no row

-- each child is without rows
abbrev pub AreEmpty : List Grown → Type 0
AreEmpty children = All (λ g. g ≡ empty_over g.arrow_type g.sources) children

pub no_rows : (form : Form) (columns : List (List Slot)) → nested_rows form [] columns ≡ []
no_rows (by_offsets os) columns = refl
no_rows form columns = refl

empty_is_well : (g : Grown) → g ≡ empty_over g.arrow_type g.sources → IsWell g
empty_is_well g empty =
    record { well = ap (λ h. h.failed) empty; fits = subst (Fits g.arrow_type) (sym (ap (λ h. h.rows) empty)) (Fits-nil g.arrow_type) }

no_column : (t : ArrowType) (form : Form) (children : List Grown) (f : ℕ) (d : Grown) → AreEmpty children → f < length children → column_in t f (nested_rows form [] (rows_of_all children)) ≡ (get_or children f d).rows
no_column t form children f d empty within =
    ap (column_in t f) (no_rows form (rows_of_all children)) ∙ (column-nil t f ∙ sym (ap (λ g. g.rows) (empty f d within)))

pub holds_nothing : (arrays : PhysicalType) (form : Form) (children : List Grown) (t : ArrowType) → LiesSo arrays (emptied form) → physical_type_of t ≡ arrays → map (λ g. g.arrow_type) children ≡ child_types t → AreEmpty children → HoldsNested (emptied form) children [] 0 t
holds_nothing arrays (by_offsets os) [] t lies kind types empty =
    absurd (omega (arith, one_child [] t (shape_lists t arrays lies kind) types))
holds_nothing arrays (by_offsets os) (child ∷ []) t lies kind types empty =
    holds_none child.arrow_type child.sources child (empty 0 child (omega arith))
holds_nothing arrays (by_offsets os) (g ∷ h ∷ rest) t lies kind types empty =
    absurd (omega (arith, one_child (g ∷ h ∷ rest) t (shape_lists t arrays lies kind) types))
holds_nothing arrays form children t lies kind types empty =
    record {
      counted = refl;
      well = λ f d within. empty_is_well (get_or children f d) (empty f d within);
      whole = λ f d within. ap (λ g. length g.rows) (empty f d within) ∙ omega arith;
      columns = λ f d within. no_column t form children f d empty within;
    }
