-- Fixed-size lists and structs that are bound to a growable: what their rows name of each child, and their rows behind others.
use Rattle.arrow_growable.proofs.Common.{arith, ◌≡◌, ◌+◌, ◌*◌, ◌/◌, ◌<◌, ◌≤◌, ℕ, Bool, List, [], ◌∷◌, ◌++◌, Option, None, length, drop, get_or, map, flat_map, refl, ap, sym, subst, ◌∙◌, le-div_iff_mul-le, ext_get_or, get_or-map, length-map, All-map, ArrowType, plain, null, fixed_items_in, physical_type_of, mask, masked, Slot, Parts, null_slot, sliced, bits_of_slice, chunks, Layout, Layouts, no_layouts, more_layouts, fixed, fielded, across, columns_of, fixed_items, from_layouts, items_row, rows, struct_items, length-fixed_items, length-masked_le, Grown, empty_over, bound_rows, grown_by, spread, by_fields, by_size, child_type, column_in, nested_rows, rows_of_all, IsWhole, no_child, nth_child, All, map-map}
use Rattle.arrow_types.specs.declared.datatypes.physical_type.PhysicalType.TheVariants as physical
use Rattle.arrow_growable.proofs.ColumnLemmas.{field_column, sized_column}
use Rattle.arrow_growable.proofs.FieldLemmas.{Column, field_named, fields_appended, fields_part, grown_column}
use Rattle.arrow_growable.proofs.FixedSizeLemmas.{fixed_appended, fixed_named, fixed_part}
use Rattle.arrow_growable.proofs.NestedLemmas.{bits_long}

-- a fixed-size list
module _ (t : ArrowType) (v : Option (List Bool)) (s : ℕ) (c : Layout) (start n : ℕ) (whole : IsWhole (fixed t v s c)) (inside : start + n ≤ length (rows (fixed t v s c))) where
  abbrev sized_bits : List Bool
  sized_bits = bits_of_slice v start n

  sized_long : length sized_bits ≡ n
  sized_long = bits_long (fixed t v s c) start n whole inside

  sized_inside : start + n ≤ length (rows c) / s
  sized_inside =
      omega (arith, inside, length-masked_le v (fixed_items s (rows c)), length-fixed_items s (rows c))

  room : (start + length sized_bits) * s ≤ length (rows c)
  room =
      subst (λ k. (start + k) * s ≤ length (rows c)) (sym sized_long) ((le-div_iff_mul-le whole.1).0 sized_inside)

  sized_rows : mask sized_bits (map items_row (chunks (length sized_bits) s (drop (start * s) (rows c)))) ≡ sliced (rows (fixed t v s c)) start n
  sized_rows =
      ap (λ k. mask sized_bits (map items_row (chunks k s (drop (start * s) (rows c))))) sized_long ∙ fixed_part v s (rows c) start n sized_inside

  -- what its rows name of the child
  pub sized_named : physical_type_of t ≡ physical.FixedSizeList → column_in t 0 (sliced (rows (fixed t v s c)) start n) ≡ spread s (null_slot (child_type t 0)) sized_bits (λ k. k * s) (rows c) start
  sized_named kind =
      let items = mask sized_bits (map items_row (chunks (length sized_bits) s (drop (start * s) (rows c)))) in
      ap (column_in t 0) (sym sized_rows) ∙ (sized_column t items kind ∙ (ap (λ z. flat_map (fixed_items_in z (child_type t 0)) items) (sym whole.0) ∙ fixed_named s (child_type t 0) sized_bits (rows c) start room))

  -- its rows behind others
  pub sized_behind : (g : Grown) (index : ℕ) (bits : List Bool) → length bits * s ≡ length g.rows → bound_rows g index ≡ rows c → nested_rows (by_size s) (bits ++ sized_bits) (rows_of_all (map (grown_by s sized_bits (λ k. k * s) index start) (g ∷ []))) ≡ nested_rows (by_size s) bits (rows_of_all (g ∷ [])) ++ sliced (rows (fixed t v s c)) start n
  sized_behind g index bits full mate =
      ap (λ xs. mask (bits ++ sized_bits) (map items_row (chunks (length (bits ++ sized_bits)) s (g.rows ++ spread s (null_slot g.arrow_type) sized_bits (λ k. k * s) xs start)))) mate ∙ (fixed_appended s (null_slot g.arrow_type) bits sized_bits g.rows (rows c) start full room ∙ ap (λ ys. mask bits (map items_row (chunks (length bits) s g.rows)) ++ ys) sized_rows)

-- the columns of layouts, as a list
columns_are : (cs : Layouts) → columns_of cs ≡ map rows (from_layouts cs)
columns_are no_layouts = refl
columns_are (more_layouts l ls) = ap (λ xs. rows l ∷ xs) (columns_are ls)

abbrev pub no_grown : Grown
no_grown = empty_over (plain null) None

-- a child as a column of a struct
abbrev pub column_of : ℕ → Grown → Column
column_of index g =
    record { none = null_slot g.arrow_type; own = g.rows; other = bound_rows g index }

pub owns_long : (index : ℕ) (children : List Grown) (bits : List Bool) (len : ℕ) → length bits ≡ len → All (λ g. length g.rows ≡ len * 1) children → All (λ c. length c.own ≡ length bits) (map (column_of index) children)
owns_long index children bits len counted full =
    All-map (λ c. length c.own ≡ length bits) (column_of index) children (λ f d within. omega (arith, counted, full f d within))

-- a struct
module _ (t : ArrowType) (v : Option (List Bool)) (cs : Layouts) (start n : ℕ) (whole : IsWhole (fielded t v cs)) (inside : start + n ≤ length (rows (fielded t v cs))) where
  abbrev field_bits : List Bool
  field_bits = bits_of_slice v start n

  abbrev columns : List (List Slot)
  columns = map rows (from_layouts cs)

  abbrev count : ℕ
  count = length (rows (fielded t v cs))

  field_long : length field_bits ≡ n
  field_long = bits_long (fielded t v cs) start n whole inside

  columns_long : All (λ c. length c ≡ count) columns
  columns_long = All-map (λ c. length c ≡ count) rows (from_layouts cs) whole.1

  field_rows : mask field_bits (map Parts (across (length field_bits) (map (λ c. sliced c start (length field_bits)) columns))) ≡ sliced (rows (fielded t v cs)) start n
  field_rows =
      let some : 0 < length columns = omega (arith, whole.0, length-map (from_layouts cs) rows) in
      ap (λ k. mask field_bits (map Parts (across k (map (λ c. sliced c start k) columns)))) field_long ∙ (fields_part v columns count start n some columns_long inside ∙ ap (λ xs. sliced (masked v (struct_items xs)) start n) (sym (columns_are cs)))

  -- what its rows name of child f
  pub fields_named : physical_type_of t ≡ physical.Struct → (f : ℕ) → f < length (from_layouts cs) → column_in t f (sliced (rows (fielded t v cs)) start n) ≡ spread 1 (null_slot (child_type t f)) field_bits (λ k. k) (rows (nth_child f (fielded t v cs))) start
  fields_named kind f within =
      let u = child_type t f in
      let there : f < length columns = omega (arith, within, length-map (from_layouts cs) rows) in
      let deep : All (λ c. start + length field_bits ≤ length c) columns = λ k d among. omega (arith, columns_long k d among, inside, field_long) in
      ap (column_in t f) (sym field_rows) ∙ (field_column t f _ kind ∙ (field_named f u field_bits columns start there deep ∙ ap (λ xs. spread 1 (null_slot u) field_bits (λ k. k) xs start) (get_or-map rows (from_layouts cs) f no_child [] within)))

  -- its rows behind others
  pub fields_behind : (children : List Grown) (index : ℕ) (bits : List Bool) (len : ℕ) → length bits ≡ len → All (λ g. length g.rows ≡ len * 1) children → length (from_layouts cs) ≡ length children → ((f : ℕ) (d : Grown) → f < length children → bound_rows (get_or children f d) index ≡ rows (nth_child f (fielded t v cs))) → nested_rows by_fields (bits ++ field_bits) (rows_of_all (map (grown_by 1 field_bits (λ k. k) index start) children)) ≡ nested_rows by_fields bits (rows_of_all children) ++ sliced (rows (fielded t v cs)) start n
  fields_behind children index bits len counted full width mates =
      let own = map (column_of index) children in
      let more = field_bits in
      let grown = map-map (λ (g : Grown). g.rows) (grown_by 1 more (λ k. k) index start) children ∙ sym (map-map (grown_column more start) (column_of index) children) in
      let owned = sym (map-map (λ (c : Column). c.own) (column_of index) children) in
      let mated : map (λ g. bound_rows g index) children ≡ columns =
      ext_get_or [] (map (λ g. bound_rows g index) children) columns (omega (arith, length-map children (λ g. bound_rows g index), length-map (from_layouts cs) rows, width)) (λ f among.
      let there : f < length children = omega (arith, among, length-map children (λ g. bound_rows g index)) in
      get_or-map (λ (g : Grown). bound_rows g index) children f no_grown [] there ∙ (mates f no_grown there ∙ sym (get_or-map rows (from_layouts cs) f no_child [] (omega (arith, there, width))))) in
      let others = map-map (λ (c : Column). sliced c.other start (length more)) (column_of index) children ∙ (sym (map-map (λ (xs : List Slot). sliced xs start (length more)) (λ (g : Grown). bound_rows g index) children) ∙ ap (map (λ xs. sliced xs start (length more))) mated) in
      let deep : All (λ c. start + length more ≤ length c.other) own =
      All-map (λ c. start + length more ≤ length c.other) (column_of index) children (λ f d within.
      let there : f < length (from_layouts cs) = omega (arith, within, width) in
      omega (arith, ap length (mates f d within), whole.1 f no_child there, inside, field_long)) in
      ap (λ xs. mask (bits ++ more) (map Parts (across (length (bits ++ more)) xs))) grown ∙ (fields_appended bits more own start (owns_long index children bits len counted full) deep ∙ (λ j. mask bits (map Parts (across (length bits) (sym owned j))) ++ (ap (λ xs. mask more (map Parts (across (length more) xs))) others ∙ field_rows) j))
