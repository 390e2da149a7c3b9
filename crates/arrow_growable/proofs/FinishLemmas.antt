-- The parts of an array with children that is made of what was under construction, and its rows.
use Rattle.arrow_growable.proofs.Common.{arith, ◌≡◌, ◌*◌, ◌/◌, ◌%◌, ℕ, Bool, List, [], ◌∷◌, Option, length, map, ap, subst, sym, ◌∙◌, get_or-map, length-map, ArrowType, mask, masked, Slot, Parts, IsCarriedAs, FitsRows, chunks, AnyArray, any_array_rows, any_array_type, layout_of, FitsItems, Layout, across, fixed_items, items_row, list_items, rows, struct_items, FitsColumns, HaveRows, row_count, item_type, list_size, some_items, whole_product, count_children, rows_of_arrays, length-fixed_items, list_shape, shape_in, shape_of, struct_columns, struct_shape, length-across, GrowableSpans, FixedSize, Fields, Form, by_offsets, child_types, nested_rows, IsFormOf, form_of, grown_arrays, AreWhole, All}
use Rattle.arrow_types.specs.declared.datatypes.physical_type.PhysicalType.TheVariants as physical
use Rattle.arrow_growable.proofs.ColumnLemmas.{list_child_types, struct_child_types}
use Rattle.arrow_growable.proofs.ListLemmas.{rows_made}
use Rattle.arrow_growable.proofs.FieldLemmas.{first_long}

-- a validity that gives what bits give
abbrev pub GivesAs : List Bool → Option (List Bool) → Type 0
GivesAs bits v =
    (ys : List Slot) → length ys ≡ length bits → masked v ys ≡ mask bits ys

-- lists have one child

module _ (t : ArrowType) (xs : List AnyArray) (types : map any_array_type xs ≡ child_types t) (shape : shape_in t ≡ list_shape) where
  pub one_child : length xs ≡ 1
  one_child =
      omega (arith, length-map xs any_array_type, ap length (types ∙ list_child_types t shape))

  pub child_type_is : (x : AnyArray) → x ∷ [] ≡ xs → any_array_type x ≡ item_type t
  child_type_is x only =
      let same : any_array_type x ∷ [] ≡ item_type t ∷ [] = ap (map any_array_type) only ∙ (types ∙ list_child_types t shape) in
      cc

-- the rows of lists by offsets
pub lists_made : (form : Form) (os ns : List ℕ) (x : AnyArray) (xs : List AnyArray) (bits : List Bool) (v : Option (List Bool)) → form ≡ by_offsets os → ns ≡ os → x ∷ [] ≡ xs → AreWhole form (length bits) (map any_array_rows xs) → GivesAs bits v → masked v (list_items ns (any_array_rows x)) ≡ nested_rows form bits (map any_array_rows xs)
lists_made form os ns x xs bits v lies same only whole gives =
    let covered = subst (λ (f : Form). AreWhole f (length bits) (map any_array_rows xs)) lies whole in
    rows_made os ns (any_array_rows x) bits v same covered.0 gives ∙ (λ i. nested_rows (sym lies i) bits (map any_array_rows (only i)))

-- lists of a fixed size: so many items a row, in one child
module _ (t : ArrowType) (spans : GrowableSpans) (size : ℕ) (x : AnyArray) (xs : List AnyArray) (bits : List Bool) (v : Option (List Bool)) (is : spans ≡ FixedSize size) (kind : IsCarriedAs (grown_arrays spans) t) (form : IsFormOf t (form_of spans)) (only : x ∷ [] ≡ xs) (whole : AreWhole (form_of spans) (length bits) (map any_array_rows xs)) where
  abbrev items : List Slot
  items = any_array_rows x

  sized : IsCarriedAs physical.FixedSizeList t
  sized = subst (λ s. IsCarriedAs (grown_arrays s) t) is kind

  same_size : size ≡ list_size t
  same_size = subst (λ s. IsFormOf t (form_of s)) is form

  all_long : All (λ c. length c ≡ length bits * size) (map any_array_rows xs)
  all_long =
      subst (λ s. AreWhole (form_of s) (length bits) (map any_array_rows xs)) is whole

  items_long : length items ≡ length bits * list_size t
  items_long =
      let long = subst (λ ys. All (λ c. length c ≡ length bits * size) (map any_array_rows ys)) (sym only) all_long in
      subst (λ k. length items ≡ length bits * k) same_size (long 0 [] (omega arith))

  count : (length items % list_size t ≡ 0) × (length items / list_size t ≡ length bits)
  count =
      whole_product (length bits) (list_size t) (length items) (some_items t sized.0 sized.1) items_long

  pub sized_fit : FitsRows v (length bits) → FitsItems (list_size t) (length items) v
  sized_fit fits = (count.0, subst (FitsRows v) (sym count.1) fits)

  pub sized_made : GivesAs bits v → masked v (fixed_items (list_size t) items) ≡ nested_rows (form_of spans) bits (map any_array_rows xs)
  sized_made gives =
      let long = length-fixed_items (list_size t) items ∙ count.1 in
      gives (fixed_items (list_size t) items) long ∙ ((λ i. mask bits (map items_row (chunks (count.1 i) (sym same_size i) items))) ∙ (λ i. nested_rows (form_of (sym is i)) bits (map any_array_rows (only i))))

-- structs: a row of each child

have_rows : (n : ℕ) (ls : List Layout) → All (λ c. length c ≡ n * 1) (map rows ls) → HaveRows n ls
have_rows n ls whole =
    λ k d within. omega (arith, whole k (rows d) (omega (arith, within, length-map ls rows)), ap length (get_or-map rows ls k d (rows d) within))

module _ (t : ArrowType) (spans : GrowableSpans) (xs : List AnyArray) (bits : List Bool) (v : Option (List Bool)) (is : spans ≡ Fields) (kind : IsCarriedAs (grown_arrays spans) t) (types : map any_array_type xs ≡ child_types t) (whole : AreWhole (form_of spans) (length bits) (map any_array_rows xs)) where
  abbrev layouts : List Layout
  layouts = map layout_of xs

  abbrev columns : List (List Slot)
  columns = map rows layouts

  fielded : IsCarriedAs physical.Struct t
  fielded = subst (λ s. IsCarriedAs (grown_arrays s) t) is kind

  shape : shape_in t ≡ struct_shape
  shape = ap shape_of fielded.1

  columns_whole : All (λ c. length c ≡ length bits * 1) columns
  columns_whole =
      subst (All (λ c. length c ≡ length bits * 1)) (sym (rows_of_arrays xs)) (subst (λ s. AreWhole (form_of s) (length bits) (map any_array_rows xs)) is whole)

  have : HaveRows (length bits) layouts
  have = have_rows (length bits) layouts columns_whole

  many : row_count layouts ≡ length bits
  many =
      first_long columns (length bits) (omega (arith, length-map layouts rows, count_children xs (child_types t) types, ap length (struct_child_types t shape), (struct_columns t fielded.0 shape).some)) (λ k d within. omega (arith, columns_whole k d within))

  pub fields_fit : FitsRows v (length bits) → FitsColumns layouts v
  fields_fit fits =
      (subst (λ n. HaveRows n layouts) (sym many) have, subst (FitsRows v) (sym many) fits)

  pub fields_made : GivesAs bits v → masked v (struct_items (map any_array_rows xs)) ≡ nested_rows (form_of spans) bits (map any_array_rows xs)
  fields_made gives =
      let long = length-map (across (length bits) columns) Parts ∙ length-across (length bits) layouts have in
      let made = ap (λ n. masked v (map Parts (across n columns))) many ∙ gives (map Parts (across (length bits) columns)) long in
      subst (λ cs. masked v (struct_items cs) ≡ nested_rows (form_of spans) bits cs) (rows_of_arrays xs) (made ∙ ap (λ s. nested_rows (form_of s) bits columns) (sym is))
