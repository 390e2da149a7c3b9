-- Arrays with children that are bound: where their rows lie, what they say of their parts, and that those of one kind lie alike.
use Rattle.arrow_growable.proofs.Common.{arith, ◌≡◌, ◌+◌, ◌*◌, ◌-◌, ◌/◌, ◌<◌, ◌≤◌, ℕ, List, [], ◌∷◌, length, map, get_or, slice_index, refl, ap, sym, subst, ◌∙◌, Bor, Result, Ok, Err, IfOk, mul-div_cancel, get_or-map, length-map, All-map, Error, ArrowType, plain, null, physical_type_of, IsOffsets, last_of, FitsRows, layout_of, FixedListParts, fixed_list_layout, fixed_list_rows, Layout, listed, fixed, from_layouts, to_layouts, rows, type_of_layout, ListParts, list_layout, list_rows, StructParts, HaveRows, row_count, struct_layout, struct_rows, field_types, item_type, list_size, AnyArray, list_shape, shape_in, shape_of, first_type, source_at, source_is, bound_layouts, Form, by_offsets, by_size, by_fields, child_type, child_types, null_slots_by, IsFormOf, IsFresh, emptied, form_of, grown_arrays, Lies, IsOfForm, IsSource, IsWhole, children_in, nth_child, no_child, nulls_in, span_arrays, span_form, BoundNested, Lists, FixedSizeLists, Maps, Structs, GrowableSpans, Spans, Small, Large, Map, All}
use Rattle.arrow_types.specs.declared.datatypes.physical_type.PhysicalType.TheVariants as physical
use Rattle.arrow_growable.proofs.ColumnLemmas.{list_child_types, struct_child_types}
use Rattle.arrow_growable.specs.declared.growable.spans.Spans.TheVariants.{FixedSize, Fields}

-- the one child of a list is of the type of its items
pub list_types : (t u : ArrowType) → shape_in t ≡ list_shape → u ≡ item_type t → u ∷ [] ≡ child_types t
list_types t u shape items = ap (λ x. x ∷ []) items ∙ sym (list_child_types t shape)

-- lists and maps
pub list_source : (p : ListParts) (n : ℕ) → IsOffsets p.offsets → last_of p.offsets ≤ length (rows p.child) → FitsRows p.validity (length p.offsets - 1) → n ≡ length (list_rows p) → n + 1 ≡ length p.offsets → shape_in p.arrow_type ≡ list_shape → type_of_layout p.child ≡ item_type p.arrow_type → IsSource (list_layout p)
list_source p n sound within fits long counted shape items =
    record {
      whole = (sound, within, fits, omega (arith, long, counted));
      types = list_types p.arrow_type (type_of_layout p.child) shape items;
    }

-- their rows lie by the offsets
module _ (offsets : Bor (List ℕ)) (p : ListParts) (same : offsets.now ≡ p.offsets) (source : IsSource (list_layout p)) where
  sound : IsOffsets offsets.now
  sound = subst IsOffsets (sym same) source.whole.0

  counted : length offsets.now - 1 ≡ length (list_rows p)
  counted = omega (arith, source.whole.3, ap length same)

  pub lists_lie : physical_type_of p.arrow_type ≡ physical.List → Lies (Small offsets) (list_layout p)
  lists_lie kind =
      record { sound = sound; form = tt; place = ap slice_index same; offsets = same; nulls = refl; count = counted; arrays = sym kind; source = source }

  pub large_lists_lie : physical_type_of p.arrow_type ≡ physical.LargeList → Lies (Large offsets) (list_layout p)
  large_lists_lie kind =
      record { sound = sound; form = tt; place = ap slice_index same; offsets = same; nulls = refl; count = counted; arrays = sym kind; source = source }

  pub maps_lie : physical_type_of p.arrow_type ≡ physical.Map → Lies (Map offsets) (list_layout p)
  maps_lie kind =
      record { sound = sound; form = tt; place = ap slice_index same; offsets = same; nulls = refl; count = counted; arrays = sym kind; source = source }

-- those of a fixed-size list lie by its size
pub fixed_size_lists_lie : (p : FixedListParts) (size items : ℕ) → physical_type_of p.arrow_type ≡ physical.FixedSizeList → type_of_layout p.child ≡ item_type p.arrow_type → size ≡ p.size → p.size ≡ list_size p.arrow_type → 0 < p.size → items ≡ length (rows p.child) → length (fixed_list_rows p) * p.size ≡ length (rows p.child) → FitsRows p.validity (length (rows p.child) / p.size) → Lies (FixedSize size items) (fixed_list_layout p)
fixed_size_lists_lie p size items kind child same sized some long whole fits =
    let counted : length (rows p.child) / p.size ≡ length (fixed_list_rows p) = ap (λ n. n / p.size) (sym whole) ∙ mul-div_cancel (length (fixed_list_rows p)) some in
    record {
      sound = omega (arith, same, some);
      form = tt;
      place = ap (λ s i. i * s) same;
      offsets = refl;
      nulls = same;
      count = (λ t. long t / same t) ∙ counted;
      arrays = sym kind;
      source =
          record {
            whole = (sized, some, whole, subst (FitsRows p.validity) counted fits);
            types = list_types p.arrow_type (type_of_layout p.child) (ap shape_of kind) child;
          };
    }

-- child f, which is of the type that the data type says
module _ (l : Layout) (t : ArrowType) (types : map type_of_layout (children_in l) ≡ child_types (type_of_layout l)) (same : type_of_layout l ≡ t) (f : ℕ) (within : f < length (child_types t)) where
  pub child_there : f < length (children_in l)
  child_there =
      omega (arith, within, length-map (children_in l) type_of_layout, ap length types, ap (λ u. length (child_types u)) same)

  pub nth_type : type_of_layout (nth_child f l) ≡ child_type t f
  nth_type =
      sym (get_or-map type_of_layout (children_in l) f no_child (plain null) child_there) ∙ (ap (λ ts. get_or ts f (plain null)) types ∙ ap (λ u. child_type u f) same)

-- layouts of a list are there again
pub from_to : (ls : List Layout) → from_layouts (to_layouts ls) ≡ ls
from_to [] = refl
from_to (l ∷ ls) = ap (λ rest. l ∷ rest) (from_to ls)

-- the children of a struct are of the types of its fields
pub struct_types : (t : ArrowType) (ls : List Layout) → physical_type_of t ≡ physical.Struct → map type_of_layout ls ≡ field_types t → map type_of_layout (from_layouts (to_layouts ls)) ≡ child_types t
struct_types t ls kind types = ap (map type_of_layout) (from_to ls) ∙ (types ∙ sym (struct_child_types t (ap shape_of kind)))

-- child f of a struct is value f
module _ (xs : List AnyArray) (ls : List Layout) (same : map layout_of xs ≡ ls) (f : ℕ) (within : f < length (from_layouts (to_layouts ls))) where
  pub value_there : f < length xs
  value_there = omega (arith, within, ap length (from_to ls), ap length same, length-map xs layout_of)

  pub value_is : (x : AnyArray) → x ≡ get_or xs f x → layout_of x ≡ get_or (from_layouts (to_layouts ls)) f no_child
  value_is x read =
      sym (source_is layout_of xs f x value_there read) ∙ ap (λ ks. get_or ks f no_child) (same ∙ sym (from_to ls))

-- and its rows lie where those of each child do
pub structs_lie : (p : StructParts) (n : ℕ) → physical_type_of p.arrow_type ≡ physical.Struct → map type_of_layout p.children ≡ field_types p.arrow_type → 0 < length p.children → HaveRows (row_count p.children) p.children → FitsRows p.validity (row_count p.children) → n ≡ length (struct_rows p) → n ≡ row_count p.children → Lies (Fields n) (struct_layout p)
structs_lie p n kind types some have fits long wide =
    let counted : row_count p.children ≡ length (struct_rows p) = sym wide ∙ long in
    let each : All (λ l. length (rows l) ≡ length (struct_rows p)) p.children = λ k d within. have k d within ∙ counted in
    record {
      sound = tt;
      form = tt;
      place = refl;
      offsets = refl;
      nulls = refl;
      count = long;
      arrays = sym kind;
      source =
          record {
            whole = (omega (arith, some, ap length (from_to p.children)), subst (All (λ l. length (rows l) ≡ length (struct_rows p))) (sym (from_to p.children)) each, subst (FitsRows p.validity) counted fits);
            types = struct_types p.arrow_type p.children kind types;
          };
    }

-- arrays of one kind lie alike

module _ {A : Type 0} (f : A → Layout) (alike : (form : Form) (x y : A) → IsOfForm form (f x) → IsOfForm form (f y)) where
  all_alike : (form : Form) (xs : List A) → 0 < length (map f xs) → IsOfForm form (source_at (map f xs) 0) → All (IsOfForm form) (map f xs)
  all_alike form [] some first = absurd (omega (arith, some))
  all_alike form (x ∷ xs) some first = All-map (IsOfForm form) f (x ∷ xs) (λ k d within. alike form x _ first)

lists_alike : (form : Form) (p q : Bor ListParts) → IsOfForm form (list_layout p.now) → IsOfForm form (list_layout q.now)
lists_alike (by_offsets os) p q is = tt
lists_alike form p q is = is

sized_alike : (form : Form) (p q : Bor FixedListParts) → IsOfForm form (fixed_list_layout p.now) → IsOfForm form (fixed_list_layout q.now)
sized_alike (by_size s) p q is = tt
sized_alike form p q is = is

structs_alike : (form : Form) (p q : Bor StructParts) → IsOfForm form (struct_layout p.now) → IsOfForm form (struct_layout q.now)
structs_alike by_fields p q is = tt
structs_alike form p q is = is

one_form : (form : Form) (arrays : BoundNested) → 0 < length (bound_layouts arrays) → IsOfForm form (source_at (bound_layouts arrays) 0) → All (IsOfForm form) (bound_layouts arrays)
one_form form (Lists arrays) some first = all_alike (λ r. list_layout r.now) lists_alike form arrays.items some first
one_form form (FixedSizeLists arrays) some first =
    all_alike (λ r. fixed_list_layout r.now) sized_alike form arrays.items some first
one_form form (Maps arrays) some first = all_alike (λ r. list_layout r.now) lists_alike form arrays.items some first
one_form form (Structs arrays) some first =
    all_alike (λ r. struct_layout r.now) structs_alike form arrays.items some first

-- and so does an array under construction that has no row

emptied_form : (form : Form) (l : Layout) → IsOfForm form l → IsOfForm (emptied form) l
emptied_form (by_offsets os) (listed t v offsets c) is = tt
emptied_form form l is = is

pub emptied_twice : (form : Form) → emptied (emptied form) ≡ emptied form
emptied_twice (by_offsets os) = refl
emptied_twice form = refl

-- of the size of the type
size_of : (form : Form) (l : Layout) → IsOfForm form l → null_slots_by form ≡ nulls_in l → IsWhole l → IsFormOf (type_of_layout l) (emptied form)
size_of (by_size s) (fixed t v size c) is nulls whole = nulls ∙ whole.0
size_of (by_size s) _ is nulls whole = absurd is
size_of form l is nulls whole = tt

first_is : (ls : List Layout) → 0 < length ls → type_of_layout (source_at ls 0) ≡ first_type ls
first_is [] some = absurd (omega (arith, some))
first_is (l ∷ ls) some = refl

module _ (arrays : BoundNested) (some : 0 < length (bound_layouts arrays)) (spans : Spans) (lies : Lies spans (source_at (bound_layouts arrays) 0)) where
  fresh_by : (grown : GrowableSpans) → form_of grown ≡ emptied (span_form spans) → grown_arrays grown ≡ span_arrays spans → IsFresh grown (bound_layouts arrays)
  fresh_by grown empty same =
      let first = source_at (bound_layouts arrays) 0 in
      let t = first_is (bound_layouts arrays) some in
      record {
        arrays = same ∙ (lies.arrays ∙ ap physical_type_of t);
        empty = empty ∙ (sym (emptied_twice (span_form spans)) ∙ ap emptied (sym empty));
        size = subst {A = ArrowType × Form} (λ q. IsFormOf q.0 q.1) (λ j. (t j, sym empty j)) (size_of (span_form spans) first lies.form lies.nulls lies.source.whole);
        form = subst (λ form. All (IsOfForm form) (bound_layouts arrays)) (sym empty) (one_form (emptied (span_form spans)) arrays some (emptied_form (span_form spans) first lies.form));
      }

  pub fresh_spans : (r : Result GrowableSpans Error) → IfOk r (λ grown. form_of grown ≡ emptied (span_form spans)) → IfOk r (λ grown. grown_arrays grown ≡ span_arrays spans) → IfOk r (λ grown. IsFresh grown (bound_layouts arrays))
  fresh_spans (Ok grown) empty same = fresh_by grown empty same
  fresh_spans (Err e) empty same = tt
