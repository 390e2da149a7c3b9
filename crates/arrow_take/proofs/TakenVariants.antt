-- Unions by index: the rows that are named, in either mode, and what each field of a sparse one has of them.
use Rattle.arrow_take.proofs.Common.{arith, ◌≡◌, ◌+◌, ◌*◌, ◌<◌, ◌≤◌, ℕ, suc, max, ℤ, pos, Bool, true, false, not, Option, Some, None, List, [], drop, length, map, get_or, if◌then◌else◌, refl, ap, sym, subst, ◌∙◌, option_map, unwrap_or, All, range_with_len, zip, int_eq, Decides-int_eq, get_or-drop, get_or-map, get_or-take, get_or_default, length-map, same_lists, All-map, get_or-range_with_len, length-range_with_len, slice_get-get_or, map-map, length-zip, ArrowType, null, plain, sparse_part, is_null, gather, gathered, valid_at, Slot, Null, Number, Variant, id_at, null_slot, AnswersBits, sliced, length-sliced, marked_row, MarksNulls, AnyArray, any_array_rows, any_array_type, layout_of, AreKeys, IsKey, Layout, Layouts, column_of_id, depth, depth_of_all, field_ids, fielded, fixed, more_layouts, no_layouts, rows, to_layouts, type_of_layout, union_items, variant_at, slice_of, slices_of, field_types, IsKnown, SpansRows, UnionParts, child_rows_by, union_layout, union_rows, depth_at, type_of_part, field_rows, field_part, part_of_id, variant_type, rows_are, ids_apart, null_variant, AreApart, own_column, named_bit, valid_index, taken_id, IsSparse, have_id, HasUnionParts, NamesPart, mode_by, rows_of_field, depth_of_union, each_key}
use Rattle.std.specs.Prelude.{◌&&◌}
use Rattle.arrow_take.proofs.IndexLemmas.{map-agree}
use Rattle.arrow_take.proofs.MadeUnions.{KnownRows, item_at}
use Rattle.arrow_take.proofs.TakenFields.{valid_keys}

-- a part of an array is as deep as the array
mutual
  depth_of_part : (l : Layout) (offset len : ℕ) → depth (slice_of l offset len) ≡ depth l
  depth_of_part (fixed u v s c) offset len = ap suc (depth_of_part c (offset * s) (len * s))
  depth_of_part (fielded u v cs) offset len = ap suc (depth_of_parts cs offset len)
  depth_of_part l offset len = refl

  depth_of_parts : (cs : Layouts) (offset len : ℕ) → depth_of_all (slices_of cs offset len) ≡ depth_of_all cs
  depth_of_parts no_layouts offset len = refl
  depth_of_parts (more_layouts l ls) offset len =
      λ i. max (depth_of_part l offset len i) (depth_of_parts ls offset len i)

-- a union without offsets is sparse
pub no_rows : (child_rows : Option (List ℕ)) → None ≡ option_map (map pos) child_rows → child_rows ≡ None
no_rows None is = refl
no_rows (Some child_rows) is = cc

-- a bit that was answered
pub answered_bit : (answered : ℕ → Bool → Type 0) (count : ℕ) (bits : List Bool) → AnswersBits answered count bits → (bit_at : ℕ → Bool) → ((row : ℕ) (bit : Bool) → row < count → answered row bit → bit ≡ bit_at row) → (i : ℕ) → i < count → get_or bits i false ≡ bit_at i
answered_bit answered count bits answers bit_at each i within =
    each i (get_or bits i false) within (answers.each i within)

-- which of the rows that indices name are of a field, by a bit each
own_bit : (p : UnionParts) (id : ℤ) (s : Slot) → IsKey (length p.types) s → not (is_null s) && int_eq id (taken_id p s) ≡ named_bit (have_id id p.types) s
own_bit p id =
    each_key (length p.types) (λ s. not (is_null s) && int_eq id (taken_id p s) ≡ named_bit (have_id id p.types) s) refl (λ n within. sym (get_or-map (int_eq id) p.types n (id_at (field_ids p.arrow_type) 0) false within))

pub own_bits : (p : UnionParts) (id : ℤ) (indices : List Slot) (v : Option (List Bool)) (types : List ℤ) (bits : List Bool) → AreKeys (length p.types) indices → MarksNulls v indices → types ≡ map (taken_id p) indices → length bits ≡ length indices → ((i : ℕ) → i < length indices → get_or bits i false ≡ valid_at v i && int_eq id (get_or types i id)) → bits ≡ map (named_bit (have_id id p.types)) indices
own_bits p id indices v types bits keys marks types_are count each =
    same_lists _ _ (count ∙ sym (length-map indices (named_bit (have_id id p.types)))) (λ i d within.
    let inside : i < length indices = omega (arith, within, count) in
    let s = get_or indices i Null in
    let type = ap (λ zs. get_or zs i id) types_are ∙ get_or-map (taken_id p) indices i Null id inside in
    let valid = marked_row v indices i marks inside in
    get_or_default bits i d false within ∙ (each i inside ∙ ((λ j. valid j && int_eq id (type j)) ∙ (own_bit p id s (keys i Null inside) ∙ sym (get_or-map (named_bit (have_id id p.types)) indices i Null d inside)))))

-- a union of which indices name rows, and the type ids of these
pub record TakesUnion (p : UnionParts) (indices : List Slot) (types : List ℤ) : Type 0 where
  pub held : HasUnionParts p
  pub keys : AreKeys (length p.types) indices
  pub types_are : types ≡ map (taken_id p) indices

-- the child of a field
pub record IsField (p : UnionParts) (f : ℕ) (child : Layout) : Type 0 where
  pub within : f < length p.children
  pub column : rows_of_field p.children f ≡ rows child
  pub child_type : type_of_layout child ≡ variant_type p.arrow_type f
  pub less_deep : depth child < depth (union_layout p)

pub field_is : (p : UnionParts) → map type_of_layout p.children ≡ field_types p.arrow_type → (fields : List AnyArray) → map layout_of fields ≡ p.children → (f : ℕ) → f < length fields → (a : AnyArray) → a ≡ get_or fields f a → IsField p f (layout_of a)
field_is p types fields children f within a read =
    let inside : f < length p.children = omega (arith, within, length-map fields layout_of, ap length children) in
    let here : get_or p.children f (layout_of a) ≡ layout_of a = ap (λ ls. get_or ls f (layout_of a)) (sym children) ∙ (get_or-map layout_of fields f a (layout_of a) within ∙ ap layout_of (sym read)) in
    record {
      within = inside;
      column = ap (λ ls. rows_of_field ls f) (sym children) ∙ field_rows fields f a within read;
      child_type = ap type_of_layout (sym here) ∙ (sym (get_or-map type_of_layout p.children f (layout_of a) (plain null) inside) ∙ ap (λ us. get_or us f (plain null)) types);
      less_deep = omega (arith, ap (λ x. depth (layout_of x)) read, depth_at layout_of fields f a within, ap (λ ls. depth_of_all (to_layouts ls)) children, depth_of_union p.arrow_type p.types p.child_rows p.start p.children);
    }

module _ {p : UnionParts} (held : HasUnionParts p) where
  abbrev ids : Option (List ℤ)
  ids = field_ids p.arrow_type

  abbrev child_columns : List (List Slot)
  child_columns = map rows p.children

  as_many : length child_columns ≡ length (field_types p.arrow_type)
  as_many =
      length-map p.children rows ∙ (sym (length-map p.children type_of_layout) ∙ ap length held.fields)

  pub apart : AreApart ids (length child_columns)
  apart = subst (AreApart ids) (sym as_many) (ids_apart p.arrow_type held.kind)

  pub none_stored : null_slot p.arrow_type ≡ Variant (id_at ids 0) (null_slot (variant_type p.arrow_type 0))
  none_stored =
      null_variant p.arrow_type held.kind.1 (omega (arith, held.some, as_many, length-map p.children rows))

  -- what stands in a row
  abbrev pub stored : ℕ → Slot
  stored n =
      get_or (column_of_id ids 0 (get_or p.types n (id_at ids 0)) child_columns) (get_or (child_rows_by p.child_rows p.start (length p.types)) n 0) Null

  pub row_stored : (n : ℕ) → n < length p.types → gathered (union_rows p) p.arrow_type (Number (pos n)) ≡ Variant (get_or p.types n (id_at ids 0)) (stored n)
  row_stored n within =
      let places = child_rows_by p.child_rows p.start (length p.types) in
      let many = ap length (rows_are p) ∙ length-map (zip p.types places) (λ row. variant_at ids child_columns row.0 row.1) in
      ap (λ o. unwrap_or o (null_slot p.arrow_type)) (slice_get-get_or (union_rows p) n Null (omega (arith, within, held.long))) ∙ (ap (λ ys. get_or ys n Null) (rows_are p) ∙ item_at ids child_columns p.types places n (id_at ids 0) within (omega (arith, within, held.long, many, length-zip p.types places)))

  -- the row that an index names is of a known id
  named : (s : Slot) → IsKey (length p.types) s → (w : Slot) × (gathered (union_rows p) p.arrow_type s ≡ Variant (taken_id p s) w) × IsKnown ids (length (field_types p.arrow_type)) (taken_id p s)
  named =
      each_key (length p.types) (λ s. (w : Slot) × (gathered (union_rows p) p.arrow_type s ≡ Variant (taken_id p s) w) × IsKnown ids (length (field_types p.arrow_type)) (taken_id p s)) (null_slot (variant_type p.arrow_type 0), none_stored, (0, omega (arith, held.some, as_many, length-map p.children rows), refl)) (λ n within. (stored n, row_stored n within, subst (λ count. IsKnown ids count (get_or p.types n (id_at ids 0))) (sym (length-map p.children rows) ∙ as_many) (held.known n (id_at ids 0) within)))

-- and so is each row by index
pub known_rows : {p : UnionParts} {indices : List Slot} {types : List ℤ} → TakesUnion p indices types → KnownRows p.arrow_type (gather (union_rows p) indices p.arrow_type) types
known_rows {p} {indices} {types} takes =
    let row_of = gathered (union_rows p) p.arrow_type in
    record {
      kind = takes.held.kind;
      long = ap length takes.types_are ∙ (length-map indices (taken_id p) ∙ sym (length-map indices row_of));
      named = λ i within.
          let inside : i < length indices = omega (arith, within, length-map indices row_of) in
          let row = named takes.held (get_or indices i Null) (takes.keys i Null inside) in
          let type : get_or types i (pos 0) ≡ taken_id p (get_or indices i Null) = ap (λ zs. get_or zs i (pos 0)) takes.types_are ∙ get_or-map (taken_id p) indices i Null (pos 0) inside in
          (row.0, get_or-map row_of indices i Null Null inside ∙ (row.1 ∙ ap (λ k. Variant k row.0) (sym type)), subst (IsKnown (field_ids p.arrow_type) (length (field_types p.arrow_type))) (sym type) row.2);
    }

-- a union is sparse where it has no offsets
pub sparse_by : (p : UnionParts) → HasUnionParts p → p.child_rows ≡ None → IsSparse p
sparse_by p held none =
    record { kind = held.kind; mode = held.mode ∙ ap mode_by none; child_rows = none; fields = held.fields; some = held.some; spans = held.spans; known = held.known }

-- rows of a sparse union that indices name
module _ (p : UnionParts) (held : IsSparse p) (indices : List Slot) (keys : AreKeys (length p.types) indices) where
  abbrev t : ArrowType
  t = p.arrow_type

  abbrev columns : List (List Slot)
  columns = map rows p.children

  abbrev made : List Slot
  made = gather (union_rows p) indices t

  abbrev id_of : ℕ → ℤ
  id_of f = id_at (field_ids t) f

  -- the rows lie one behind the other in each child
  pub long : length (union_rows p) ≡ length p.types
  long =
      let places = range_with_len p.start (length p.types) in
      ap length (rows_are p ∙ ap (λ child_rows. union_items (field_ids t) columns p.types (child_rows_by child_rows p.start (length p.types))) held.child_rows) ∙ (length-map (zip p.types places) (λ row. variant_at (field_ids t) columns row.0 row.1) ∙ omega (arith, length-zip p.types places, length-range_with_len p.start (length p.types)))

  as_union : HasUnionParts p
  as_union =
      record { kind = held.kind; mode = held.mode ∙ sym (ap mode_by held.child_rows); fields = held.fields; some = held.some; spans = held.spans; long = long; known = held.known }

  -- the rows of a field that lie beside those of the union
  abbrev pub part : ℕ → List Slot
  part f = sliced (get_or columns f []) p.start (length p.types)

  abbrev own : ℕ → Slot → Slot
  own f = valid_index (Some (have_id (id_of f) p.types))

  columns_long : All (λ c. p.start + length p.types ≤ length c) columns
  columns_long =
      All-map (λ c. p.start + length p.types ≤ length c) rows p.children (subst (λ child_rows. SpansRows child_rows p.start (length p.types) p.children) held.child_rows held.spans)

  pub part_long : (f : ℕ) → f < length columns → length (part f) ≡ length p.types
  part_long f within =
      length-sliced (get_or columns f []) p.start (length p.types) (columns_long f [] within)

  -- null slots of the first field, and of another one
  nulls_same : (f : ℕ) (b : Bool) → (b ≡ true → f ≡ 0) → (if b then null_slot (variant_type t 0) else null_slot (variant_type t f)) ≡ null_slot (variant_type t f)
  nulls_same f true at = ap (λ k. null_slot (variant_type t k)) (sym (at refl))
  nulls_same f false at = refl

  -- what an index names of a field: the row where it is of that field, and else a null slot
  own_row : (f n : ℕ) → f < length columns → n < length p.types → (b : Bool) → int_eq (id_of f) (get_or p.types n (id_of 0)) ≡ b → (if b then stored as_union n else null_slot (variant_type t f)) ≡ gathered (part f) (variant_type t f) (if b then Number (pos n) else Null)
  own_row f n within row true same =
      let id = (Decides-int_eq (id_of f) (get_or p.types n (id_of 0))).0 same in
      let column = ap (λ k. column_of_id (field_ids t) 0 k columns) (sym id) ∙ own_column (field_ids t) columns f (apart as_union) within in
      let place = ap (λ child_rows. get_or (child_rows_by child_rows p.start (length p.types)) n 0) held.child_rows ∙ get_or-range_with_len p.start (length p.types) n 0 row in
      let there = get_or-take (length p.types) (drop p.start (get_or columns f [])) n Null row ∙ get_or-drop p.start (get_or columns f []) n Null in
      (λ j. get_or (column j) (place j) Null) ∙ (sym there ∙ sym (ap (λ o. unwrap_or o (null_slot (variant_type t f))) (slice_get-get_or (part f) n Null (omega (arith, row, part_long f within)))))
  own_row f n within row false same = refl

  part_named : (f : ℕ) → f < length columns → (s : Slot) → IsKey (length p.types) s → sparse_part (id_of f) (variant_type t f) (gathered (union_rows p) t s) ≡ gathered (part f) (variant_type t f) (own f s)
  part_named f within =
      let u = variant_type t f in
      let some : 0 < length columns = omega (arith, within) in
      each_key (length p.types) (λ s. sparse_part (id_of f) u (gathered (union_rows p) t s) ≡ gathered (part f) u (own f s)) (ap (sparse_part (id_of f) u) (none_stored as_union) ∙ nulls_same f (int_eq (id_of f) (id_of 0)) (λ told. apart as_union f 0 within some ((Decides-int_eq (id_of f) (id_of 0)).0 told))) (λ n row.
      let bit : get_or (have_id (id_of f) p.types) n false ≡ int_eq (id_of f) (get_or p.types n (id_of 0)) = get_or-map (int_eq (id_of f)) p.types n (id_of 0) false row in
      ap (sparse_part (id_of f) u) (row_stored as_union n row) ∙ (own_row f n within row (int_eq (id_of f) (get_or p.types n (id_of 0))) refl ∙ ap (λ b. gathered (part f) u (if b then Number (pos n) else Null)) (sym bit)))

  part_is : (f : ℕ) → field_part t f made ≡ map (sparse_part (id_of f) (variant_type t f)) made
  part_is f = ap (λ mode. part_of_id mode (id_of f) (variant_type t f) made) held.mode

  -- what a field has of the rows: those of its own by index
  pub field_taken : (f : ℕ) → f < length columns → gather (part f) (map (own f) indices) (variant_type t f) ≡ field_part t f made
  field_taken f within =
      let u = variant_type t f in
      map-map (gathered (part f) u) (own f) indices ∙ (sym (map-agree (IsKey (length p.types)) _ _ (part_named f within) indices keys) ∙ (sym (map-map (sparse_part (id_of f) u) (gathered (union_rows p) t) indices) ∙ sym (part_is f)))

  takes : (types : List ℤ) → types ≡ map (taken_id p) indices → TakesUnion p indices types
  takes types types_are = record { held = as_union; keys = keys; types_are = types_are }

  -- each row has a known id
  pub all_named : (types : List ℤ) → types ≡ map (taken_id p) indices → (i : ℕ) → i < length made → (w : Slot) × (get_or made i Null ≡ Variant (get_or types i (pos 0)) w) × IsKnown (field_ids t) (length (field_types t)) (get_or types i (pos 0))
  all_named types types_are = (known_rows (takes types types_are)).named

  pub as_long : (types : List ℤ) → types ≡ map (taken_id p) indices → length types ≡ length made
  as_long types types_are = (known_rows (takes types types_are)).long

  -- the array of a field, and the part of it that lies beside the rows
  module _ (fields : List AnyArray) (children : map layout_of fields ≡ p.children) (f : ℕ) (within : f < length fields) (a : AnyArray) (read : a ≡ get_or fields f a) where
    field : IsField p f (layout_of a)
    field = field_is p held.fields fields children f within a read

    inside : f < length columns
    inside = omega (arith, field.within, length-map p.children rows)

    pub spans_rows : p.start + length p.types ≤ length (any_array_rows a)
    spans_rows =
        subst (λ c. p.start + length p.types ≤ length c) field.column (columns_long f [] inside)

    module _ (q : AnyArray) (cut : layout_of q ≡ slice_of (layout_of a) p.start (length p.types)) (cut_rows : any_array_rows q ≡ sliced (any_array_rows a) p.start (length p.types)) where
      pub q_rows : any_array_rows q ≡ part f
      q_rows = cut_rows ∙ ap (λ ys. sliced ys p.start (length p.types)) (sym field.column)

      pub q_type : any_array_type q ≡ variant_type t f
      q_type =
          ap type_of_layout cut ∙ (type_of_part (layout_of a) p.start (length p.types) ∙ field.child_type)

      pub q_names : NamesPart p indices f q (map (own f) indices)
      q_names =
          record {
            inside = subst (λ n. AreKeys n (map (own f) indices)) (sym (ap length q_rows ∙ part_long f inside)) (valid_keys (Some (have_id (id_of f) p.types)) (length p.types) indices keys);
            array_type = q_type;
            rows = (λ i. gather (q_rows i) (map (own f) indices) (q_type i)) ∙ field_taken f inside;
            less_deep = omega (arith, ap depth cut ∙ depth_of_part (layout_of a) p.start (length p.types), field.less_deep);
          }
