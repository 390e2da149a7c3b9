use Rattle.std.proofs.Common.{◌≡◌, ◌<◌, suc, length, map, refl, sym, subst, ap, ◌∙◌, arith}
use Rattle.std.specs.Bool.{Decides, IsTrue}
use Rattle.std.proofs.lemmas.Bool.Decides.{Decides-eqb}
use Rattle.std.proofs.lemmas.List.{length-map}
use Rattle.arrow_types.specs.Slot.{Null}
use Rattle.arrow_types.specs.TypeOf.{type_of}
use Rattle.arrow_flat.proofs.PartsLemmas.{sliced_next}
use Rattle.arrow_arrays.specs.Any.{layout_of, any_array_type, any_array_rows}
use Rattle.arrow_arrays.specs.AnyOffsetsBuffer.{offsets_of}
use Rattle.arrow_arrays.specs.FixedListParts.{FixedListParts, fixed_list_rows}
use Rattle.arrow_arrays.specs.KeyedParts.{keyed_rows}
use Rattle.arrow_arrays.specs.Layout.{depth, rows, type_of_layout, field_ids}
use Rattle.arrow_arrays.specs.ListParts.{ListParts, IsList, list_rows}
use Rattle.arrow_arrays.specs.Spans.{AreSameSpans}
use Rattle.arrow_arrays.specs.StructParts.{StructParts, IsStruct, struct_rows}
use Rattle.arrow_arrays.specs.UnionFalls.{depth_of_union}
use Rattle.arrow_arrays.specs.UnionParts.{UnionParts, IsUnion, child_rows_of, row_in, union_layout}
use Rattle.arrow_arrays.proofs.DepthLemmas.{depth_at}
use Rattle.arrow_arrays.proofs.EqualLemmas.{null_range, span_lengths, one_decides, spans_decide, all_columns, columns_next, column_of_row, each_at, as_many, one_field, one_id, rows_read, variants_decide, same_ids}
use Rattle.arrow_arrays.proofs.FixedLemmas.{fixed_child}
use Rattle.arrow_arrays.proofs.ListLemmas.{list_child, list_items_type}
use Rattle.arrow_arrays.proofs.StructLemmas.{struct_children, struct_types, row_is_value, struct_row_null, struct_row_valid, in_each}
use Rattle.arrow_arrays.proofs.TypeLemmas.{maps_at, types_of_layouts}
use Rattle.arrow_arrays.proofs.UnionLemmas.{union_children, union_types}
use Rattle.arrow_arrays.proofs.array.+equal.Goals as goal

pub any::AnyArray::equal_range-returns-in-Null-Null : goal.any::AnyArray::equal_range-returns-in-Null-Null
any::AnyArray::equal_range-returns-in-Null-Null t c =
    let left = null_range c.args.self.now c.in-Null-Null.field-0-0 c.args.start c.args.len c.in-Null-Null.is-0 c.requires.here in
    let right = null_range c.args.other.now c.in-Null-Null.field-0-1 c.args.other_start c.args.len c.in-Null-Null.is-1 c.requires.there in
    (λ e. left ∙ sym right, λ same. refl)

pub any::equal_spans-returns-else-len-other_len : goal.any::equal_spans-returns-else-len-other_len
any::equal_spans-returns-else-len-other_len t c =
    let s = c.in-Some-Some in (
      λ e. absurd (c.if-len-other_len.false ((Decides-eqb s.len s.other_len).0 e)),
      λ same. absurd (c.if-len-other_len.false (span_lengths (any_array_rows c.args.values.now) (any_array_rows c.args.others.now) c.args.span c.args.other_span s.start s.len s.other_start s.other_len s.is-0 s.is-1 c.requires.here c.requires.there same)),
    )

pub list::ListArray::equal_range-loop-i-preserved : goal.list::ListArray::equal_range-loop-i-preserved
list::ListArray::equal_range-loop-i-preserved t c =
    sliced_next (list_rows c.args.self.now) (list_rows c.args.other.now) c.args.start c.args.other_start c.loop-i.i Null (omega (arith, c.requires.here, c.loop-i-test.true)) (omega (arith, c.requires.there, c.loop-i-test.true)) c.loop-i.invariant (c.equal_row.ensures.0 c.if-not-equal_row.false)

pub map::MapArray::equal_range-loop-i-preserved : goal.map::MapArray::equal_range-loop-i-preserved
map::MapArray::equal_range-loop-i-preserved t c =
    sliced_next (list_rows c.args.self.now) (list_rows c.args.other.now) c.args.start c.args.other_start c.loop-i.i Null (omega (arith, c.requires.here, c.loop-i-test.true)) (omega (arith, c.requires.there, c.loop-i-test.true)) c.loop-i.invariant (c.equal_row.ensures.0 c.if-not-equal_row.false)

pub fixed_size_list::FixedSizeListArray::equal_range-loop-i-preserved : goal.fixed_size_list::FixedSizeListArray::equal_range-loop-i-preserved
fixed_size_list::FixedSizeListArray::equal_range-loop-i-preserved t c =
    sliced_next (fixed_list_rows c.args.self.now) (fixed_list_rows c.args.other.now) c.args.start c.args.other_start c.loop-i.i Null (omega (arith, c.requires.here, c.loop-i-test.true)) (omega (arith, c.requires.there, c.loop-i-test.true)) c.loop-i.invariant (c.equal_row.ensures.0 c.if-not-equal_row.false)

pub dictionary::DictionaryArray::equal_range-loop-i-preserved : goal.dictionary::DictionaryArray::equal_range-loop-i-preserved
dictionary::DictionaryArray::equal_range-loop-i-preserved t c =
    sliced_next (keyed_rows c.args.self.now) (keyed_rows c.args.other.now) c.args.start c.args.other_start c.loop-i.i Null (omega (arith, c.requires.here, c.loop-i-test.true)) (omega (arith, c.requires.there, c.loop-i-test.true)) c.loop-i.invariant (c.equal_row.ensures.0 c.if-not-equal_row.false)

pub struct_::StructArray::equal_range-loop-i-preserved : goal.struct_::StructArray::equal_range-loop-i-preserved
struct_::StructArray::equal_range-loop-i-preserved t c =
    sliced_next (struct_rows c.args.self.now) (struct_rows c.args.other.now) c.args.start c.args.other_start c.loop-i.i Null (omega (arith, c.requires.here, c.loop-i-test.true)) (omega (arith, c.requires.there, c.loop-i-test.true)) c.loop-i.invariant (c.equal_row.ensures.0 c.if-not-equal_row.false)

pub list::ListArray::equal_row-returns : goal.list::ListArray::equal_row-returns
list::ListArray::equal_row-returns t c =
    let p : ListParts = record { arrow_type = type_of c.self.inside.data_type; validity = c.self.inside.validity; offsets = offsets_of c.self.inside.offsets; child = layout_of c.self.inside.values.value } in
    let q : ListParts = record { arrow_type = type_of c.other.inside.data_type; validity = c.other.inside.validity; offsets = offsets_of c.other.inside.offsets; child = layout_of c.other.inside.values.value } in
    let left = ap layout_of c.deref.ensures ∙ list_child p _ c.self.view_is in
    let right = ap layout_of c.deref-2.ensures ∙ list_child q _ c.other.view_is in
    let told : Decides c.equal_spans.result (AreSameSpans (rows c.args.self.now.child) c.span.result (rows c.args.other.now.child) c.span-2.result) = rw (← left, ← right) c.equal_spans.ensures in
    spans_decide (rows c.args.self.now.child) (rows c.args.other.now.child) c.span.result c.span-2.result c.equal_spans.result _ _ c.span.ensures.row c.span-2.ensures.row told

pub map::MapArray::equal_row-returns : goal.map::MapArray::equal_row-returns
map::MapArray::equal_row-returns t c =
    let p : ListParts = record { arrow_type = type_of c.self.inside.data_type; validity = c.self.inside.validity; offsets = c.self.inside.offsets; child = layout_of c.self.inside.field.value } in
    let q : ListParts = record { arrow_type = type_of c.other.inside.data_type; validity = c.other.inside.validity; offsets = c.other.inside.offsets; child = layout_of c.other.inside.field.value } in
    let left = ap layout_of c.deref.ensures ∙ list_child p _ c.self.view_is in
    let right = ap layout_of c.deref-2.ensures ∙ list_child q _ c.other.view_is in
    let told : Decides c.equal_spans.result (AreSameSpans (rows c.args.self.now.child) c.span.result (rows c.args.other.now.child) c.span-2.result) = rw (← left, ← right) c.equal_spans.ensures in
    spans_decide (rows c.args.self.now.child) (rows c.args.other.now.child) c.span.result c.span-2.result c.equal_spans.result _ _ c.span.ensures.row c.span-2.ensures.row told

pub fixed_size_list::FixedSizeListArray::equal_row-returns : goal.fixed_size_list::FixedSizeListArray::equal_row-returns
fixed_size_list::FixedSizeListArray::equal_row-returns t c =
    let p : FixedListParts = record { arrow_type = type_of c.self.inside.data_type; validity = c.self.inside.validity; size = c.self.inside.size; child = layout_of c.self.inside.values.value } in
    let q : FixedListParts = record { arrow_type = type_of c.other.inside.data_type; validity = c.other.inside.validity; size = c.other.inside.size; child = layout_of c.other.inside.values.value } in
    let left = ap layout_of c.deref.ensures ∙ fixed_child p _ c.self.view_is in
    let right = ap layout_of c.deref-2.ensures ∙ fixed_child q _ c.other.view_is in
    let told : Decides c.equal_spans.result (AreSameSpans (rows c.args.self.now.child) c.span.result (rows c.args.other.now.child) c.span-2.result) = rw (← left, ← right) c.equal_spans.ensures in
    spans_decide (rows c.args.self.now.child) (rows c.args.other.now.child) c.span.result c.span-2.result c.equal_spans.result _ _ c.span.ensures.row c.span-2.ensures.row told

pub map::MapArray::equal_row-equal_spans-requires : goal.map::MapArray::equal_row-equal_spans-requires
map::MapArray::equal_row-equal_spans-requires t c =
    let p : ListParts = record { arrow_type = type_of c.self.inside.data_type; validity = c.self.inside.validity; offsets = c.self.inside.offsets; child = layout_of c.self.inside.field.value } in
    let q : ListParts = record { arrow_type = type_of c.other.inside.data_type; validity = c.other.inside.validity; offsets = c.other.inside.offsets; child = layout_of c.other.inside.field.value } in
    let left = ap layout_of c.deref.ensures ∙ list_child p _ c.self.view_is in
    let right = ap layout_of c.deref-2.ensures ∙ list_child q _ c.other.view_is in
    let one = list_items_type c.args.self.now c.args.other.now (subst (IsList _) c.self.view_is c.self.invariant) (subst (IsList _) c.other.view_is c.other.invariant) c.requires.one_type in
    rw (left, right) (omega (arith, c.decreases), (one, (c.span.ensures.within, c.span-2.ensures.within)))

pub struct_::StructArray::equal_row-equal_parts-requires : goal.struct_::StructArray::equal_row-equal_parts-requires
struct_::StructArray::equal_row-equal_parts-requires t c =
    let p : StructParts = record { arrow_type = type_of c.self.inside.data_type; validity = c.self.inside.validity; children = map layout_of c.self.inside.values.items } in
    let q : StructParts = record { arrow_type = type_of c.other.inside.data_type; validity = c.other.inside.validity; children = map layout_of c.other.inside.values.items } in
    let held = subst IsStruct c.self.view_is c.self.invariant in
    let other = subst IsStruct c.other.view_is c.other.invariant in
    let left = ap (map layout_of) c.deref.ensures.value ∙ struct_children p _ c.self.view_is in
    let right = ap (map layout_of) c.deref-in-true-true.ensures.value ∙ struct_children q _ c.other.view_is in
    let one = struct_types c.args.self.now c.args.other.now held other c.requires.one_type in
    rw (← types_of_layouts c.deref.result.now, ← types_of_layouts c.deref-in-true-true.result.now, left, right) (omega (arith, c.decreases), (one, (in_each _ (suc c.args.i) _ held.fits.0 c.requires.here, in_each _ (suc c.args.j) _ other.fits.0 c.requires.there)))

pub struct_::StructArray::equal_row-returns-in-true-true : goal.struct_::StructArray::equal_row-returns-in-true-true
struct_::StructArray::equal_row-returns-in-true-true t c =
    let p : StructParts = record { arrow_type = type_of c.self.inside.data_type; validity = c.self.inside.validity; children = map layout_of c.self.inside.values.items } in
    let q : StructParts = record { arrow_type = type_of c.other.inside.data_type; validity = c.other.inside.validity; children = map layout_of c.other.inside.values.items } in
    let held = subst IsStruct c.self.view_is c.self.invariant in
    let other = subst IsStruct c.other.view_is c.other.invariant in
    let left = ap (map layout_of) c.deref.ensures.value ∙ struct_children p _ c.self.view_is in
    let right = ap (map layout_of) c.deref-in-true-true.ensures.value ∙ struct_children q _ c.other.view_is in
    rw (struct_row_valid c.args.self.now c.args.i held c.requires.here (sym c.in-true-true.ensures), struct_row_valid c.args.other.now c.args.j other c.requires.there (sym c.in-true-true.ensures'), ← left, ← right) c.equal_parts.ensures

pub struct_::StructArray::equal_row-returns-in-false-false : goal.struct_::StructArray::equal_row-returns-in-false-false
struct_::StructArray::equal_row-returns-in-false-false t c =
    let held = subst IsStruct c.self.view_is c.self.invariant in
    let other = subst IsStruct c.other.view_is c.other.invariant in
    let null = struct_row_null c.args.self.now c.args.i held c.requires.here (sym c.in-false-false.ensures) in
    let other_null = struct_row_null c.args.other.now c.args.j other c.requires.there (sym c.in-false-false.ensures') in
    (λ e. null ∙ sym other_null, λ same. refl)

pub struct_::StructArray::equal_row-returns-in-true-false : goal.struct_::StructArray::equal_row-returns-in-true-false
struct_::StructArray::equal_row-returns-in-true-false t c =
    let held = subst IsStruct c.self.view_is c.self.invariant in
    let other = subst IsStruct c.other.view_is c.other.invariant in
    let valid = struct_row_valid c.args.self.now c.args.i held c.requires.here (sym c.in-true-false.ensures) in
    let null = struct_row_null c.args.other.now c.args.j other c.requires.there (sym c.in-true-false.ensures') in
    (λ e. cc, λ same. absurd (row_is_value c.args.i c.args.self.now.children (sym valid ∙ (same ∙ null))))

pub struct_::StructArray::equal_row-returns-in-true-false-2 : goal.struct_::StructArray::equal_row-returns-in-true-false-2
struct_::StructArray::equal_row-returns-in-true-false-2 t c =
    let held = subst IsStruct c.self.view_is c.self.invariant in
    let other = subst IsStruct c.other.view_is c.other.invariant in
    let null = struct_row_null c.args.self.now c.args.i held c.requires.here (sym c.in-true-false.ensures) in
    let valid = struct_row_valid c.args.other.now c.args.j other c.requires.there (sym c.in-true-false.ensures') in
    (λ e. cc, λ same. absurd (row_is_value c.args.j c.args.other.now.children (sym valid ∙ (sym same ∙ null))))

pub struct_::equal_parts-equal_range-requires : goal.struct_::equal_parts-equal_range-requires
struct_::equal_parts-equal_range-requires t c =
    let xs = c.args.values.now in
    let ys = c.args.others.now in
    let k = c.loop-k.k in
    let x = c.index-values-k.result in
    let y = c.index-others-k.result in
    let here = c.loop-k-test.true in
    let there : k < length ys = omega (arith, here, as_many xs ys c.requires.one_type) in
    let row = each_at (λ l. c.args.i < length (rows l)) xs k x here c.index-values-k.is c.requires.here in
    let other_row = each_at (λ l. c.args.j < length (rows l)) ys k y there c.index-others-k.is c.requires.there in
    let falls = depth_at layout_of xs k x here in
    (omega (arith, c.decreases, falls, ap (λ z. depth (layout_of z)) c.index-values-k.is), (maps_at any_array_type any_array_type xs ys k x y here there c.index-values-k.is c.index-others-k.is c.requires.one_type, (omega (arith, row), omega (arith, other_row))))

pub struct_::equal_parts-returns-then-not-equal_range : goal.struct_::equal_parts-returns-then-not-equal_range
struct_::equal_parts-returns-then-not-equal_range t c =
    let xs = c.args.values.now in
    let ys = c.args.others.now in
    let k = c.loop-k.k in
    let x = c.index-values-k.result in
    let y = c.index-others-k.result in
    let here = c.loop-k-test.true in
    let there : k < length ys = omega (arith, here, as_many xs ys c.requires.one_type) in
    let row = each_at (λ l. c.args.i < length (rows l)) xs k x here c.index-values-k.is c.requires.here in
    let other_row = each_at (λ l. c.args.j < length (rows l)) ys k y there c.index-others-k.is c.requires.there in
    let told = one_decides (any_array_rows x) (any_array_rows y) c.args.i c.args.j c.equal_range.result row other_row c.equal_range.ensures in
    (λ e. cc, λ same. subst IsTrue c.if-not-equal_range.true (told.1 (column_of_row c.args.i c.args.j k xs ys x y here there c.index-values-k.is c.index-others-k.is same)))

pub struct_::equal_parts-loop-k-preserved : goal.struct_::equal_parts-loop-k-preserved
struct_::equal_parts-loop-k-preserved t c =
    let xs = c.args.values.now in
    let ys = c.args.others.now in
    let k = c.loop-k.k in
    let x = c.index-values-k.result in
    let y = c.index-others-k.result in
    let here = c.loop-k-test.true in
    let there : k < length ys = omega (arith, here, as_many xs ys c.requires.one_type) in
    let row = each_at (λ l. c.args.i < length (rows l)) xs k x here c.index-values-k.is c.requires.here in
    let other_row = each_at (λ l. c.args.j < length (rows l)) ys k y there c.index-others-k.is c.requires.there in
    let told = one_decides (any_array_rows x) (any_array_rows y) c.args.i c.args.j c.equal_range.result row other_row c.equal_range.ensures in
    columns_next c.args.i c.args.j k xs ys x y here there c.index-values-k.is c.index-others-k.is c.loop-k.invariant (told.0 c.if-not-equal_range.false)

pub struct_::equal_parts-returns : goal.struct_::equal_parts-returns
struct_::equal_parts-returns t c =
    (λ e. all_columns c.args.i c.args.j c.loop-k.k c.args.values.now c.args.others.now (omega (arith, c.loop-k-test.false)) (as_many c.args.values.now c.args.others.now c.requires.one_type) c.loop-k.invariant, λ same. refl)

pub union::UnionArray::equal_row-equal_range-requires : goal.union::UnionArray::equal_row-equal_range-requires
union::UnionArray::equal_row-equal_range-requires t c =
    let p : UnionParts = record { arrow_type = type_of c.self.inside.data_type; types = c.self.inside.types; child_rows = child_rows_of c.self.inside.offsets; start = c.self.inside.start; children = map layout_of c.self.inside.fields.items } in
    let q : UnionParts = record { arrow_type = type_of c.other.inside.data_type; types = c.other.inside.types; child_rows = child_rows_of c.other.inside.offsets; start = c.other.inside.start; children = map layout_of c.other.inside.fields.items } in
    let held = subst (IsUnion c.self.inside.offsets) c.self.view_is c.self.invariant in
    let other = subst (IsUnion c.other.inside.offsets) c.other.view_is c.other.invariant in
    let f = c.index-field.ensures in
    let g = c.index-other_field.ensures in
    let ids = ap field_ids c.requires.one_type in
    let xs = c.self.inside.fields.items in
    let ys = c.other.inside.fields.items in
    let x = c.index.result.now in
    let y = c.index-then-field-other_field.result.now in
    let same = c.if-field-other_field.true in
    let left = rows_read c.args.self.now.children xs c.index-field.result.0 c.index-field.result.0 x (union_children p _ c.self.view_is) refl f.field.0 c.index.ensures in
    let right = rows_read c.args.other.now.children ys c.index-other_field.result.0 c.index-field.result.0 y (union_children q _ c.other.view_is) (sym same) g.field.0 c.index-then-field-other_field.ensures in
    let row = subst (λ zs. c.index-field.result.1 < length zs) left f.within in
    let other_row = subst (λ zs. c.index-other_field.result.1 < length zs) right g.within in
    let k = c.index-field.result.0 in
    let here : k < length xs = omega (arith, f.field.0, ap length (union_children p _ c.self.view_is), length-map xs layout_of) in
    let there : k < length ys = omega (arith, g.field.0, same, ap length (union_children q _ c.other.view_is), length-map ys layout_of) in
    let one : map any_array_type xs ≡ map any_array_type ys = sym (types_of_layouts xs) ∙ (ap (map type_of_layout) (union_children p _ c.self.view_is) ∙ (union_types held other c.requires.one_type ∙ (sym (ap (map type_of_layout) (union_children q _ c.other.view_is)) ∙ types_of_layouts ys))) in
    let deep = depth_of_union p.arrow_type p.types p.child_rows p.start p.children in
    (omega (arith, c.decreases, deep, ap (λ r. depth (union_layout r)) c.self.view_is, depth_at layout_of xs k x here, ap (λ z. depth (layout_of z)) c.index.ensures), (maps_at any_array_type any_array_type xs ys k x y here there c.index.ensures c.index-then-field-other_field.ensures one, (omega (arith, row), omega (arith, other_row))))

pub union::UnionArray::equal_row-returns-then-field-other_field : goal.union::UnionArray::equal_row-returns-then-field-other_field
union::UnionArray::equal_row-returns-then-field-other_field t c =
    let p : UnionParts = record { arrow_type = type_of c.self.inside.data_type; types = c.self.inside.types; child_rows = child_rows_of c.self.inside.offsets; start = c.self.inside.start; children = map layout_of c.self.inside.fields.items } in
    let q : UnionParts = record { arrow_type = type_of c.other.inside.data_type; types = c.other.inside.types; child_rows = child_rows_of c.other.inside.offsets; start = c.other.inside.start; children = map layout_of c.other.inside.fields.items } in
    let held = subst (IsUnion c.self.inside.offsets) c.self.view_is c.self.invariant in
    let other = subst (IsUnion c.other.inside.offsets) c.other.view_is c.other.invariant in
    let f = c.index-field.ensures in
    let g = c.index-other_field.ensures in
    let ids = ap field_ids c.requires.one_type in
    let xs = c.self.inside.fields.items in
    let ys = c.other.inside.fields.items in
    let x = c.index.result.now in
    let y = c.index-then-field-other_field.result.now in
    let same = c.if-field-other_field.true in
    let left = rows_read c.args.self.now.children xs c.index-field.result.0 c.index-field.result.0 x (union_children p _ c.self.view_is) refl f.field.0 c.index.ensures in
    let right = rows_read c.args.other.now.children ys c.index-other_field.result.0 c.index-field.result.0 y (union_children q _ c.other.view_is) (sym same) g.field.0 c.index-then-field-other_field.ensures in
    let row = subst (λ zs. c.index-field.result.1 < length zs) left f.within in
    let other_row = subst (λ zs. c.index-other_field.result.1 < length zs) right g.within in
    let told = one_decides (any_array_rows x) (any_array_rows y) c.index-field.result.1 c.index-other_field.result.1 c.equal_range.result row other_row c.equal_range.ensures in
    let rows_told : Decides c.equal_range.result (row_in c.args.self.now.children c.index-field.result.0 c.index-field.result.1 ≡ row_in c.args.other.now.children c.index-other_field.result.0 c.index-other_field.result.1) = rw (left, right) told in
    variants_decide _ _ _ _ _ _ c.equal_range.result f.row g.row (one_id _ _ _ _ _ _ _ _ ids same f.field g.field) rows_told

pub union::UnionArray::equal_row-returns-else-field-other_field : goal.union::UnionArray::equal_row-returns-else-field-other_field
union::UnionArray::equal_row-returns-else-field-other_field t c =
    let f = c.index-field.ensures in
    let g = c.index-other_field.ensures in
    let ids = ap field_ids c.requires.one_type in (
      λ e. absurd (c.if-field-other_field.false ((Decides-eqb c.index-field.result.0 c.index-other_field.result.0).0 e)),
      λ same. absurd (c.if-field-other_field.false (one_field _ _ _ _ _ _ _ _ ids (same_ids _ _ _ _ _ _ f.row g.row same) f.field g.field)),
    )
