use Rattle.std.proofs.Common.{◌+◌, ◌≤◌, length, map, refl, ap, ◌∙◌, arith}
use Rattle.std.proofs.lemmas.List.{length-set}
use Rattle.arrow_types.specs.TypeOf.{type_of}
use Rattle.arrow_arrays.specs.Any.{layout_of}
use Rattle.arrow_arrays.specs.FixedListParts.{FixedListParts, fixed_list_layout}
use Rattle.arrow_arrays.specs.Layout.{depth, rows}
use Rattle.arrow_arrays.specs.SliceOf.{slice_of}
use Rattle.arrow_arrays.specs.StructParts.{StructParts, struct_layout}
use Rattle.arrow_arrays.proofs.DepthLemmas.{depth_at}
use Rattle.arrow_arrays.proofs.FixedLemmas.{fixed_items_within, fixed_bits_within, fixed_list_part_is, fixed_list_part_rows}
use Rattle.arrow_arrays.proofs.SliceLemmas.{rest_as_was, changed_read, changed_next, all_changed, in_map, length_as, written}
use Rattle.arrow_arrays.proofs.StructLemmas.{parts_of-to_layouts, struct_part_within, struct_bits_within, struct_part_is, struct_part_rows, in_each}
use Rattle.arrow_arrays.proofs.array.+slice.Goals as goal

pub any::AnyArray::slice-returns-in-Struct-clause-part : goal.any::AnyArray::slice-returns-in-Struct-clause-part
any::AnyArray::slice-returns-in-Struct-clause-part t c =
    rw (c.slice-in-Struct.ensures.part, c.in-Struct.is, parts_of-to_layouts c.in-Struct.array.children c.args.offset c.args.len) refl

pub fixed_size_list::FixedSizeListArray::slice-overflow_mul-offset : goal.fixed_size_list::FixedSizeListArray::slice-overflow_mul-offset
fixed_size_list::FixedSizeListArray::slice-overflow_mul-offset t c =
    let p : FixedListParts = record { arrow_type = type_of c.self.inside.data_type; validity = c.self.inside.validity; size = c.self.inside.size; child = layout_of c.self.inside.values.value } in
    omega (arith, fixed_items_within p _ c.args.offset c.args.len c.self.invariant c.self.view_is c.requires, c.self.invariant.counted)

pub fixed_size_list::FixedSizeListArray::slice-overflow_mul-len : goal.fixed_size_list::FixedSizeListArray::slice-overflow_mul-len
fixed_size_list::FixedSizeListArray::slice-overflow_mul-len t c =
    let p : FixedListParts = record { arrow_type = type_of c.self.inside.data_type; validity = c.self.inside.validity; size = c.self.inside.size; child = layout_of c.self.inside.values.value } in
    omega (arith, fixed_items_within p _ c.args.offset c.args.len c.self.invariant c.self.view_is c.requires, c.self.invariant.counted)

pub fixed_size_list::FixedSizeListArray::slice-slice-requires : goal.fixed_size_list::FixedSizeListArray::slice-slice-requires
fixed_size_list::FixedSizeListArray::slice-slice-requires t c =
    let p : FixedListParts = record { arrow_type = type_of c.self.inside.data_type; validity = c.self.inside.validity; size = c.self.inside.size; child = layout_of c.self.inside.values.value } in
    rw c.deref_mut.ensures.value (omega (arith, c.decreases, ap (λ q. depth (fixed_list_layout q)) c.self.view_is), fixed_items_within p _ c.args.offset c.args.len c.self.invariant c.self.view_is c.requires)

pub fixed_size_list::FixedSizeListArray::slice-slice-requires-2 : goal.fixed_size_list::FixedSizeListArray::slice-slice-requires-2
fixed_size_list::FixedSizeListArray::slice-slice-requires-2 t c =
    let p : FixedListParts = record { arrow_type = type_of c.self.inside.data_type; validity = c.self.inside.validity; size = c.self.inside.size; child = layout_of c.self.inside.values.value } in
    fixed_bits_within p _ c.args.offset c.args.len c.self.invariant c.self.view_is c.requires

pub fixed_size_list::FixedSizeListArray::slice-invariant_of-self : goal.fixed_size_list::FixedSizeListArray::slice-invariant_of-self
fixed_size_list::FixedSizeListArray::slice-invariant_of-self t c =
    let p : FixedListParts = record { arrow_type = type_of c.self.inside.data_type; validity = c.self.inside.validity; size = c.self.inside.size; child = layout_of c.self.inside.values.value } in
    rw (c.slice.ensures.part, c.deref_mut.ensures.value, c.slice-2.ensures) (fixed_list_part_is p _ c.args.offset c.args.len c.self.invariant c.self.view_is c.requires)

pub fixed_size_list::FixedSizeListArray::slice-returns-clause-rows : goal.fixed_size_list::FixedSizeListArray::slice-returns-clause-rows
fixed_size_list::FixedSizeListArray::slice-returns-clause-rows t c =
    let p : FixedListParts = record { arrow_type = type_of c.self.inside.data_type; validity = c.self.inside.validity; size = c.self.inside.size; child = layout_of c.self.inside.values.value } in
    rw (c.slice.ensures.part, c.deref_mut.ensures.value, c.slice-2.ensures, ← c.self.view_is) (fixed_list_part_rows p _ c.args.offset c.args.len c.self.view_is c.requires)

pub struct_::StructArray::slice-slice_all-requires : goal.struct_::StructArray::slice-slice_all-requires
struct_::StructArray::slice-slice_all-requires t c =
    let p : StructParts = record { arrow_type = type_of c.self.inside.data_type; validity = c.self.inside.validity; children = map layout_of c.self.inside.values.items } in
    rw c.deref_mut.ensures.value (omega (arith, c.decreases, ap (λ q. depth (struct_layout q)) c.self.view_is), in_each _ _ _ c.self.invariant.fits.0 (struct_part_within p _ c.args.offset c.args.len c.self.invariant c.self.view_is c.requires))

pub struct_::StructArray::slice-slice-requires : goal.struct_::StructArray::slice-slice-requires
struct_::StructArray::slice-slice-requires t c =
    let p : StructParts = record { arrow_type = type_of c.self.inside.data_type; validity = c.self.inside.validity; children = map layout_of c.self.inside.values.items } in
    struct_bits_within p _ c.args.offset c.args.len c.self.invariant c.self.view_is c.requires

pub struct_::StructArray::slice-invariant_of-self : goal.struct_::StructArray::slice-invariant_of-self
struct_::StructArray::slice-invariant_of-self t c =
    let p : StructParts = record { arrow_type = type_of c.self.inside.data_type; validity = c.self.inside.validity; children = map layout_of c.self.inside.values.items } in
    let back = written c.slice_all.new.values c.self.inside.values.items c.self.inside.values.len (length_as layout_of (λ l. slice_of l c.args.offset c.args.len) c.slice_all.new.values c.deref_mut.result.now c.slice_all.ensures ∙ c.deref_mut.ensures.len) in
    rw (back, c.slice_all.ensures, c.deref_mut.ensures.value, c.slice.ensures) (struct_part_is p _ c.args.offset c.args.len c.self.invariant c.self.view_is c.requires)

pub struct_::StructArray::slice-returns-clause-rows : goal.struct_::StructArray::slice-returns-clause-rows
struct_::StructArray::slice-returns-clause-rows t c =
    let p : StructParts = record { arrow_type = type_of c.self.inside.data_type; validity = c.self.inside.validity; children = map layout_of c.self.inside.values.items } in
    let back = written c.slice_all.new.values c.self.inside.values.items c.self.inside.values.len (length_as layout_of (λ l. slice_of l c.args.offset c.args.len) c.slice_all.new.values c.deref_mut.result.now c.slice_all.ensures ∙ c.deref_mut.ensures.len) in
    rw (back, c.slice_all.ensures, c.deref_mut.ensures.value, c.slice.ensures, ← c.self.view_is) (struct_part_rows p _ c.args.offset c.args.len c.self.view_is c.requires)

pub struct_::slice_all-loop-array-init : goal.struct_::slice_all-loop-array-init
struct_::slice_all-loop-array-init t c =
    ((refl, λ k d within. refl), λ k d within. absurd (omega (arith, within)))

pub struct_::slice_all-slice-requires : goal.struct_::slice_all-slice-requires
struct_::slice_all-slice-requires t c =
    let now = c.loop-array.invariant.0.1 c.loop-array.array-index c.array-item.result (omega arith) in
    let among = c.loop-array-test.true in
    rw now (omega (arith, c.decreases, depth_at layout_of c.args.values.now c.loop-array.array-index c.array-item.result among), in_map layout_of (λ l. c.args.offset + c.args.len ≤ length (rows l)) c.args.values.now c.loop-array.array-index c.array-item.result c.requires among)

pub struct_::slice_all-loop-array-preserved : goal.struct_::slice_all-loop-array-preserved
struct_::slice_all-loop-array-preserved t c =
    let items = c.loop-array.array-items in
    let among = c.loop-array-test.true in
    let now = c.loop-array.invariant.0.1 c.loop-array.array-index c.array-item.result (omega arith) in
    let new = changed_read layout_of (λ l. slice_of l c.args.offset c.args.len) items c.args.values.now c.loop-array.array-index c.slice.new.self c.array-item.result among now c.slice.ensures.part in
    ((length-set items c.loop-array.array-index c.slice.new.self ∙ c.loop-array.invariant.0.0, rest_as_was items c.args.values.now c.loop-array.array-index c.slice.new.self c.loop-array.invariant.0.1), changed_next layout_of (λ l. slice_of l c.args.offset c.args.len) items c.args.values.now c.loop-array.array-index c.slice.new.self (omega (arith, among, c.loop-array.invariant.0.0)) c.loop-array.invariant.1 new)

pub struct_::slice_all-returns : goal.struct_::slice_all-returns
struct_::slice_all-returns t c =
    all_changed layout_of (λ l. slice_of l c.args.offset c.args.len) c.loop-array.array-items c.args.values.now c.loop-array.invariant.0.0 (λ k d before. c.loop-array.invariant.1 k d (omega (arith, before, c.loop-array-test.false)))
