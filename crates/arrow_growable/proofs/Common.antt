-- The names that many proofs cite, passed on from one place: of the standard library, and of the words of clauses. Declares nothing.
pub use Rattle.std.proofs.Common.{All, Bool, Bor, Err, Global, IfOk, List, None, Ok, Option, Result, Some, Vec, [], ap, append_assoc, ap₂, arith, bit_or, cond, drop, false, flat_map, get_or, if◌then◌else◌, inl, inr, le-div_iff_mul-le, length, length-append, map, not, of_z, pos, refl, replicate, rules, slice_index, subst, suc, sym, take, to_z, true, w32, w8, zero, ℕ, ℤ, ◌%◌, ◌*◌, ◌++◌, ◌+◌, ◌-◌, ◌/◌, ◌<◌, ◌==◌, ◌^◌, ◌∙◌, ◌∷◌, ◌≡◌, ◌≤ℤ◌, ◌≤◌, ◌⊎◌}
pub use Rattle.std.proofs.Math.Nat.{add-mul, eq-or-lt_of_le, lt_of_not-le, mul-div_cancel, mul-le-mul_left, mul-le-mul_right, mul-lt-mul_of_pos_right, pow-le-pow_right}
pub use Rattle.std.proofs.Math.Seq.{drop-cons, get_or-append_seam, take-add, take-append-add, take-suc}
pub use Rattle.std.proofs.lemmas.Bool.Decides.{Decides-eqb, Decides-int_eq, same_from_decides}
pub use Rattle.std.proofs.lemmas.Grind.{get_or_default_zero}
pub use Rattle.std.proofs.lemmas.Int.{ints, to_z-of_z, to_z_pos}
pub use Rattle.std.proofs.lemmas.List.{append-nil, drop-drop, drop-replicate, drop_all, drop_at, drop_more, ext_get_or, get_or-append-add, get_or-drop, get_or-map, get_or-replicate, get_or-set_other, get_or-set_same, get_or-take, get_or_append_left, get_or_default, length-drop, length-map, length-replicate, length-set, length-take, length-take-le, map-append, replicate-append-replicate, same_lists, take-append-drop, take-replicate, take-take, take_all, take_at, take_more}
pub use Rattle.std.proofs.lemmas.List.Concat.{flat_map-cons}
pub use Rattle.std.proofs.lemmas.List.Elements.{All-append, All-cons, All-drop, All-head, All-map, All-more, All-nil, All-same, All-tail, All-take}
pub use Rattle.std.proofs.lemmas.List.FromFn.{get_or-map-range_with_len, get_or-range_with_len, length-map-range_with_len, length-range_with_len, map-range_with_len_more}
pub use Rattle.std.proofs.lemmas.List.Sums.{sum_by-append, sum_by-cons}
pub use Rattle.std.proofs.lemmas.Option.{get_or_from_slice_get, slice_get-get_or, slice_get-map, slice_get_read}
pub use Rattle.std.proofs.lemmas.Result.{IfOk-weaker}
pub use Rattle.std.proofs.lemmas.Simd.{bitmask_splat, map-map, mask_l-lt}
pub use Rattle.std.proofs.lemmas.Slice.{drop-append-drop}
pub use Rattle.std.proofs.lemmas.Slice.Zip.{get_or-zip, length-zip}
pub use Rattle.std.specs.Int.RustNames.{FitsSigned}
pub use Rattle.std.specs.List.{drop-map, range_with_len, take-map, zip}
pub use Rattle.std.specs.Ordering.{int_eq}
pub use Rattle.std.specs.Prelude.{IfSome, IsErrAnd, IsOkUnless, OnErr, OnOk, min, option_copied, option_map, slice_get, slice_index_or, ◌↔◌}
pub use Rattle.std.specs.Vec.{vec_len}
pub use Rattle.arrow_arrays.proofs.FitNullLemmas.{whole_product}
pub use Rattle.arrow_arrays.proofs.KeyLemmas.{key_read}
pub use Rattle.arrow_arrays.proofs.NullLemmas.{map_constant}
pub use Rattle.arrow_arrays.proofs.NullPartsLemmas.{columns_of_arrays, count_children, rows_of_arrays}
pub use Rattle.arrow_arrays.proofs.PartLemmas.{across-sliced, length-fixed_items, length-masked_le, range-sliced, union_items-sliced}
pub use Rattle.arrow_arrays.proofs.ShapeLemmas.{dictionary_child, dictionary_shape, list_shape, list_shaped, null_slot-shape, plain_shape, shape_in, shape_of, struct_columns, struct_shape}
pub use Rattle.arrow_arrays.proofs.SliceLemmas.{ChangedUpTo, all_changed, changed_next, changed_read, in_map, rest_as_was, written}
pub use Rattle.arrow_arrays.proofs.StructLemmas.{columns_of-to_layouts, length-across, length-stacked}
pub use Rattle.arrow_arrays.proofs.TypeLemmas.{types_of_layouts, union_has_field, some_items}
pub use Rattle.arrow_arrays.proofs.UnionLemmas.{column_at, not_told}
pub use Rattle.arrow_arrays.specs.Any.{Kind, any_array_rows, any_array_type, dictionary_kind, fixed_size_list_kind, kind_in, layout_of, layouts_in, list_kind, map_kind, struct_kind, union_kind}
pub use Rattle.arrow_arrays.specs.AnyKeys.{key_rows}
pub use Rattle.arrow_arrays.specs.AnyOffsetsBuffer.{lists_of, offsets_of}
pub use Rattle.arrow_arrays.specs.Crowded.{CrowdedAmong, CrowdedPart, CrowdedRow, CrowdedVariant, Unjoined, UnjoinedBy, UnjoinedPart, child_at, child_of, greatest_key, nth_layout, values_before}
pub use Rattle.arrow_arrays.specs.FixedListParts.{FitsItems, FixedListParts, fixed_list_layout, fixed_list_rows}
pub use Rattle.arrow_arrays.specs.KeyedParts.{AreKeys, IsKey, KeyedParts, key_in, keyed_layout, keyed_rows, keys_in}
pub use Rattle.arrow_arrays.specs.Layout.{Layout, Layouts, across, column_length, column_of_id, columns_of, field_ids, fielded, fixed, fixed_items, flat, from_layouts, items_row, keyed_item, list_items, listed, more_layouts, no_layouts, rows, stacked, struct_items, to_layouts, type_of_layout, union_items, variant_at}
pub use Rattle.arrow_arrays.specs.ListParts.{ListParts, list_layout, list_rows}
pub use Rattle.arrow_arrays.specs.StructParts.{FitsColumns, HaveRows, IsStruct, StructParts, row_count, struct_layout, struct_rows}
pub use Rattle.arrow_arrays.specs.TypeDepth.{deepest, type_depth}
pub use Rattle.arrow_arrays.specs.TypeParts.{IsFlatType, field_types, item_type, list_size, mode_in}
pub use Rattle.arrow_arrays.specs.UnionParts.{FindsField, FitsMode, FitsOffsets, HoldsUnion, IsInside, IsKnown, SpansRows, UnionParts, child_row_of, child_rows_by, child_rows_of, mode_by, rows_of_field, union_layout, union_layout_by, union_rows}
pub use Rattle.arrow_arrays.specs.declared.array.any.AnyArray.{AnyArray}
pub use Rattle.arrow_flat.proofs.PieceLemmas.{length-pieces}
pub use Rattle.arrow_flat.specs.DictionaryScalar.{values_in}
pub use Rattle.arrow_flat.specs.Faults.{IsCarriedAs}
pub use Rattle.arrow_flat.specs.Parts.{FitsRows, IsValue, MarksNulls, bits_of_slice}
pub use Rattle.arrow_flat.specs.PieceLaws.{chunks-sliced, length-chunks}
pub use Rattle.arrow_flat.specs.Pieces.{chunks, pieces, pieces_from}
pub use Rattle.arrow_flat_growable.proofs.FixedRowsLemmas.{chunks-append}
pub use Rattle.arrow_flat_growable.proofs.FlatLemmas.{appended_rows, first_is, source_is, too_many}
pub use Rattle.arrow_flat_growable.proofs.GrownRowLemmas.{empty_grown, empty_rows, last_behind, part_cut, total_pieces}
pub use Rattle.arrow_flat_growable.proofs.ResultLemmas.{on_ok, passed_on}
pub use Rattle.arrow_flat_growable.proofs.ValidRowLemmas.{run_long, valid_grown, valid_last, valid_moved}
pub use Rattle.arrow_flat_growable.specs.Flat.{BindsAll, flat_layout}
pub use Rattle.arrow_flat_growable.specs.FlatLaws.{fits_count}
pub use Rattle.arrow_flat_growable.specs.Grown.{AreCrowded, AreOfOneType, AreThere, CannotHold, CountsRows, FitsItself, FitsWith, Grown, HasFailed, HoldsRows, IsFailedOrMemory, NamesRows, RefusedBy, appended, bound_to, empty_over, first_type, named_rows, null_rows_of, rows_among, source_at}
pub use Rattle.arrow_flat_growable.specs.GrownRows.{AreGrown, filled, total, valid_values}
pub use Rattle.arrow_flat_growable.specs.Keys.{BindsKeys, KeyFits, SomePasses, grown_key, grown_key_type, key_slots, key_sources, zero_key}
pub use Rattle.arrow_flat_growable.specs.MaskLaws.{length-bits_of_slice, length-filled, mask-append, mask-filled, mask-part, mask-unset}
pub use Rattle.arrow_flat_growable.specs.Nulls.{null_layout}
pub use Rattle.arrow_growable.specs.AnyGrowable.{IsFlat, grown_of}
pub use Rattle.arrow_growable.specs.Bound.{bound_layouts}
pub use Rattle.arrow_growable.specs.Child.{AreBoundAs, BindsRows, CannotGrow, CrowdsIn, GrownBy, IsWell, LiesIn, NoneBeneath, Rises, SameBound, SomeCannotGrow, SomeCannotHoldNulls, bound_rows, emptied_of, grown_by, grown_by_nulls, source_rows, spread}
pub use Rattle.arrow_growable.specs.Dictionary.{AreUncrowded, HoldsKeys, IsGrownDictionary, dictionary_rows, joined_values}
pub use Rattle.arrow_growable.specs.Fields.{BindsFields, GrownFields, SomeFieldRefused}
pub use Rattle.arrow_growable.specs.Form.{Form, by_fields, by_offsets, by_size, child_type, child_types, column_in, first_column, items_by, nested_rows, null_slots_by}
pub use Rattle.arrow_growable.specs.FormLaws.{child_less_deep, deepest_child, deepest_of_fields}
pub use Rattle.arrow_growable.specs.GrowableSpans.{IsFormOf, IsFresh, IsSoundForm, PassesGreatest, emptied, form_of, form_with, form_with_nulls, grown_arrays}
pub use Rattle.arrow_growable.specs.Growing.{HasAppended}
pub use Rattle.arrow_growable.specs.GrownUnion.{AreFew, CanBind, GrowsVariants, HaveFieldTypes, HoldsVariants, IsBoundUnion, IsGrownUnion, IsUnionOver, NullsRefused, OthersCannotHold, RowsRefused, RunRefused, SomeColumnUnjoined, absent, no_offsets, nth_grown, offsets_in, placed_behind, places_by, source_type, union_children, variant_rows, with_others, with_rows, with_run}
pub use Rattle.arrow_growable.specs.Join.{CannotAppendAll, CannotJoin}
pub use Rattle.arrow_growable.specs.Lies.{Lies}
pub use Rattle.arrow_growable.specs.Lists.{AnyItems, FitsLists, HoldsLists, IsListType, SparesItems, greatest_in, lists_rows}
pub use Rattle.arrow_growable.specs.Nested.{AreWhole, HoldsEven, HoldsNested, IsGrownNested, IsNestedType, fresh_children, rows_of_all}
pub use Rattle.arrow_growable.specs.Source.{IsOfForm, IsSource, IsWhole, children_in, no_child, nth_child, nulls_in, place_in, validity_in}
pub use Rattle.arrow_growable.specs.Spans.{AreEven, AreSpans, span_arrays, span_count, span_form, span_nulls, span_place}
pub use Rattle.arrow_growable.specs.UnionRuns.{IsRun}
pub use Rattle.arrow_growable.specs.Variants.{HoldsColumns, IsSparse, field_part, have_id, part_of_id, run_rows, variant_type}
pub use Rattle.arrow_growable.specs.declared.growable.any.AnyGrowable.{AnyGrowable}
pub use Rattle.arrow_growable.specs.declared.growable.bound.BoundNested.{BoundNested}
pub use Rattle.arrow_growable.specs.declared.growable.bound.BoundNested.TheVariants.{FixedSizeLists, Lists, Maps, Structs}
pub use Rattle.arrow_growable.specs.declared.growable.grown_spans.GrowableSpans.{GrowableSpans}
pub use Rattle.arrow_growable.specs.declared.growable.grown_spans.GrowableSpans.TheVariants.{Fields, FixedSize}
pub use Rattle.arrow_growable.specs.declared.growable.spans.Spans.{Spans}
pub use Rattle.arrow_growable.specs.declared.growable.spans.Spans.TheVariants.{Large, Map, Small}
pub use Rattle.arrow_memory.proofs.OffsetLemmas.{at_most_last, map_sliced, offsets_rise}
pub use Rattle.arrow_memory.proofs.SlicedLemmas.{length-sliced, sliced-cut}
pub use Rattle.arrow_memory.proofs.ValidLemmas.{valid_sound}
pub use Rattle.arrow_memory.specs.Gathered.{AnswersBits, AnswersWords, GathersBits}
pub use Rattle.arrow_memory.specs.Offsets.{IsOffsets, RisesFrom, last_of, valid_ends, valid_items, with_valid_rows}
pub use Rattle.arrow_memory.specs.Sliced.{sliced}
pub use Rattle.arrow_types.proofs.FitsLemmas.{Fits-beginning, Fits-nil, all_items-append, child_rows-append, dense_part-append}
pub use Rattle.arrow_types.proofs.RowsLemmas.{drop_at_read, length-mask, take_at_read}
pub use Rattle.arrow_types.proofs.SelectLemmas.{joined-append}
pub use Rattle.arrow_types.proofs.SlotLemmas.{from_slots-to_slots, null_slot-no_union}
pub use Rattle.arrow_types.proofs.TypeLemmas.{type_of-Union}
pub use Rattle.arrow_types.specs.ArrowType.{ArrowFields, ArrowType, ListForm, PlainType, dictionary, extension, field, fixed_size, from_fields, list, more_fields, no_fields, null, plain, small, struct, type_in, union}
pub use Rattle.arrow_types.specs.Carried.{AreTypeIds, IsCarried, IsTypeId}
pub use Rattle.arrow_types.specs.Fits.{Fits, FitsDense, FitsParts, FitsSparse, all_items, child_rows, dense_part, fixed_items_in, part_in, slot_or, sparse_part}
pub use Rattle.arrow_types.specs.Greatest.{greatest_number}
pub use Rattle.arrow_types.specs.Physical.{physical_type_of, plain_physical_type}
pub use Rattle.arrow_types.specs.Relation.{is_null}
pub use Rattle.arrow_types.specs.Rows.{joined, mask, masked, valid_at}
pub use Rattle.arrow_types.specs.Slot.{Dict, Null, Number, Parts, Slot, Slots, Variant, id_at, more_slots, no_slots, null_slot, to_slots}
pub use Rattle.arrow_types.specs.TypeOf.{fields_of, ids_of, type_of}
pub use Rattle.arrow_types.specs.declared.datatypes.DataType.{DataType, Union}
pub use Rattle.arrow_types.specs.declared.datatypes.Field.{Field}
pub use Rattle.arrow_types.specs.declared.datatypes.IntegerType.{IntegerType}
pub use Rattle.arrow_types.specs.declared.datatypes.UnionMode.{UnionMode}
pub use Rattle.arrow_types.specs.declared.datatypes.UnionMode.TheVariants.{Dense, Sparse}
pub use Rattle.arrow_types.specs.declared.datatypes.physical_type.PhysicalType.{PhysicalType}
pub use Rattle.arrow_types.specs.declared.error.Error.{Error}
pub use Rattle.arrow_types.specs.declared.error.Error.TheVariants.{Failed, OutOfMemory}
pub use lib.ListN.{set}
pub use mir.Val.{SFits}
