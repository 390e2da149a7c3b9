-- The names that many proofs cite, passed on from one place: of the standard library, and of the words of clauses. Declares nothing.
pub use Rattle.std.proofs.Common.{All, Bool, Bor, Contains, Err, IfErr, IfOk, IfSome, List, None, Ok, OnOk, Option, Result, Some, [], ap, append_assoc, arith, bit_and, bit_or, cond, count_by, count_ones, drop, drop-cons, false, flat_map, get_or, if◌then◌else◌, inl, inr, int_eq, length, map, max, min, nat_eq, negsuc, of_z, option_copied, option_map, pos, refl, replicate, rules, slice_get, slice_index, slice_index_or, subst, suc, sum, sum_by, sym, take, to_z, true, unsigned_abs, unwrap_or, vec_capacity, vec_len, w64, w8, zero, ℕ, ℤ, ◌%◌, ◌*◌, ◌++◌, ◌+◌, ◌-◌, ◌/◌, ◌<ℤ◌, ◌<◌, ◌==◌, ◌^◌, ◌↔◌, ◌∙◌, ◌∷◌, ◌≡◌, ◌≤◌}
pub use Rattle.std.proofs.Math.Nat.{add-mul, mod-eq_of_lt, mul-div_cancel, mul-le-mul_left, mul-mod_left, mul_comm, pow-le-pow_right}
pub use Rattle.std.proofs.Math.Seq.{take-append-add, take-suc}
pub use Rattle.std.proofs.lemmas.Bool.{cases_lt}
pub use Rattle.std.proofs.lemmas.Bool.Decides.{Decides-eqb, Decides-like, nat_tests, same_from_decides}
pub use Rattle.std.proofs.lemmas.Grind.{flat_map-append}
pub use Rattle.std.proofs.lemmas.Int.{ints, to_z-of_z}
pub use Rattle.std.proofs.lemmas.List.{append-nil, drop-append-le, drop-drop, drop_all, drop_at, get_or-map, get_or_past, length-append, length-drop, length-map, length-replicate, length-take, map-append, replicate-append-replicate, take-append-drop, take-take, take_all, take_at, take_min}
pub use Rattle.std.proofs.lemmas.List.Concat.{flat_map-cons}
pub use Rattle.std.proofs.lemmas.List.Elements.{All-append, All-cons, All-head, All-map, All-more, All-nil, All-push, All-same, All-tail, All-weaker}
pub use Rattle.std.proofs.lemmas.List.Folds.{concat-append, length-flat_map-take}
pub use Rattle.std.proofs.lemmas.List.FromFn.{get_or-map-range_with_len}
pub use Rattle.std.proofs.lemmas.List.Sums.{count_by-le-length, sum-map, sum_by-append, sum_by-cons}
pub use Rattle.std.proofs.lemmas.Nat.{and_le_l, and_le_r, ones_le_self, or_lt}
pub use Rattle.std.proofs.lemmas.Nat.Bits.{bit_at-lt, bit_at-suc, bit_at-trailing_ones, bit_at-trailing_zeros, bit_at-zero, bit_at_above, bit_at_and, bit_at_lowest, bit_at_ones, bit_at_or, shr_and_one}
pub use Rattle.std.proofs.lemmas.Option.{get_or_from_slice_get, slice_get-get_or, slice_get-map, slice_get_read, slice_get_within}
pub use Rattle.std.proofs.lemmas.Result.{IfOk-weaker}
pub use Rattle.std.proofs.lemmas.Simd.{map-map, mask_l-lt}
pub use Rattle.std.specs.Int.{bit_at, bit_not, from_bool, trailing_ones, trailing_zeros}
pub use Rattle.std.specs.Int.Count.{trailing_of_zero}
pub use Rattle.std.specs.List.{concat, range_with_len}
pub use Rattle.arrow_arrays.proofs.ColumnLemmas.{only_memory}
pub use Rattle.arrow_arrays.proofs.FaultLemmas.{failed}
pub use Rattle.arrow_arrays.proofs.KeyLemmas.{each_key}
pub use Rattle.arrow_arrays.proofs.ShapeLemmas.{shape_of}
pub use Rattle.arrow_arrays.proofs.StructLemmas.{length-struct_rows}
pub use Rattle.arrow_arrays.specs.Any.{Kind, any_array_meaning, any_array_rows, any_array_type, kind_in, layout_of, union_kind}
pub use Rattle.arrow_arrays.specs.AnyKeys.{key_rows}
pub use Rattle.arrow_arrays.specs.AnyOffsetsBuffer.{offsets_of}
pub use Rattle.arrow_arrays.specs.FixedListParts.{FitsItems, FixedListParts, fixed_list_rows}
pub use Rattle.arrow_arrays.specs.KeyedParts.{AreKeys, IsKey, key_in, keyed_rows, keys_in}
pub use Rattle.arrow_arrays.specs.Layout.{Layout, columns_of, field_ids, fixed_items, items_row, keyed_item, list_items, rows, struct_items, to_layouts, type_of_layout}
pub use Rattle.arrow_arrays.specs.ListParts.{ListParts, list_rows}
pub use Rattle.arrow_arrays.specs.SliceOf.{slice_of}
pub use Rattle.arrow_arrays.specs.StructParts.{AreColumns, FitsColumns, HaveRows, IsStruct, StructParts, struct_rows}
pub use Rattle.arrow_arrays.specs.TypeParts.{field_types, item_type, list_size}
pub use Rattle.arrow_arrays.specs.UnionParts.{FitsMode, UnionParts, mode_by, union_rows}
pub use Rattle.arrow_arrays.specs.declared.array.any.AnyArray.{AnyArray}
pub use Rattle.arrow_choice.proofs.ChosenLists.{all_kept, lists_are, lists_fit}
pub use Rattle.arrow_choice.proofs.KeyLemmas.{rows_alone}
pub use Rattle.arrow_choice.proofs.RangeLemmas.{NamesUpTo, all_named, all_shortest, cuts, cuts_on, goes_on, kept_label, least, named_on_side, names_past, names_run, on_side, plain_named, plain_shortest, shortest}
pub use Rattle.arrow_choice.specs.Keys.{HasNoDictionary}
pub use Rattle.arrow_flat.proofs.PartsLemmas.{length-masked}
pub use Rattle.arrow_flat.proofs.PieceLemmas.{length-byte_slots, length-pieces, piece_at}
pub use Rattle.arrow_flat.specs.ByteRows.{byte_slots, row_bytes}
pub use Rattle.arrow_flat.specs.Faults.{IsCarriedAs}
pub use Rattle.arrow_flat.specs.Parts.{FitsRows, IsValue, boolean_rows, rows_by}
pub use Rattle.arrow_flat.specs.PieceLaws.{length-chunks}
pub use Rattle.arrow_flat.specs.Pieces.{chunks, pieces}
pub use Rattle.arrow_flat.specs.RowByRow.{AreAlikeLong}
pub use Rattle.arrow_flat_growable.proofs.EndLemmas.{concatenated_length, counted_ends, counted_sum, ends_append, ends_last, last_ends, rows_between}
pub use Rattle.arrow_flat_growable.proofs.FitsLemmas.{fits_only_counted, is_only_counted}
pub use Rattle.arrow_flat_growable.proofs.ResultLemmas.{on_ok, passed_on}
pub use Rattle.arrow_flat_growable.proofs.ValidRowLemmas.{run_copied, run_long, set_run}
pub use Rattle.arrow_flat_growable.specs.ByteLaws.{fits_rows, slots_fit}
pub use Rattle.arrow_flat_growable.specs.Bytes.{IsBytesType}
pub use Rattle.arrow_flat_growable.specs.Ends.{concatenated, row_in, row_length}
pub use Rattle.arrow_flat_growable.specs.FlatLaws.{is_counted, null_of_counted}
pub use Rattle.arrow_flat_growable.specs.Grown.{AreOfOneType, CannotHold, FitsItself, Grown, HasFailed, IsRefusal, bound_to, first_type, rows_among, source_at}
pub use Rattle.arrow_flat_growable.specs.GrownRows.{total, valid_values}
pub use Rattle.arrow_growable.proofs.ColumnLemmas.{fits_sized, list_child_types, sized_column}
pub use Rattle.arrow_growable.proofs.DictionaryLemmas.{counted_fit}
pub use Rattle.arrow_growable.proofs.FieldColumns.{column_long, makes_next}
pub use Rattle.arrow_growable.proofs.GrowLemmas.{holds_more, holds_none, holds_whole, nulls, refuses_last, refuses_whole, too_many_first}
pub use Rattle.arrow_growable.proofs.JoinedLemmas.{slice_get-map_read}
pub use Rattle.arrow_growable.proofs.KindLemmas.{no_plain, shape_of_dictionaries, type_of_fixed_size_lists, type_of_structs}
pub use Rattle.arrow_growable.proofs.MakeLemmas.{map_twice}
pub use Rattle.arrow_growable.proofs.UnionMakeLemmas.{type_of_unions}
pub use Rattle.arrow_growable.specs.AnyGrowable.{grown_of}
pub use Rattle.arrow_growable.specs.Form.{child_type, column_in}
pub use Rattle.arrow_growable.specs.Growing.{HasAppended}
pub use Rattle.arrow_growable.specs.Lists.{IsListType, greatest_in}
pub use Rattle.arrow_growable.specs.Variants.{IsSparse, have_id, variant_type}
pub use Rattle.arrow_memory.proofs.AppendLemmas.{bit_at-shr}
pub use Rattle.arrow_memory.proofs.BitLemmas.{bits_of_word, word_more}
pub use Rattle.arrow_memory.proofs.BitmapLemmas.{count_by-not}
pub use Rattle.arrow_memory.proofs.OffsetLemmas.{at_most_last, offsets_rise}
pub use Rattle.arrow_memory.proofs.RunLemmas.{AreAlike, alike_are}
pub use Rattle.arrow_memory.proofs.SlicedLemmas.{length-sliced}
pub use Rattle.arrow_memory.proofs.WordLemmas.{count_ones-word_of, length-low_bits, range-add, word_of-low_bits, low_bits_add}
pub use Rattle.arrow_memory.specs.Bits.{both_bits}
pub use Rattle.arrow_memory.specs.Ends.{ends_from}
pub use Rattle.arrow_memory.specs.Grown.{IsGrowthError}
pub use Rattle.arrow_memory.specs.Offsets.{IsOffsets, last_of}
pub use Rattle.arrow_memory.specs.Sliced.{sliced}
pub use Rattle.arrow_memory.specs.Words.{low_bits, set_count, word_of}
pub use Rattle.arrow_select.specs.Arrays.{rows_in, types_in}
pub use Rattle.arrow_select.specs.Batches.{AreIndicesByBatch, chosen_by_batch, kept_by_batch, met, moved_by_batch, moved_index, moved_ranges, shifted_by_edge, taken_by_batch, with_range}
pub use Rattle.arrow_select.specs.Extended.{HasRowsAt, RefusesRange, extended, kept_among, ranged_among, with_kept, with_ranges}
pub use Rattle.arrow_select.specs.Growing.{between}
pub use Rattle.arrow_select.specs.Laws.{CanTakeByFields, IsStructOrUnion, RowsFit, dense_nulls, dense_rows, kept_columns, places_from, true_places}
pub use Rattle.arrow_select.specs.Ranges.{IsPlan, IsRangesOf, ended, mask_at}
pub use Rattle.arrow_select.specs.Selected.{FirstDoesNotFit, IsLowestRun, IsRunOf, KeptColumns, KeptUnder, at_set, item_bits, item_mask, kept_rows_under, selected_rows, set_in_word}
unfoldable pub use Rattle.arrow_select.specs.Selected.{word_bits}
pub use Rattle.arrow_select.specs.Selection.{mask_in}
pub use Rattle.arrow_take.proofs.IndexLemmas.{Stores, length-gather, map-agree, nil_of, row_taken}
pub use Rattle.arrow_take.proofs.SpanLemmas.{spanned_more, spans_fit}
pub use Rattle.arrow_take.proofs.SparseRows.{arrays_fit, arrays_known, arrays_long, arrays_rows, arrays_typed, parts_next}
pub use Rattle.arrow_take.proofs.TakenBytes.{rows_fit}
pub use Rattle.arrow_take.proofs.TakenFields.{fields_fit, fields_taken, taken_fits}
pub use Rattle.arrow_take.proofs.TakenVariants.{as_long, field_taken, long, no_rows, part, part_long, q_rows, q_type, spans_rows}
pub use Rattle.arrow_take.specs.Spans.{IsSpanWithin, spanned}
pub use Rattle.arrow_take.specs.SparseUnions.{HasPart, HaveParts, taken_id}
pub use Rattle.arrow_take.specs.Taken.{AreIndices, AreTaken, CanTake, MarksTaken, is_taken_valid, named_bit, taken_rows, valid_index}
pub use Rattle.arrow_types.proofs.FitsLemmas.{Fits-beginning, Fits-nil}
pub use Rattle.arrow_types.proofs.RowsLemmas.{drop_at_read, take_at_read}
pub use Rattle.arrow_types.proofs.SelectLemmas.{chosen-append, gather-append, length-select, select-append}
pub use Rattle.arrow_types.proofs.SlotLemmas.{from_slots-to_slots, null_slot-no_union}
pub use Rattle.arrow_types.specs.ArrowType.{ArrowFields, ArrowType, ListForm, PlainType, binary, dictionary, extension, field, fixed_size, fixed_size_binary, from_fields, large, large_binary, large_utf8, list, mapped, more_fields, no_fields, null, plain, small, struct, type_in, union, utf8}
pub use Rattle.arrow_types.specs.Carried.{AreCarried}
pub use Rattle.arrow_types.specs.Fits.{Fits, FitsDense, FitsForm, FitsParts, FitsPlain, FitsSparse, IsCounted, all_items, byte_count, child_rows, dense_part, fixed_items_in, items_in, part_in, sparse_part}
pub use Rattle.arrow_types.specs.Greatest.{greatest_offset}
pub use Rattle.arrow_types.specs.Physical.{physical_type_of}
pub use Rattle.arrow_types.specs.Ranges.{IsShortest, named, rows_from, true_rows}
pub use Rattle.arrow_types.specs.Rows.{chosen, gather, gathered, joined, mask, mask_of, masked, select, selects, shifted}
pub use Rattle.arrow_types.specs.Slot.{Boolean, Null, Number, Slot, Variant, id_at, null_slot}
pub use Rattle.arrow_types.specs.TypeOf.{type_of}
pub use Rattle.arrow_types.specs.declared.datatypes.UnionMode.TheVariants.{Dense, Sparse}
pub use Rattle.arrow_types.specs.declared.datatypes.physical_type.PhysicalType.{PhysicalType}
pub use Rattle.arrow_types.specs.declared.error.Error.{Error}
pub use Rattle.arrow_types.specs.declared.error.Error.TheVariants.{Failed, OutOfMemory, Overflow}
pub use mir.Val.{SFits}
