-- The names that many proofs cite, passed on from one place: of the standard library, and of the words of clauses. Declares nothing.
pub use Rattle.std.proofs.Common.{All, Bool, Bor, Err, List, None, Option, Some, [], ap, append_assoc, arith, drop, drop-cons, false, get_or, if◌then◌else◌, inl, inr, length, length-drop, map, min, nat_eq, not, pos, refl, replicate, rules, slice_index, subst, suc, sym, take, true, w64, zero, zero-add, ℕ, ℤ, ◌%◌, ◌*◌, ◌++◌, ◌+◌, ◌-◌, ◌/◌, ◌<◌, ◌^◌, ◌∙◌, ◌∷◌, ◌≡◌, ◌≤◌}
pub use Rattle.std.proofs.Math.Seq.{drop-append_seam, take-append_seam}
pub use Rattle.std.proofs.lemmas.Bool.{and_parts, cases_lt, not-false, not-true}
pub use Rattle.std.proofs.lemmas.Bool.Decides.{nat_tests}
pub use Rattle.std.proofs.lemmas.Int.{ints}
pub use Rattle.std.proofs.lemmas.List.{append-nil, drop-drop, ext_get_or, get_or-drop, get_or-map, get_or-replicate, get_or-take, get_or_default, length-append, length-map, length-replicate, length-take, map-append, map-id, same_lists, take-append-drop, take_all, take_min}
pub use Rattle.std.proofs.lemmas.List.Elements.{All-append, All-cons, All-map, All-more, All-nil, All-same}
pub use Rattle.std.proofs.lemmas.List.FromFn.{get_or-map-range_with_len, get_or-range_with_len, length-map-range_with_len, length-range_with_len, map-range_with_len_more, take-map-range_with_len}
pub use Rattle.std.proofs.lemmas.List.Sums.{sum-map, sum_by-append, sum_by-cons, sum_by-take-le}
pub use Rattle.std.proofs.lemmas.Nat.{and_le_l}
pub use Rattle.std.proofs.lemmas.Nat.Bits.{bit_at-zero, bit_at_ones, shr_and_one}
pub use Rattle.std.proofs.lemmas.Option.{get_or_from_slice_get, slice_get-get_or, slice_get_read, slice_get_within}
pub use Rattle.std.proofs.lemmas.Simd.{map-map}
pub use Rattle.std.specs.Int.{bit_at, bit_not}
pub use Rattle.std.specs.List.{range_with_len}
pub use Rattle.std.specs.Prelude.{IfOk, IfSome, Ok, OnOk, Result, bit_and, bit_or, option_copied, slice_get, slice_index_or, sum, sum_by, ◌&&◌, ◌==◌, ◌||◌}
pub use Rattle.std.specs.Vec.{vec_capacity, vec_len}
pub use Rattle.arrow_arrays.proofs.DepthLemmas.{depth_at}
pub use Rattle.arrow_arrays.proofs.ShapeLemmas.{list_shape, plain_shape, shape_in, shape_of}
pub use Rattle.arrow_arrays.proofs.StructLemmas.{length-struct_rows, struct_row_null, struct_row_valid, struct_types}
pub use Rattle.arrow_arrays.proofs.TypeLemmas.{struct_holds, types_of_layouts}
pub use Rattle.arrow_arrays.specs.Any.{any_array_rows, any_array_type, dictionary_kind, kind_in, kind_of, layout_of}
pub use Rattle.arrow_arrays.specs.AnyOffsetsBuffer.{lists_of, offsets_of}
pub use Rattle.arrow_arrays.specs.Crowded.{CrowdedAmong, CrowdedPart, CrowdedRow, CrowdedVariant, Unjoined, UnjoinedBy, UnjoinedPart, child_at, child_of}
pub use Rattle.arrow_arrays.specs.Layout.{Layout, Layouts, dense, depth, depth_of_all, field_ids, fielded, fixed, flat, items_row, keyed, list_items, listed, more_layouts, no_layouts, rows, sparse, to_layouts, type_of_layout}
pub use Rattle.arrow_arrays.specs.ListParts.{ListParts, list_rows}
pub use Rattle.arrow_arrays.specs.StructParts.{HaveRows, HoldsStruct, IsStruct, StructParts, row_count, row_of, struct_layout, struct_rows}
pub use Rattle.arrow_arrays.specs.TypeParts.{field_types, item_type}
pub use Rattle.arrow_arrays.specs.UnionParts.{UnionParts, union_layout, union_layout_by}
pub use Rattle.arrow_arrays.specs.declared.array.any.AnyArray.{AnyArray}
pub use Rattle.arrow_arrays.specs.declared.array.any.AnyArray.TheVariants.{Dictionary, FixedSizeList, Map, Struct, Union}
pub use Rattle.arrow_arrays.specs.declared.array.list.AnyOffsetsBuffer.{AnyOffsetsBuffer}
pub use Rattle.arrow_arrays.specs.declared.array.list.AnyOffsetsBuffer.TheVariants.{Large, Small}
pub use Rattle.arrow_choice.specs.Choice.{AppendsRows, AreAsLong, AreOneLength, CannotAppendChosen, CannotChoose, CannotHoldRun, ChosenDoNotFit, ChosenIsCrowded, MarksChosen, SomeCannotChoose, all_chosen, chosen_by, chosen_columns, chosen_lists, row_chosen, row_under, rows_from, run_rows, truth_slot, valid_chosen}
pub use Rattle.arrow_choice.specs.Keys.{HasNoDictionary, HasNoKeys, HaveNoDictionary, HaveNoKeys}
pub use Rattle.arrow_choice.specs.Runs.{AreRowsOf, IsRunIn, IsRunTo, TakesRun, is_truth, truth_by}
pub use Rattle.arrow_choice.specs.Sides.{side_of, sides_from}
pub use Rattle.arrow_flat.proofs.PartsLemmas.{bit_within, length-masked, row_at}
pub use Rattle.arrow_flat.proofs.PieceLemmas.{length-byte_slots, length-pieces, piece_at}
pub use Rattle.arrow_flat.specs.ByteRows.{ByteParts, byte_slots, row_bytes}
pub use Rattle.arrow_flat.specs.Parts.{FitsRows, Parts, bits_of_slice, boolean_rows, rows_by}
pub use Rattle.arrow_flat.specs.Pieces.{pieces}
pub use Rattle.arrow_flat_growable.proofs.EndLemmas.{concatenated-append, concatenated_length, counted_ends, counted_sum, ends_append, ends_last, last_ends, length-ends, rows_between}
pub use Rattle.arrow_flat_growable.proofs.FitsLemmas.{fits_only_counted, is_only_counted}
pub use Rattle.arrow_flat_growable.proofs.ResultLemmas.{on_ok, passed_on}
pub use Rattle.arrow_flat_growable.proofs.ValidRowLemmas.{length-valid_values, run_copied, run_long, set_run}
pub use Rattle.arrow_flat_growable.specs.ByteLaws.{counts_of, fit_by, null_of}
pub use Rattle.arrow_flat_growable.specs.Bytes.{IsBytesType}
pub use Rattle.arrow_flat_growable.specs.Ends.{concatenated, row_in, row_length}
pub use Rattle.arrow_flat_growable.specs.FlatLaws.{is_counted, null_of_counted}
pub use Rattle.arrow_flat_growable.specs.Grown.{AreOfOneType, CannotHold, FitsItself, FitsWith, Grown, NamesRows, appended, bound_to, first_type, named_rows, source_at}
pub use Rattle.arrow_flat_growable.specs.GrownRows.{total, valid_values}
pub use Rattle.arrow_growable.proofs.CrowdLemmas.{crowded_named}
pub use Rattle.arrow_growable.proofs.FieldColumns.{column_long, column_of_fits, columns_fit, first_long, makes_next, part_at, some_column}
pub use Rattle.arrow_growable.proofs.GrowLemmas.{holds_more, holds_none, named, nulls, refuses_whole, too_many_first}
pub use Rattle.arrow_growable.proofs.KindLemmas.{no_plain, shape_of_lists, type_of_fixed_size_lists, type_of_maps, type_of_structs}
pub use Rattle.arrow_growable.proofs.SourceLemmas.{from_to}
pub use Rattle.arrow_growable.proofs.UnionLoopLemmas.{union_type}
pub use Rattle.arrow_growable.proofs.UnjoinedLemmas.{child_unjoined}
pub use Rattle.arrow_growable.specs.Child.{LiesIn}
pub use Rattle.arrow_growable.specs.Form.{by_fields}
pub use Rattle.arrow_growable.specs.Growing.{HasAppended}
pub use Rattle.arrow_growable.specs.Join.{CannotJoin, DoNotFit}
pub use Rattle.arrow_growable.specs.Lists.{IsListType, greatest_in}
pub use Rattle.arrow_growable.specs.Source.{IsOfForm, children_in, no_child, nth_child}
pub use Rattle.arrow_memory.proofs.AppendLemmas.{bit_at-shr}
pub use Rattle.arrow_memory.proofs.BitLemmas.{bits_of_word}
pub use Rattle.arrow_memory.proofs.LogicLemmas.{and_each, and_not_each, not_each, or_each}
pub use Rattle.arrow_memory.proofs.OffsetLemmas.{at_most_last, offsets_rise}
pub use Rattle.arrow_memory.proofs.RunLemmas.{low_zeros}
pub use Rattle.arrow_memory.proofs.SlicedLemmas.{length-sliced}
pub use Rattle.arrow_memory.proofs.WordLemmas.{get_or-bits_in, length-bits_in, length-low_bits}
pub use Rattle.arrow_memory.specs.Ends.{ends_from}
pub use Rattle.arrow_memory.specs.Gathered.{AnswersWords}
pub use Rattle.arrow_memory.specs.Offsets.{IsOffsets, counted_on, last_of, valid_ends, valid_items, valid_length, with_row, with_rows}
pub use Rattle.arrow_memory.specs.Sliced.{sliced}
pub use Rattle.arrow_memory.specs.Words.{IsLowRun, is_set, low_bits, word_of}
pub use Rattle.arrow_types.proofs.RowsLemmas.{take_at_read}
pub use Rattle.arrow_types.proofs.SelectLemmas.{length-chosen}
pub use Rattle.arrow_types.proofs.SlotLemmas.{from_slots-to_slots, null_slot-no_union}
pub use Rattle.arrow_types.specs.ArrowType.{ArrowFields, ArrowType, PlainType, dictionary, extension, field, from_fields, large, list, mapped, more_fields, no_fields, null, plain, small, struct, type_in, union}
pub use Rattle.arrow_types.specs.Fits.{Fits, all_items, byte_count, part_in, slot_or}
pub use Rattle.arrow_types.specs.Greatest.{greatest_offset}
pub use Rattle.arrow_types.specs.Physical.{physical_type_of, plain_physical_type}
pub use Rattle.arrow_types.specs.Ranges.{IsShortest, IsShortestOfSides, named_sides, true_rows}
pub use Rattle.arrow_types.specs.Rows.{choice, chosen, mask, masked, valid_at}
pub use Rattle.arrow_types.specs.Slot.{Boolean, Null, Slot, null_slot, to_slots}
pub use Rattle.arrow_types.specs.TypeOf.{type_of}
pub use Rattle.arrow_types.specs.declared.datatypes.physical_type.PhysicalType.{PhysicalType}
