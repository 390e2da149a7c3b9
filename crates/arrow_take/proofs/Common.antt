-- The names that many proofs cite, passed on from one place: of the standard library, and of the words of clauses. Declares nothing.
pub use Rattle.std.proofs.Common.{Bool, Err, List, None, Ok, Option, Result, Some, [], ap, append_assoc, arith, bit_and, drop, false, get_or, if◌then◌else◌, inl, inr, length, map, max, nat_eq, negsuc, not, of_z, pos, refl, replicate, rules, set, slice_index, subst, suc, sym, take, take-add, to_z, true, w32, w8, zero, ℕ, ℤ, ◌%◌, ◌&&◌, ◌*◌, ◌++◌, ◌+◌, ◌-◌, ◌/◌, ◌<◌, ◌==◌, ◌^◌, ◌↔◌, ◌∙◌, ◌∷◌, ◌≡◌, ◌≤◌, ◌⊎◌}
pub use Rattle.std.proofs.Math.Nat.{eq-or-lt_of_le, mul-le-mul_right}
pub use Rattle.std.proofs.Math.Seq.{drop-append-add, drop-append_seam, get_or-append_seam, take-append_seam, take-suc}
pub use Rattle.std.proofs.lemmas.Bool.Decides.{Decides-int_eq}
pub use Rattle.std.proofs.lemmas.Grind.{get_or-set_at}
pub use Rattle.std.proofs.lemmas.Int.{ints, to_z-of_z}
pub use Rattle.std.proofs.lemmas.List.{append-nil, drop-replicate, get_or-drop, get_or-map, get_or-set_other, get_or-take, get_or_append_left, get_or_default, length-append, length-drop, length-map, length-replicate, length-set, length-take, length-take-le, map-append, nil_from_length, same_lists, take-append-drop, take-replicate, take-set, take_all, take_more_set}
pub use Rattle.std.proofs.lemmas.List.Elements.{All-cons, All-map, All-more, All-nil, All-same, All-take}
pub use Rattle.std.proofs.lemmas.List.Folds.{concat-append, map_fixed}
pub use Rattle.std.proofs.lemmas.List.FromFn.{get_or-map-range_with_len, get_or-range_with_len, length-range_with_len, map-range_with_len_more}
pub use Rattle.std.proofs.lemmas.List.Sums.{count_by_more_no, count_by_more_yes, sum-map, sum_by-cons, sum_by_more_le}
pub use Rattle.std.proofs.lemmas.Nat.Bits.{shr_and_one}
pub use Rattle.std.proofs.lemmas.Option.{get_or_from_slice_get, slice_get-get_or, slice_get-map, slice_get_read, slice_get_within}
pub use Rattle.std.proofs.lemmas.Simd.{map-map, splat_is_map}
pub use Rattle.std.proofs.lemmas.Slice.Zip.{get_or-zip, length-zip}
pub use Rattle.std.specs.Int.{bit_at, from_bool}
pub use Rattle.std.specs.List.{All, concat, range_with_len, zip}
pub use Rattle.std.specs.Ordering.{int_eq}
pub use Rattle.std.specs.Prelude.{IfOk, IfSome, bit_or, cond, count_by, option_copied, option_map, slice_get, slice_index_or, sum, sum_by, unwrap_or}
pub use Rattle.std.specs.Result.{IsErrAnd}
pub use Rattle.std.specs.Vec.{vec_capacity, vec_len}
pub use Rattle.arrow_arrays.proofs.DepthLemmas.{depth_at}
pub use Rattle.arrow_arrays.proofs.EqualLemmas.{one_row}
pub use Rattle.arrow_arrays.proofs.FitNullLemmas.{bytes_fit, whole_product}
pub use Rattle.arrow_arrays.proofs.KeyLemmas.{not_negative, null_row, number_row, each_key}
pub use Rattle.arrow_arrays.proofs.NullLemmas.{grown_copies, map_constant}
pub use Rattle.arrow_arrays.proofs.PartLemmas.{type_of_part}
pub use Rattle.arrow_arrays.proofs.ShapeLemmas.{dictionary_shape, list_shaped, null_slot-shape, plain_shape}
pub use Rattle.arrow_arrays.proofs.StructLemmas.{columns_of-to_layouts, length-struct_rows, struct_row_null, struct_row_valid}
pub use Rattle.arrow_arrays.proofs.UnionLemmas.{field_rows}
pub use Rattle.arrow_arrays.specs.Any.{any_array_rows, any_array_type, layout_of}
pub use Rattle.arrow_arrays.specs.AnyKeys.{key_rows}
pub use Rattle.arrow_arrays.specs.KeyedParts.{AreKeys, IsKey, key_in, keyed_rows, keys_in}
pub use Rattle.arrow_arrays.specs.Layout.{Layout, Layouts, across, column_of_id, columns_of, depth, depth_of_all, field_ids, fielded, fixed, keyed_item, more_layouts, no_layouts, rows, stacked, struct_items, to_layouts, type_of_layout, union_items, variant_at}
pub use Rattle.arrow_arrays.specs.SliceOf.{slice_of, slices_of}
pub use Rattle.arrow_arrays.specs.StructParts.{FitsColumns, HaveRows, IsStruct, StructParts, row_count, row_of, struct_layout, struct_rows}
pub use Rattle.arrow_arrays.specs.TypeDepth.{fields_depth, type_depth}
pub use Rattle.arrow_arrays.specs.TypeParts.{field_types, mode_in}
pub use Rattle.arrow_arrays.specs.UnionFalls.{depth_of_union}
pub use Rattle.arrow_arrays.specs.UnionParts.{FitsMode, FitsOffsets, HoldsUnion, IsInside, IsKnown, SpansRows, UnionParts, child_rows_by, child_rows_of, mode_by, row_in, rows_of_field, union_layout, union_rows}
pub use Rattle.arrow_arrays.specs.declared.array.any.AnyArray.{AnyArray}
pub use Rattle.arrow_flat.proofs.FixedLemmas.{chunk_at, length-fixed_slots}
pub use Rattle.arrow_flat.proofs.PartsLemmas.{bit_within, length-masked, row_at}
pub use Rattle.arrow_flat.proofs.PieceLemmas.{holds_at, length-pieces, piece_at, slot_of_row}
pub use Rattle.arrow_flat.specs.ByteRows.{ByteParts, byte_slots}
pub use Rattle.arrow_flat.specs.Faults.{IsCarriedAs}
pub use Rattle.arrow_flat.specs.FixedRows.{FitsBytes, FixedParts, fixed_row_bytes, fixed_size_in, fixed_slots}
pub use Rattle.arrow_flat.specs.Laws.{marked_row}
pub use Rattle.arrow_flat.specs.NullParts.{null_rows}
pub use Rattle.arrow_flat.specs.Parts.{FitsRows, IsValue, MarksNulls, Parts, boolean_rows, rows_by, with_bits}
pub use Rattle.arrow_flat.specs.Pieces.{chunks, pieces}
pub use Rattle.arrow_flat_growable.proofs.EndLemmas.{as_concatenated, concatenated_length, ends_last, ends_next, length-ends, rows_between}
pub use Rattle.arrow_flat_growable.proofs.FitsLemmas.{fits_only_counted, is_only_counted}
pub use Rattle.arrow_flat_growable.proofs.NullLemmas.{null_is_null, nulls_fit}
pub use Rattle.arrow_flat_growable.proofs.ResultLemmas.{passed_on}
pub use Rattle.arrow_flat_growable.specs.ByteLaws.{fits_rows, fits_stored, null_of, slots_fit, slots_pass}
pub use Rattle.arrow_flat_growable.specs.Bytes.{IsBytesType, SparesBytes}
pub use Rattle.arrow_flat_growable.specs.FlatLaws.{fits_counted, is_counted, null_of_counted}
pub use Rattle.arrow_flat_growable.specs.Grown.{Grown, HandsOut, first_type}
pub use Rattle.arrow_flat_growable.specs.GrownRows.{total}
pub use Rattle.arrow_growable.proofs.DictionaryLemmas.{counted_fit}
pub use Rattle.arrow_growable.proofs.FieldColumns.{column_long, column_of_fits, columns_fit, first_long, makes_next, part_at, some_column}
pub use Rattle.arrow_growable.proofs.GrowLemmas.{holds_more, holds_none, named, nulls, refuses_whole, too_many_first}
pub use Rattle.arrow_growable.proofs.KindLemmas.{shape_of_dictionaries, type_of_structs}
pub use Rattle.arrow_growable.proofs.UnionLoopLemmas.{union_type}
pub use Rattle.arrow_growable.proofs.UnionMakeLemmas.{type_of_unions}
pub use Rattle.arrow_growable.proofs.UnionRunLemmas.{rows_are}
pub use Rattle.arrow_growable.proofs.UnionTypeLemmas.{FitsPlaces, fits_variants, ids_apart, null_variant, variant_fits}
pub use Rattle.arrow_growable.proofs.VariantColumns.{AreApart, own_column}
pub use Rattle.arrow_growable.proofs.VariantLemmas.{naturals_back}
pub use Rattle.arrow_growable.specs.Growing.{HasAppended}
pub use Rattle.arrow_growable.specs.Variants.{IsSparse, field_part, have_id, part_of_id, variant_type}
pub use Rattle.arrow_memory.proofs.BitLemmas.{bits_of_word, word_more}
pub use Rattle.arrow_memory.proofs.OffsetLemmas.{at_most_last, offsets_rise}
pub use Rattle.arrow_memory.proofs.SlicedLemmas.{length-sliced, sliced-cut}
pub use Rattle.arrow_memory.specs.Ends.{ends_from}
pub use Rattle.arrow_memory.specs.Gathered.{AnswersBits}
pub use Rattle.arrow_memory.specs.Grown.{IsGrowthError}
pub use Rattle.arrow_memory.specs.Offsets.{IsOffsets, last_of, with_row}
pub use Rattle.arrow_memory.specs.Sliced.{sliced}
pub use Rattle.arrow_memory.specs.Words.{low_bits, word_of}
pub use Rattle.arrow_take.specs.Answers.{Answers}
pub use Rattle.arrow_take.specs.DenseUnions.{AreFew, ArePlaces, HasOffsets, HasUnionParts, IsPlace, NamesPart, NamesRows, SomeRankPasses, kept, rank_at, ranks}
pub use Rattle.arrow_take.specs.Spans.{IsSpanWithin, span_bytes, spanned}
pub use Rattle.arrow_take.specs.SparseUnions.{HasPart, HaveParts, PartDoesNotFit, SomePartDoesNotFit, id_or, taken_id}
pub use Rattle.arrow_take.specs.Taken.{AreTaken, MarksTaken, SomeDoNotFit, first_bound, fixed_row, is_taken_valid, named_bit, picked, run_of, span_length, taken_bytes, taken_row, taken_rows, taken_span, valid_index}
pub use Rattle.arrow_types.proofs.RowsLemmas.{drop_at_read, slice_get-mask, take_at_read}
pub use Rattle.arrow_types.proofs.SlotLemmas.{null_slot-no_union}
pub use Rattle.arrow_types.specs.ArrowType.{ArrowField, ArrowFields, ArrowType, extension, field, from_fields, list, more_fields, null, plain, type_in, union}
pub use Rattle.arrow_types.specs.Carried.{AreTypeIds, IsCarried, IsTypeId}
pub use Rattle.arrow_types.specs.Fits.{Fits, byte_count, dense_part, part_in, sparse_part}
pub use Rattle.arrow_types.specs.Greatest.{greatest_offset}
pub use Rattle.arrow_types.specs.Physical.{physical_type_of}
pub use Rattle.arrow_types.specs.Relation.{is_null}
pub use Rattle.arrow_types.specs.Rows.{gather, gathered, mask, masked, valid_at}
pub use Rattle.arrow_types.specs.Slot.{Boolean, Bytes, Null, Number, Slot, Slots, Variant, id_at, more_slots, no_slots, null_slot, to_slots}
pub use Rattle.arrow_types.specs.TypeOf.{field_of, fields_of, type_of}
pub use Rattle.arrow_types.specs.declared.datatypes.Field.{Field}
pub use Rattle.arrow_types.specs.declared.datatypes.UnionMode.{UnionMode}
pub use Rattle.arrow_types.specs.declared.datatypes.UnionMode.TheVariants.{Dense, Sparse}
pub use Rattle.arrow_types.specs.declared.datatypes.physical_type.PhysicalType.{PhysicalType}
pub use Rattle.arrow_types.specs.declared.error.Error.{Error}
pub use Rattle.arrow_types.specs.declared.error.Error.TheVariants.{Failed, OutOfMemory, Overflow}
pub use lib.IntN.{nat_abs}
pub use mir.Val.{SFits, bool_byte}
