-- The names that many proofs cite, passed on from one place: of the standard library, and of the words of clauses. Declares nothing.
pub use Rattle.std.proofs.Common.{Bool, Bor, Err, List, None, Ok, OnOk, Option, Result, Some, [], ap, append_assoc, arith, bit_and, drop, false, get_or, if◌then◌else◌, inl, inr, length, length-append, map, nat_eq, negsuc, not, option_copied, pos, refl, replicate, rules, slice_index, slice_index_or, subst, suc, sym, take, true, unsigned_abs, w64, zero, ℕ, ℤ, ◌%◌, ◌*◌, ◌++◌, ◌+◌, ◌-◌, ◌/◌, ◌<◌, ◌==◌, ◌^◌, ◌∙◌, ◌∷◌, ◌≡◌, ◌≤◌}
pub use Rattle.std.proofs.Math.Nat.{div-le_self, lt_of_not-le, mul-le-mul_right}
pub use Rattle.std.proofs.Math.Seq.{drop-append-add, drop-append_seam, take-add, take-append_seam}
pub use Rattle.std.proofs.lemmas.Bool.{cases_lt}
pub use Rattle.std.proofs.lemmas.Bool.Decides.{eqb_tells}
pub use Rattle.std.proofs.lemmas.Grind.{flat_map-append}
pub use Rattle.std.proofs.lemmas.Int.{ints}
pub use Rattle.std.proofs.lemmas.List.{append-nil, drop-append-le, drop-drop, drop-replicate, ext_get_or, get_or-drop, get_or-map, get_or-replicate, get_or-take, get_or_default, length-drop, length-map, length-replicate, length-set, map-append, replicate-append-replicate, take-append-le, take-replicate, take_all, take_more, take_more_set}
pub use Rattle.std.proofs.lemmas.List.Elements.{All-append, All-cons, All-drop, All-nil, All-push, All-take}
pub use Rattle.std.proofs.lemmas.List.FromFn.{get_or-map-range_with_len}
pub use Rattle.std.proofs.lemmas.List.Sums.{sum_by-append, sum_by-cons, sum_by-take-drop, sum_by-take-le}
pub use Rattle.std.proofs.lemmas.Nat.{and_le_l, shr-shr}
pub use Rattle.std.proofs.lemmas.Nat.Bits.{bit_at-lt, bit_at-trailing_zeros, bit_at_above, bit_at_and, bit_at_cat_low, bit_at_clear_other, bit_at_clear_same, bit_at_not, bit_at_ones, bit_at_ones_above, ones_shr, shr_and_one}
pub use Rattle.std.proofs.lemmas.Option.{get_or_from_slice_get, slice_get-get_or, slice_get_read}
pub use Rattle.std.proofs.lemmas.Slice.Zip.{AllZip-long}
pub use Rattle.std.specs.Int.{bit_at, bit_not, trailing_zeros}
pub use Rattle.std.specs.List.{All, AllZip, concat, flat_map, range_with_len}
pub use Rattle.std.specs.Prelude.{IfOk, IfSome, IsSomeAnd, OnErr, cond, count_by, option_map, set, sum}
pub use Rattle.std.specs.Result.{IsErrAnd}
pub use Rattle.std.specs.Vec.{vec_capacity, vec_len}
pub use Rattle.arrow_arrays.proofs.EqualLemmas.{one_row}
pub use Rattle.arrow_arrays.proofs.FitNullLemmas.{bytes_fit, whole_product}
pub use Rattle.arrow_arrays.proofs.KeyLemmas.{not_negative, number_row}
pub use Rattle.arrow_arrays.proofs.NullLemmas.{map_constant}
pub use Rattle.arrow_arrays.specs.KeyedParts.{AreKeys, IsKey, KeyedParts, key_in, keys_in}
pub use Rattle.arrow_arrays.specs.Layout.{Layout, rows, type_of_layout}
pub use Rattle.arrow_flat.proofs.FixedLemmas.{count_fits, length-fixed_slots}
pub use Rattle.arrow_flat.proofs.PartsLemmas.{length-masked, masked-sliced, nulls-sliced}
pub use Rattle.arrow_flat.proofs.PieceLemmas.{last_of_part, length-pieces, part_of_offsets, slot_of_row}
pub use Rattle.arrow_flat.specs.ByteRows.{ByteParts, byte_slots, row_bytes}
pub use Rattle.arrow_flat.specs.FixedRows.{AreFixedRows, FitsBytes, FixedParts, fixed_size_in, fixed_slots}
pub use Rattle.arrow_flat.specs.NullParts.{NullParts}
pub use Rattle.arrow_flat.specs.Parts.{FitsRows, bits_of_slice, rows_by, with_bits}
pub use Rattle.arrow_flat.specs.PieceLaws.{pieces-sliced, slots_of_chunks}
pub use Rattle.arrow_flat.specs.Pieces.{chunks, pieces, pieces_from}
pub use Rattle.arrow_flat_growable.specs.ByteLaws.{slots_fit, slots_pass}
pub use Rattle.arrow_flat_growable.specs.Bytes.{BeginsWith, stored_rows}
pub use Rattle.arrow_flat_growable.specs.Ends.{concatenated, row_length}
pub use Rattle.arrow_flat_growable.specs.Flat.{BindsAll, IsGrownFlat, KeepsBound, flat_layout}
pub use Rattle.arrow_flat_growable.specs.FlatLaws.{fits_count, fits_counted, is_counted}
pub use Rattle.arrow_flat_growable.specs.Grown.{CannotHold, FitsItself, FitsWith, Grown, NamesRows, RefusedBy, appended, first_type, named_rows, null_rows_of, rows_among, source_at}
pub use Rattle.arrow_flat_growable.specs.GrownParts.{AppendsParts, LiesIn, part_values, with_parts}
pub use Rattle.arrow_flat_growable.specs.GrownRows.{AreEmptyNulls, AreGrown, filled, total, valid_values}
pub use Rattle.arrow_flat_growable.specs.Keys.{BindsKeys, KeyFits, PassesGreatest, StoresAt, StoresKey, StoresKeys, fitting_keys, grown_key, zero_key}
pub use Rattle.arrow_flat_growable.specs.MaskLaws.{length-bits_of_slice, mask-append, mask-part, mask-set, mask-unset}
pub use Rattle.arrow_flat_growable.specs.Nulls.{IsGrownNull, null_layout, with_sources}
pub use Rattle.arrow_flat_growable.specs.Validity.{AppendsValidity, bits_by, valid_in_both}
pub use Rattle.arrow_flat_growable.specs.Waiting.{AreWaiting, BindsParts, JoinsLast, LieThere, WaitBehind, Waits, bound_parts, part_of_bound, waiting_rows, with_waiting}
pub use Rattle.arrow_flat_growable.specs.declared.growable.parts.Part.{Part}
pub use Rattle.arrow_flat_growable.specs.declared.growable.parts.Part.TheVariants.{Of}
pub use Rattle.arrow_flat_growable.specs.declared.growable.waiting.Waiting.{Waiting}
pub use Rattle.arrow_memory.proofs.AppendLemmas.{bit_at-shr}
pub use Rattle.arrow_memory.proofs.OffsetLemmas.{at_most_last, left_next, map_sliced, offsets_rise, same_at}
pub use Rattle.arrow_memory.proofs.SlicedLemmas.{length-sliced, sliced-cut, sliced-sliced}
pub use Rattle.arrow_memory.proofs.WordLemmas.{length-low_bits}
pub use Rattle.arrow_memory.specs.Bits.{both_bits}
pub use Rattle.arrow_memory.specs.Ends.{ends_from}
pub use Rattle.arrow_memory.specs.Offsets.{IsOffsets, RisesFrom, counted_on, last_of, valid_ends, valid_items, valid_length, with_row, with_rows, with_valid_rows}
pub use Rattle.arrow_memory.specs.Sliced.{sliced}
pub use Rattle.arrow_memory.specs.Words.{low_bits}
pub use Rattle.arrow_types.proofs.FitsLemmas.{Fits-nil}
pub use Rattle.arrow_types.proofs.RowsLemmas.{length-mask, slice_get-mask}
pub use Rattle.arrow_types.proofs.SlotLemmas.{null_slot-no_union}
pub use Rattle.arrow_types.specs.ArrowType.{ArrowType, PlainType, binary, extension, fixed_size_binary, large_binary, large_utf8, list, null, plain, small, utf8}
pub use Rattle.arrow_types.specs.Carried.{IsCarried}
pub use Rattle.arrow_types.specs.Fits.{Fits}
pub use Rattle.arrow_types.specs.Greatest.{greatest_number}
pub use Rattle.arrow_types.specs.Physical.{physical_type_of, plain_physical_type}
pub use Rattle.arrow_types.specs.Rows.{mask, masked, valid_at}
pub use Rattle.arrow_types.specs.Slot.{Boolean, Bytes, Null, Number, Slot, null_slot}
pub use Rattle.arrow_types.specs.TypeOf.{type_of}
pub use Rattle.arrow_types.specs.declared.datatypes.IntegerType.{IntegerType}
pub use Rattle.arrow_types.specs.declared.datatypes.IntegerType.TheVariants.{Int8}
pub use Rattle.arrow_types.specs.declared.datatypes.physical_type.PhysicalType.{PhysicalType}
pub use Rattle.arrow_types.specs.declared.error.Error.{Error}
