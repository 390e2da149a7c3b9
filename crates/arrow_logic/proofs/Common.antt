-- The names that many proofs cite, passed on from one place: of the standard library, and of the words of clauses. Declares nothing.
pub use Rattle.std.proofs.Common.{Bool, Err, IfErr, IfOk, IsOkUnless, IsUtf8, List, None, Ok, Option, Result, SFits, Some, [], ap, append_assoc, arith, bit_and, chars, cond, count_by, drop, drop-cons, drop_at, encode_utf8, encode_utf8_all, false, get_or, if◌then◌else◌, inl, inr, le-leb, leb, length, length-append, lt-ltb, ltb, ltb-true, map, min, nat_eq, nat_le, nat_lt, negsuc, not, of_z, option_copied, pos, refl, replicate, rules, slice_index, subst, subst₂, suc, sym, take, take-append-drop, take_at, to_z, true, unsigned_abs, w64, w8, zero, ℕ, ℤ, ◌%◌, ◌&&◌, ◌*◌, ◌++◌, ◌+◌, ◌-ℤ◌, ◌-◌, ◌/◌, ◌<ℤ◌, ◌<◌, ◌==◌, ◌^◌, ◌||◌, ◌↔◌, ◌∙◌, ◌∷◌, ◌≡◌, ◌≢◌, ◌≤ℤ◌, ◌≤◌}
pub use Rattle.std.proofs.Math.Bool.{and_assoc, and_comm, not-not, or_assoc, or_comm}
pub use Rattle.std.proofs.Math.Nat.{eq-zero-or-pos}
pub use Rattle.std.proofs.Math.Seq.{drop-append_seam, take-add, take-nil}
pub use Rattle.std.proofs.Math.Utf8.{scalar, scalars}
unfoldable pub use Rattle.std.proofs.Math.Utf8.{encode}
pub use Rattle.std.proofs.lemmas.Bool.{cases_lt, le-ltb, leb-false, leb-true, lt-leb, or_from, or_right}
pub use Rattle.std.proofs.lemmas.Bool.Decides.{Decides-like, nat_tests, same_from_decides}
pub use Rattle.std.proofs.lemmas.Grind.{common_steps}
pub use Rattle.std.proofs.lemmas.Int.{ints, to_z-of_z}
pub use Rattle.std.proofs.lemmas.List.{append-nil, at_drop_all, drop-append-le, drop-drop, drop_min, ext_get_or, get_or-map, get_or-take, get_or_past, length-drop, length-map, length-replicate, length-take, length-take-le, map-append, take-append-le, take_all, take_more, take_rest, map-id, take-map}
pub use Rattle.std.proofs.lemmas.List.Elements.{All-cons, All-head, All-nil, All-tail}
pub use Rattle.std.proofs.lemmas.List.FromFn.{get_or-map-range_with_len, length-map-range_with_len, map-range_with_len_more}
pub use Rattle.std.proofs.lemmas.List.Sums.{sum_by-append, sum_by-cons}
pub use Rattle.std.proofs.lemmas.Nat.{le_or_l, le_or_r, or_lt}
pub use Rattle.std.proofs.lemmas.Nat.Bits.{bit_at-trailing_zeros, bit_at-zero, bit_at_ones, shr_and_one}
pub use Rattle.std.proofs.lemmas.Option.{get_or_from_slice_get, slice_get-get_or}
pub use Rattle.std.proofs.lemmas.Result.{IfOk-weaker}
pub use Rattle.std.proofs.lemmas.Simd.{bit_mask_l, map-map, mask_l-mod, tops_compared, leading_from_mask_l, trailing_mask_l, zip2_splat, zip2_splat_left}
pub use Rattle.std.proofs.lemmas.Slice.Zip.{get_or-zip, length-zip}
pub use Rattle.std.proofs.lemmas.Str.{IsAscii-drop, IsAscii-take, chars-IsAscii, chars-encodes, encodes-IsAscii, encodes-chars, scalars-chars}
pub use Rattle.std.proofs.lemmas.Str.Ascii.{IsAscii-nil}
pub use Rattle.std.specs.Int.{bit_at, bit_not, from_bool, trailing_zeros}
pub use Rattle.std.specs.List.{All, AllZip, range_with_len, zip, prefix_len}
pub use Rattle.std.specs.Prelude.{Contains, IsAscii, IsTrue, bit_or, is_none, slice_get, unwrap_or, ◌⊎◌}
pub use Rattle.std.specs.Result.{IsErrAnd}
pub use Rattle.std.specs.Simd.Lanes.{mask_l, top, zip2}
pub use Rattle.std.specs.Vec.{vec_capacity, vec_len}
pub use Rattle.arrow_arrays.specs.Any.{MarksArray, any_array_rows, any_array_type, kind_in, kind_of, null_kind, primitive_kind}
pub use Rattle.arrow_arrays.specs.declared.array.any.AnyArray.{AnyArray}
pub use Rattle.arrow_arrays.specs.declared.array.any.AnyArray.TheVariants.{Primitive}
pub use Rattle.arrow_flat.proofs.PartsLemmas.{fits_within, length-masked, marks-masked, types_decide}
pub use Rattle.arrow_flat.proofs.PieceLemmas.{length-byte_slots, length-pieces, member_of_part, piece_at}
pub use Rattle.arrow_flat.proofs.RowLemmas.{fits_combined, get_or-row_by_row, length-row_by_row, map-masked}
pub use Rattle.arrow_flat.proofs.StoredLemmas.{slots_same}
pub use Rattle.arrow_flat.specs.AnyScalar.{meaning_of}
pub use Rattle.arrow_flat.specs.ByteRows.{byte_slots, row_bytes}
pub use Rattle.arrow_flat.specs.DictionaryScalar.{HasDictionary}
pub use Rattle.arrow_flat.specs.Laws.{all_values, is_value}
pub use Rattle.arrow_flat.specs.Parts.{FitsRows, IsValue, MarksNulls, boolean_rows, rows_by}
pub use Rattle.arrow_flat.specs.Pieces.{pieces, pieces_from}
pub use Rattle.arrow_flat.specs.RowByRow.{AreAlikeLong, row_by_row}
pub use Rattle.arrow_flat.specs.declared.array.any_primitive.AnyPrimitive.{AnyPrimitive}
pub use Rattle.arrow_logic.specs.Answers.{AnswersSome, RefusesFirst, answers_ok, nulls, to_pair}
pub use Rattle.arrow_logic.specs.Connective.{bits_by, decider, decides, kleene_by, known_bit, known_side, slot_by}
pub use Rattle.arrow_logic.specs.Gathered.{AnswersFrom, AppendsAnswers, RefusesBelow, answers_at, answers_parts, parts_of}
pub use Rattle.arrow_logic.specs.Kept.{kept, kept_by}
pub use Rattle.arrow_logic.specs.Laws.{AreTexts, AreTextsOrBytes, GiveByBatch, GiveEachByBatch, length_within}
pub use Rattle.arrow_logic.specs.Length.{HasBitsFrom, HasLength, stored_length}
pub use Rattle.arrow_logic.specs.Nullif.{IsFloat, IsPrimitive, valid_but, within_valid}
pub use Rattle.arrow_logic.specs.Substring.{HasParts, IsCutByBytes, begins, skipped, text_cut, without}
pub use Rattle.arrow_flat.specs.Validities.{AreOneLength, combined}
pub use Rattle.arrow_logic.specs.declared.connective.Connective.{Connective}
pub use Rattle.arrow_logic.specs.declared.connective.Connective.TheVariants.{And, Or}
pub use Rattle.arrow_memory.proofs.BitLemmas.{bits_of_word, word_more}
pub use Rattle.arrow_memory.proofs.LengthLemmas.{part_bit}
pub use Rattle.arrow_memory.proofs.LogicLemmas.{and_each, and_not_each, length-paired, or_each}
pub use Rattle.arrow_memory.proofs.OffsetLemmas.{at_most_last, last_behind, number_at, offsets_more, offsets_rise}
pub use Rattle.arrow_memory.proofs.SlicedLemmas.{length-sliced, sliced-sliced}
pub use Rattle.arrow_memory.specs.Bits.{both_bits, by_fours, either_bits, first_bits, paired}
pub use Rattle.arrow_memory.specs.Ends.{word_length}
pub use Rattle.arrow_memory.specs.Gathered.{AnswersBits}
pub use Rattle.arrow_memory.specs.Grown.{IsGrowthError}
pub use Rattle.arrow_memory.specs.Offsets.{IsOffsets, last_of, with_row}
pub use Rattle.arrow_memory.specs.Sliced.{sliced}
pub use Rattle.arrow_memory.specs.Words.{low_bits, word_of}
pub use Rattle.arrow_types.proofs.TypeLemmas.{carried_as_element}
pub use Rattle.arrow_types.specs.ArrowType.{ArrowType, binary, dictionary, extension, large_binary, large_utf8, plain, utf8}
pub use Rattle.arrow_types.specs.Carried.{IsCarried, IsCarriedElement}
pub use Rattle.arrow_types.specs.Logic.{both, either, kleene_both, kleene_either, negated}
pub use Rattle.arrow_types.specs.Part.{at_most, bytes_of, cut, part, part_begin}
pub use Rattle.arrow_types.specs.Physical.{physical_type_of}
pub use Rattle.arrow_types.specs.Relation.{eq, is_null, nulled, related, same}
pub use Rattle.arrow_types.specs.Rows.{joined, mask, masked, selects, valid_at}
pub use Rattle.arrow_types.specs.SameTree.{same_by-decides}
pub use Rattle.arrow_types.specs.Slot.{Boolean, Bytes, Null, Number, Slot, Text}
pub use Rattle.arrow_types.specs.StoredSlot.{slot_code}
pub use Rattle.arrow_types.specs.TypeOf.{type_of}
pub use Rattle.arrow_types.specs.declared.datatypes.physical_type.PhysicalType.{PhysicalType}
pub use Rattle.arrow_types.specs.declared.error.Error.{Error}
pub use Rattle.arrow_types.specs.declared.error.Error.TheVariants.{OutOfMemory, Overflow}
pub use Rattle.arrow_types.specs.declared.types.PrimitiveType.{PrimitiveType}
pub use lib.Utf8.{next}
