-- The names that many proofs cite, passed on from one place: of the standard library, and of the words of clauses. Declares nothing.
pub use Rattle.std.proofs.Common.{Bool, Fits, List, None, Option, Some, [], add-zero, ap, append_assoc, arith, bit_and, cond, drop, false, get_or, if◌then◌else◌, inl, inr, length, length-append, map, max, min, nat_eq, negsuc, not, pos, refl, replicate, rules, slice_index, subst, suc, sym, take, true, unsigned_abs, w64, zero, zero-add, ℕ, ℤ, ◌%◌, ◌&&◌, ◌*◌, ◌++◌, ◌+ℤ◌, ◌+◌, ◌-ℤ◌, ◌-◌, ◌/◌, ◌<◌, ◌==◌, ◌^◌, ◌||◌, ◌↔◌, ◌∙◌, ◌∷◌, ◌≡◌, ◌≤ℤ◌, ◌≤◌}
pub use Rattle.std.proofs.Math.ListN.{get_or-map}
pub use Rattle.std.proofs.Math.Nat.{add-mul, add-mul-div_left, div-eq_of_lt, mod-eq_of_lt, mul-le-mul_right, mul_assoc, mul_comm, pow-suc}
pub use Rattle.std.proofs.Math.Seq.{take-add, take-append-add}
pub use Rattle.std.proofs.lemmas.Bool.{cases_eq, cases_lt, not-false, not-true}
pub use Rattle.std.proofs.lemmas.Bool.Decides.{nat_tests}
pub use Rattle.std.proofs.lemmas.Grind.{common_steps, flat_map-append, get_or_default_zero}
pub use Rattle.std.proofs.lemmas.Int.{ints}
pub use Rattle.std.proofs.lemmas.List.{append-nil, drop-drop, drop-map, drop-set-lt, drop-take, drop_all, drop_at, drop_min, drop_more, ext_get_or, flat_map_more, get_or-append_right, get_or-drop, get_or-replicate, get_or-set_other, get_or-set_same, get_or-take, get_or_append_left, get_or_default, get_or_past, get_or_push, get_or_read, length-drop, length-map, length-replicate, length-set, length-take, length-take-le, length_push, map-append, map-id, nil_from_length, replicate-append-replicate, same_lists, take-append-drop, take-map, take-take, take_all, take_at, take_min, take_more, take_more_set}
pub use Rattle.std.proofs.lemmas.List.Concat.{flat_map-cons}
pub use Rattle.std.proofs.lemmas.List.FromFn.{fill_by_all, get_or-map-range_with_len, length-map-range_with_len, map-range_with_len_more}
pub use Rattle.std.proofs.lemmas.List.Sums.{count_by-le-length, sum_by-append, sum_by-cons}
pub use Rattle.std.proofs.lemmas.Nat.{and_mask, mod_below, mul-mod_first, one_shl, or_comm, or_lt, pow_pos, shl_whole, shr-shr, shr_le, shr_split}
pub use Rattle.std.proofs.lemmas.Nat.Bits.{bit_at-lt, bit_at-trailing_zeros, bit_at-zero, bit_at_above, bit_at_and, bit_at_cat_high, bit_at_cat_low, bit_at_not, bit_at_or, same_from_bits_below, shr_and_one}
pub use Rattle.std.proofs.lemmas.Option.{get_or_from_slice_get, slice_get-get_or, slice_get_within}
pub use Rattle.std.proofs.lemmas.Result.{IfOk-weaker}
pub use Rattle.std.proofs.lemmas.Simd.{bit_mask_l, mask_l-lt, ones-mask_l}
pub use Rattle.std.specs.Bool.{Decides, beq, one_answer}
pub use Rattle.std.specs.Cmp.{booleans_Decides, unsigned_Decides}
pub use Rattle.std.specs.Cmp.Lexicographic.{pointwise, pointwise_decides}
pub use Rattle.std.specs.Int.{bit_at, bit_not, div_ceil, from_bool, trailing_zeros}
pub use Rattle.std.specs.Int.Bits.{or_shifted_r}
pub use Rattle.std.specs.Int.Count.{trailing_of_zero}
pub use Rattle.std.specs.Iterator.Adapters.{rev_source}
pub use Rattle.std.specs.List.{All, count_by, flat_map, range_with_len, sum}
pub use Rattle.std.specs.Prelude.{OnOk, bit_or, count_ones, set, slice_get}
pub use Rattle.std.specs.Slice.Iter.{chunks_rest, chunks_size, iter_rest}
pub use Rattle.std.specs.Vec.{vec_capacity, vec_len}
pub use Rattle.arrow_memory.specs.Bits.{both_bits, by_fours, paired}
pub use Rattle.arrow_memory.specs.Ends.{ends_from, word_length, word_lengths}
pub use Rattle.arrow_memory.specs.Gathered.{AnswersBits, AnswersWords, GathersBits}
pub use Rattle.arrow_memory.specs.Masks.{IsMask, mask_in}
pub use Rattle.arrow_memory.specs.Offsets.{AreOffsets, IsOffsets, RisesFrom, counted_on, last_of, valid_ends, valid_items, valid_length, with_row, with_rows, with_valid_rows}
pub use Rattle.arrow_memory.specs.Sliced.{sliced}
pub use Rattle.arrow_memory.specs.Words.{AppendsBits, AppendsWord, IsLowRun, IsPadded, IsWordAt, Reads, is_set, low_bits, set_count, word_of}
unfoldable pub use Rattle.arrow_memory.specs.Words.{bits_in}
pub use borrow.Rule.Slice.PartMut.{post_of}
pub use lib.LanesLaws.{map-replicate}
