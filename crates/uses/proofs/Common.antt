-- The names that many proofs cite, passed on from one place: of the standard library, of the crates below, and of the words of clauses. Declares nothing.
pub use Rattle.std.proofs.Common.{Bool, Err, List, None, Ok, Option, Result, Some, [], ap, append_assoc, arith, drop, false, get_or, inl, inr, length, map, not, pos, refl, rules, subst, suc, sym, take, true, zero, if◌then◌else◌, ℕ, ℤ, ◌++◌, ◌+◌, ◌-◌, ◌<◌, ◌↔◌, ◌∙◌, ◌∷◌, ◌≡◌, ◌≤◌, ◌⊎◌}
pub use Rattle.std.proofs.lemmas.Bool.Decides.{Decides-like, Decides-not}
pub use Rattle.std.proofs.lemmas.Grind.{common_steps}
pub use Rattle.std.proofs.lemmas.Int.{ints, to_z-of_z}
pub use Rattle.std.proofs.lemmas.List.{append-nil, drop_all, drop_more, get_or-map, get_or_default, length-map, map_more, map_push, take_all, take_rest}
pub use Rattle.std.proofs.lemmas.List.Concat.{concat_is}
pub use Rattle.std.proofs.lemmas.List.Elements.{All-contains, All-from_recursion, All-map, All-push, recursion_from_All}
pub use Rattle.std.proofs.lemmas.List.Folds.{concat-append, flat_map-map, length-flat_map-take}
pub use Rattle.std.proofs.lemmas.List.Sorted.{IsPermutation-cons, IsPermutation-middle, IsPermutation-refl, IsPermutation-trans}
pub use Rattle.std.proofs.lemmas.Result.{IfOk-weaker}
pub use Rattle.std.proofs.lemmas.Simd.{map-map}
pub use Rattle.std.proofs.lemmas.Slice.Zip.{all_zipped_more}
pub use Rattle.std.specs.Borrow.{Bor}
pub use Rattle.std.specs.Int.{w32, w64}
pub use Rattle.std.specs.List.{All, AllByRecursion, AllZip, concat}
pub use Rattle.std.specs.Prelude.{Contains, FitsSigned, IsUtf8, flat_map, slice_get}
pub use Rattle.std.specs.Result.{is_ok, result_unwrap_or}
pub use Rattle.std.specs.Str.Parse.{ParsesSigned}
pub use Rattle.arrow_types.proofs.SelectLemmas.{length-gather}
pub use Rattle.arrow_types.proofs.SlotLemmas.{null_slot-no_union}
pub use Rattle.arrow_memory.specs.Ends.{ends_from}
pub use Rattle.arrow_flat.proofs.PieceLemmas.{slot_of_row}
pub use Rattle.arrow_flat_growable.proofs.EndLemmas.{ends_last, ends_next}
pub use Rattle.arrow_flat_growable.proofs.FlatLemmas.{source_is}
pub use Rattle.arrow_flat_growable.proofs.ResultLemmas.{passed_on}
pub use Rattle.arrow_flat_growable.specs.MaskLaws.{mask-append}
pub use Rattle.arrow_take.proofs.TakenBytes.{concat_length, pieces_of_rows}
pub use Rattle.arrow_select.proofs.ChunkLemmas.{are_columns, column_long, column_next}
pub use Rattle.arrow_select.proofs.FilterLemmas.{select_is}
pub use Rattle.arrow_select.proofs.RangedLemmas.{ranged_all}
pub use Rattle.gevaindy.proofs.Callers.{mask_of-bits}
pub use Rattle.gevaindy.specs.Any.{any_array_rows, any_array_type, layout_of}
pub use Rattle.gevaindy.specs.AnyArrays.AnyArray.{AnyArray}
pub use Rattle.gevaindy.specs.AnyPrimitive.{any_rows}
pub use Rattle.gevaindy.specs.ArrowType.{ArrowType}
pub use Rattle.gevaindy.specs.Compared.{HasEquality}
pub use Rattle.gevaindy.specs.Grown.{Grown, appended, named_rows}
pub use Rattle.gevaindy.specs.KeyedParts.{AreKeys}
pub use Rattle.gevaindy.specs.Layout.{Layout, flat, rows, type_of_layout}
pub use Rattle.gevaindy.specs.Offsets.{last_of, with_row}
pub use Rattle.gevaindy.specs.Parts.{Parts, boolean_rows}
pub use Rattle.gevaindy.specs.Physical.{physical_type_of}
pub use Rattle.gevaindy.specs.Pieces.{pieces}
pub use Rattle.gevaindy.specs.Relation.{eq, gt, is_null, related}
pub use Rattle.gevaindy.specs.RowByRow.{row_by_row}
pub use Rattle.gevaindy.specs.Rows.{chosen, gather, mask, mask_of, masked, select, selects, shifted}
pub use Rattle.gevaindy.specs.Sliced.{sliced}
pub use Rattle.gevaindy.specs.Slot.{Boolean, Null, Number, Slot, Text, null_slot}
pub use Rattle.gevaindy.specs.StructParts.{AreColumns, HaveRows, row_count}
pub use Rattle.gevaindy.specs.Typed.{int_rows, uint_rows}
pub use Rattle.uses.specs.Batch.{above, column_rows, rows_named, rows_where}
pub use Rattle.uses.specs.Coalesced.{or_else}
pub use Rattle.uses.specs.Order.{AreApart, AreApartFrom, IsMerge, LeadsTo, MatchesOrder, MayPrecede}
pub use Rattle.uses.specs.Stored.{mask_in, rows_of_parts}
pub use Rattle.uses.specs.Texts.{IsRowOf, texts_in}
