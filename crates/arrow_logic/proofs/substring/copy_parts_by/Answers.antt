use Rattle.arrow_logic.proofs.Common.{◌≡◌, ◌+◌, ◌-◌, ◌<◌, ◌≤◌, ◌∙◌, [], ◌∷◌, ap, arith, length, rules, slice_index, subst, sym, SFits, w64, to_z, of_z, Err, to_z-of_z, take_all, IsOffsets, last_of, sliced, offsets_rise, length-sliced, row_bytes, FitsRows, pieces, length-byte_slots, length-pieces, kept, length-append}
use Rattle.arrow_logic.proofs.KeptLemmas.{length-kept}
use Rattle.arrow_logic.proofs.PartLemmas.{grown_memory, holds_more, memory_alone}
use Rattle.arrow_logic.proofs.substring.copy_parts_by.Goals as goal

pub span_of-begin-requires-clause-fits : goal.span_of-begin-requires-clause-fits
span_of-begin-requires-clause-fits g c =
    subst (FitsRows c.args.rows.now.validity) (length-byte_slots g.K.ByteKind.slot c.args.rows.now.values) c.validity.ensures.fits

pub returns-in_err-try_push_usize-clause-err : goal.returns-in_err-try_push_usize-clause-err
returns-in_err-try_push_usize-clause-err g c =
    let os = c.args.rows.now.values.offsets in
    let row = c.loop-row.row in
    let lent = c.offsets-offsets.ensures in
    let sound = subst IsOffsets lent c.range-first.ensures.sound in
    let count = ap length lent in
    let place = 0 + (c.len-len.result - 1) in
    let end : c.range-first.result.1 ≡ slice_index os place = c.range-first.ensures.end ∙ ap (λ xs. slice_index xs place) lent in
    let next : slice_index os row ≤ slice_index os (row + 1) = offsets_rise os row (row + 1) sound (omega arith) (omega (arith, count, c.len-len.ensures.count, c.loop-row-test.true)) in
    let bound : slice_index os (row + 1) ≤ slice_index os place = offsets_rise os (row + 1) place sound (omega (arith, c.loop-row-test.true)) (omega (arith, count, c.len-len.ensures.count, c.loop-row-test.true)) in
    let fits : last_of c.loop-row.ends + (c.span_of-begin.result.1 - c.span_of-begin.result.0) ≤ g.O.Index.greatest = omega (arith, c.loop-row.invariant.held.last, c.loop-row.invariant.few, c.span_of-begin.ensures.few, end, c.range-first.ensures.fits, next, bound) in
    memory_alone c.from_residual-in_err-try_push_usize.result _ c.from_residual-in_err-try_push_usize.ensures.1 (grown_memory _ c.in_err-try_push_usize.ensures.others (λ is. omega (arith, fits, c.in_err-try_push_usize.ensures.overflow.0 (ap Err is))))

pub loop-row-preserved : goal.loop-row-preserved
loop-row-preserved g c =
    let os = c.args.rows.now.values.offsets in
    let v = c.args.rows.now.validity in
    let rows = row_bytes c.args.rows.now.values in
    let row = c.loop-row.row in
    let lent = c.offsets-offsets.ensures in
    let sound = subst IsOffsets lent c.range-first.ensures.sound in
    let count = ap length lent in
    let cut = g.K.Units.cut (to_z w64 (of_z w64 c.args.start)) c.args.count in
    let fits = subst (FitsRows v) (length-byte_slots g.K.ByteKind.slot c.args.rows.now.values ∙ sym (length-pieces os c.args.rows.now.values.bytes)) c.validity.ensures.fits in
    let within : row < length (kept [] cut v rows) = omega (arith, length-kept [] cut v rows fits, length-pieces os c.args.rows.now.values.bytes, count, c.len-len.ensures.count, c.loop-row-test.true) in
    let next : slice_index os row ≤ slice_index os (row + 1) = offsets_rise os row (row + 1) sound (omega arith) (omega (arith, count, c.len-len.ensures.count, c.loop-row-test.true)) in
    let all_bytes : c.as_slice-from.result.now ≡ c.args.rows.now.values.bytes = c.as_slice-from.ensures ∙ c.values.ensures.same in
    let begin = c.span_of-begin.result.0 in
    let n = c.span_of-begin.result.1 - c.span_of-begin.result.0 in
    let part = sliced c.as_slice-from.result.now begin n in
    let part_is = ap (λ xs. sliced xs begin n) all_bytes ∙ c.span_of-begin.ensures.part in
    let part_long : length part ≡ n = length-sliced c.as_slice-from.result.now begin n (omega (arith, c.span_of-begin.ensures.rises, c.span_of-begin.ensures.within, ap length all_bytes)) in
    let bytes = c.in_ok-append_span.ensures.ok in
    let ends = c.in_ok-try_push_usize.ensures.ok in
    record {
      held = holds_more c.loop-row.ends c.loop-row.bytes.items part (kept [] cut v rows) row n c.try_push_usize.new.self c.append_span.new.bytes.items within part_is (sym part_long) ends bytes c.loop-row.invariant.held;
      long = ap length ends ∙ omega (arith, length-append c.loop-row.ends ((last_of c.loop-row.ends + n) ∷ []), c.loop-row.invariant.long);
      few = omega (arith, ap length bytes, length-append c.loop-row.bytes.items part, part_long, c.loop-row.invariant.few, c.span_of-begin.ensures.few, next);
    }

pub returns-clause-parts : goal.returns-clause-parts
returns-clause-parts g c =
    let os = c.args.rows.now.values.offsets in
    let v = c.args.rows.now.validity in
    let rows = row_bytes c.args.rows.now.values in
    let start_fits : SFits w64 c.args.start = search rules in
    let start : to_z w64 (of_z w64 c.args.start) ≡ c.args.start = to_z-of_z w64 c.args.start start_fits in
    let cut = g.K.Units.cut (to_z w64 (of_z w64 c.args.start)) c.args.count in
    let fits = subst (FitsRows v) (length-byte_slots g.K.ByteKind.slot c.args.rows.now.values ∙ sym (length-pieces os c.args.rows.now.values.bytes)) c.validity.ensures.fits in
    let all : length (kept [] cut v rows) ≤ c.loop-row.row = omega (arith, length-kept [] cut v rows fits, length-pieces os c.args.rows.now.values.bytes, ap length c.offsets-offsets.ensures, c.len-len.ensures.count, c.loop-row-test.false) in
    ap (λ xs. pieces xs c.loop-row.bytes.items) c.in_ok-into_buffer.ensures.ok ∙ (c.loop-row.invariant.held.are ∙ (take_all c.loop-row.row (kept [] cut v rows) all ∙ ap (λ z. kept [] (g.K.Units.cut z c.args.count) v rows) start))
