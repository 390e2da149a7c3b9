use Rattle.arrow_select.proofs.Common.{arith, ◌≡◌, [], ◌∷◌, ◌+◌, ◌-◌, ◌++◌, ap, length, slice_index, subst, sym, ◌∙◌, range_with_len, length-append, All-append, All-cons, All-nil, last_of, sliced, valid_values, run_copied, run_long, places_from, IsSpanWithin, spanned, spanned_more, All}
use Rattle.arrow_select.proofs.SetBytes.{ends_fit, ends_more, run_first}
use Rattle.arrow_select.proofs.filter.bytes.kept_spans.Goals as goal

pub append_ends-requires-clause-fits : goal.append_ends-requires-clause-fits
append_ends-requires-clause-fits g c =
    let os = c.args.rows.now in
    let before = c.loop-row.invariant in
    let long = run_long c.next_set-unset.result.0 c.next_set-unset.result.1 c.loop-row.left c.next_set-unset.new.self c.next_set-unset.ensures.bits in
    let first = run_first c.next_set-unset.result.0 c.next_set-unset.result.1 c.loop-row.row c.loop-row.left c.next_set-unset.new.self c.next_set-unset.ensures.bits in
    let most = ap (λ n. slice_index os (0 + n)) c.len-len.ensures in
    ends_fit os c.loop-row.ends _ _ c.args.mask.now (c.loop-row.row + c.next_set-unset.result.0) c.next_set-unset.result.1 _ before.some first before.ends c.range.ensures.sound c.requires.lengths (omega (arith, c.range.ensures.end, c.range.ensures.fits, most)) (omega (arith, long, before.count, c.requires.lengths, c.len-len.ensures))

pub loop-row-preserved : goal.loop-row-preserved
loop-row-preserved g c =
    let os = c.args.rows.now in
    let mask = c.args.mask.now in
    let row = c.loop-row.row in
    let unset = c.next_set-unset.result.0 in
    let count = c.next_set-unset.result.1 in
    let left = c.next_set-unset.new.self in
    let before = c.loop-row.invariant in
    let is = c.next_set-unset.ensures.bits in
    let sound = c.range.ensures.sound in
    let long = run_long unset count c.loop-row.left left is in
    let first = run_first unset count row c.loop-row.left left is in
    let span = c.range-in-loop-row.result in
    let spans = c.loop-row.spans.items in
    let more = c.in_ok-push.ensures.items in
    let pushed = c.in_ok-append_ends.ensures.ok in
    let at : row + unset + count ≡ row + (unset + count) = omega arith in
    record {
      count = omega (arith, before.count, long);
      within = subst (All (IsSpanWithin (last_of os))) (sym more) (All-append (IsSpanWithin (last_of os)) spans (span ∷ []) before.within (All-cons (IsSpanWithin (last_of os)) span [] (c.range-in-loop-row.ensures.rises, c.range-in-loop-row.ensures.within) (All-nil (IsSpanWithin (last_of os)))));
      bytes = λ bytes within.
          let grown = spanned_more bytes spans c.push.new.self.items span more ∙ (λ i. spanned bytes spans ++ sliced bytes (c.range-in-loop-row.ensures.start i) (c.range-in-loop-row.ensures.end i - c.range-in-loop-row.ensures.start i)) in
          ap (λ k. spanned bytes c.push.new.self.items ++ valid_values left os bytes k) at ∙ run_copied os bytes sound within unset count c.loop-row.left left row is (omega (arith, before.count, c.requires.lengths, c.len-len.ensures)) (valid_values mask os bytes 0) (spanned bytes spans) (spanned bytes c.push.new.self.items) grown (before.bytes bytes within);
      some = omega (arith, before.some, ap length pushed ∙ length-append c.loop-row.ends _);
      ends = ends_more os c.loop-row.ends (places_from row c.loop-row.left) (range_with_len (row + unset) count) (places_from (row + unset + count) left) (places_from 0 mask) before.some first before.ends c.append_ends.new.ends pushed;
    }
