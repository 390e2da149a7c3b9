use Rattle.arrow_select.proofs.Common.{arith, [], ◌∷◌, ◌+◌, ap, drop, get_or, length, map, slice_index, subst, sym, ◌∙◌, concat, range_with_len, length-append, take_all, All-append, All-cons, All-nil, named, last_of, places_from, IsSpanWithin, spanned, row_in, All}
use Rattle.arrow_select.proofs.RangedLemmas.{bytes_of_ranges, ends_first, range_first, ranged_bytes}
use Rattle.arrow_select.proofs.SetBytes.{ends_fit, ends_more}
use Rattle.arrow_select.proofs.filter.bytes.ranged_spans.Goals as goal

pub loop-start-init : goal.loop-start-init
loop-start-init g c = record {
  within = λ k d has. absurd (omega (arith, has, ap length c.in_ok-spans.ensures.items));
  bytes = λ bytes inside. ap (spanned bytes) c.in_ok-spans.ensures.items;
  some = omega (arith, ap length c.in_ok-ends.ensures.ok);
  ends = ends_first c.args.rows.now c.in_ok-ends.ends c.ranges-ranges.result.now c.args.filter.now c.in_ok-ends.ensures.ok c.ranges-ranges.ensures.named;
}

pub append_ends-requires-clause-fits : goal.append_ends-requires-clause-fits
append_ends-requires-clause-fits g c =
    let os = c.args.rows.now in
    let items = c.ranges-ranges.result.now in
    let k = c.loop-start.start-index in
    let before = c.loop-start.invariant in
    let within = c.ranges-ranges.ensures.within k (0, 0) c.loop-start-test.true in
    let most = ap (λ n. slice_index os (0 + n)) c.mask_len.ensures in
    ends_fit os c.loop-start.ends _ _ c.args.filter.now (get_or items k (0, 0)).0 (get_or items k (0, 0)).1 _ before.some (range_first items k c.loop-start-test.true) before.ends c.range.ensures.sound c.requires.lengths (omega (arith, c.range.ensures.end, c.range.ensures.fits, most)) (omega (arith, within, c.requires.lengths))

pub loop-start-preserved : goal.loop-start-preserved
loop-start-preserved g c =
    let os = c.args.rows.now in
    let mask = c.args.filter.now in
    let items = c.ranges-ranges.result.now in
    let k = c.loop-start.start-index in
    let r = get_or items k (0, 0) in
    let before = c.loop-start.invariant in
    let span = c.range-in-loop-start.result in
    let spans = c.loop-start.spans.items in
    let more = c.in_ok-push.ensures.items in
    let pushed = c.in_ok-append_ends.ensures.ok in
    let within = c.ranges-ranges.ensures.within k (0, 0) c.loop-start-test.true in
    record {
      within = subst (All (IsSpanWithin (last_of os))) (sym more) (All-append (IsSpanWithin (last_of os)) spans (span ∷ []) before.within (All-cons (IsSpanWithin (last_of os)) span [] (c.range-in-loop-start.ensures.rises, c.range-in-loop-start.ensures.within) (All-nil (IsSpanWithin (last_of os)))));
      bytes = λ bytes inside. ranged_bytes os bytes c.range.ensures.sound inside items spans c.push.new.self.items span k c.loop-start-test.true (omega (arith, within, c.requires.lengths)) c.range-in-loop-start.ensures.start c.range-in-loop-start.ensures.end more (before.bytes bytes inside);
      some = omega (arith, before.some, ap length pushed ∙ length-append c.loop-start.ends _);
      ends = ends_more os c.loop-start.ends (named (drop k items)) (range_with_len r.0 r.1) (named (drop (k + 1) items)) (places_from 0 mask) before.some (range_first items k c.loop-start-test.true) before.ends c.append_ends.new.ends pushed;
    }

pub returns-clause-bytes : goal.returns-clause-bytes
returns-clause-bytes g c = λ bytes inside.
    let items = c.ranges-ranges.result.now in
    let all = take_all c.loop-start.start-index items c.loop-start-test.false in
    c.loop-start.invariant.bytes bytes inside ∙ (ap (λ rs. concat (map (row_in c.args.rows.now bytes) (named rs))) all ∙ bytes_of_ranges c.args.rows.now bytes c.range.ensures.sound inside items c.args.filter.now c.ranges-ranges.ensures.named)
