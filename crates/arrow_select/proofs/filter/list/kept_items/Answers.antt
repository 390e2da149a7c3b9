use Rattle.arrow_select.proofs.Common.{arith, ◌≡◌, [], ◌+◌, ◌-◌, ◌++◌, false, true, ap, append_assoc, length, replicate, slice_index, sym, ◌∙◌, range_with_len, append-nil, length-append, length-replicate, last_of, run_long, nil_of, places_from, item_bits}
use Rattle.arrow_select.proofs.ItemLemmas.{items_more}
use Rattle.arrow_select.proofs.SetBytes.{ends_fit, ends_more, run_first}
use Rattle.arrow_select.proofs.filter.list.kept_items.Goals as goal

pub append_ends-requires-clause-fits : goal.append_ends-requires-clause-fits
append_ends-requires-clause-fits g c =
    let os = c.args.rows.now in
    let before = c.loop-row.invariant in
    let long = run_long c.next_set-unset.result.0 c.next_set-unset.result.1 c.loop-row.left c.next_set-unset.new.self c.next_set-unset.ensures.bits in
    let first = run_first c.next_set-unset.result.0 c.next_set-unset.result.1 c.loop-row.row c.loop-row.left c.next_set-unset.new.self c.next_set-unset.ensures.bits in
    let most = ap (λ n. slice_index os (0 + n)) c.len-len.ensures in
    ends_fit os c.loop-row.ends _ _ c.args.mask.now (c.loop-row.row + c.next_set-unset.result.0) c.next_set-unset.result.1 _ before.some first before.ends c.range.ensures.sound c.requires.lengths (omega (arith, c.range.ensures.end, c.range.ensures.fits, most)) (omega (arith, long, before.count, c.requires.lengths, c.len-len.ensures))

pub loop-row-preserved : goal.loop-row-preserved
loop-row-preserved g c =
    let os = c.args.rows.now in
    let mask = c.args.mask.now in
    let row = c.loop-row.row in
    let unset = c.next_set-unset.result.0 in
    let count = c.next_set-unset.result.1 in
    let left = c.next_set-unset.new.self in
    let before = c.loop-row.invariant in
    let is = c.next_set-unset.ensures.bits in
    let long = run_long unset count c.loop-row.left left is in
    let first = run_first unset count row c.loop-row.left left is in
    let pushed = c.in_ok-append_ends.ensures.ok in
    let begin = c.range-begin.ensures in
    let end = c.range-end.ensures in
    let unset_bits = c.in_ok-append_bits-2.ensures.ok ∙ (λ i. c.loop-row.own ++ replicate (begin.end i - begin.start i) false) in
    let bits = c.in_ok-append_bits-3.ensures.ok ∙ (λ i. unset_bits i ++ replicate (end.end i - begin.end i) true) in
    record {
      count = omega (arith, before.count, long);
      long = omega (arith, before.long, ap length c.in_ok-append_bits-3.ensures.ok, ap length c.in_ok-append_bits-2.ensures.ok, length-append c.loop-row.own (replicate (c.range-begin.result.1 - c.range-begin.result.0) false), length-replicate (c.range-begin.result.1 - c.range-begin.result.0) false, length-append c.append_bits-in-loop-row.new.own (replicate (c.range-end.result.1 - c.range-begin.result.1) true), length-replicate (c.range-end.result.1 - c.range-begin.result.1) true, begin.start, begin.end, begin.rises, end.start, end.end, end.rises);
      own = ap (λ bs. bs ++ item_bits left os (row + unset + count)) bits ∙ items_more os c.range.ensures.sound unset count c.loop-row.left left row is (omega (arith, long, before.count, c.requires.lengths, c.len-len.ensures)) c.loop-row.own _ before.own;
      some = omega (arith, before.some, ap length pushed ∙ length-append c.loop-row.ends _);
      ends = ends_more os c.loop-row.ends (places_from row c.loop-row.left) (range_with_len (row + unset) count) (places_from (row + unset + count) left) (places_from 0 mask) before.some first before.ends c.append_ends.new.ends pushed;
    }

pub returns-clause-own : goal.returns-clause-own
returns-clause-own g c =
    let os = c.args.rows.now in
    let mask = c.args.mask.now in
    let row = c.loop-row.row in
    let left = c.loop-row.left in
    let done = c.loop-row.invariant in
    let before = replicate (slice_index os 0) false in
    let none : left ≡ [] = nil_of left (omega (arith, done.count, c.loop-row-test.false)) in
    let all = sym (append-nil c.loop-row.own) ∙ (ap (λ bs. c.loop-row.own ++ item_bits bs os row) (sym none) ∙ done.own) in
    let at : row ≡ length os - 1 = omega (arith, done.count, c.loop-row-test.false, c.len-len.ensures, c.requires.lengths) in
    let behind : c.args.items - c.len.result ≡ c.args.items - last_of os = omega (arith, c.len.ensures, done.long, ap (slice_index os) at) in
    c.in_ok-into_bitmap.ensures.ok ∙ (c.in_ok-append_bits-4.ensures.ok ∙ ((λ i. all i ++ replicate (behind i) false) ∙ append_assoc before (item_bits mask os 0) (replicate (c.args.items - last_of os) false)))
