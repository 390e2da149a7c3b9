use Rattle.arrow_choice.proofs.Common.{arith, ◌-◌, ◌+◌, ◌++◌, ◌∙◌, ◌≡◌, ap, sliced, valid_values, run_copied, run_long}
use Rattle.arrow_choice.proofs.if_then_else.bytes.append_valid_bytes.Goals as goal

pub loop-row-preserved : goal.loop-row-preserved
loop-row-preserved g c =
    let os = c.args.ends.now in
    let values = c.args.values.now in
    let row = c.loop-row.row in
    let unset = c.next_set-unset.result.0 in
    let set = c.next_set-unset.result.1 in
    let left = c.next_set-unset.new.self in
    let before = c.loop-row.invariant in
    let is = c.next_set-unset.ensures.bits in
    let long = run_long unset set c.loop-row.left left is in
    let at : row + unset + set ≡ row + (unset + set) = omega arith in
    let copied = c.in_ok-append_span.ensures.ok ∙ (λ i. c.loop-row.bytes.items ++ sliced values (c.range-first.ensures.start i) (c.range-first.ensures.end i - c.range-first.ensures.start i)) in
    record {
      count = omega (arith, before.count, long);
      bytes = ap (λ k. c.append_span.new.bytes.items ++ valid_values left os values k) at ∙ run_copied os values c.len.ensures.sound c.requires.within unset set c.loop-row.left left row is (omega (arith, before.count, c.requires.part)) (c.args.bytes.now.items ++ valid_values (sliced c.args.validity.now c.args.start c.args.count) os values c.args.start) c.loop-row.bytes.items c.append_span.new.bytes.items copied before.bytes;
    }
