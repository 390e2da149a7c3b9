use Rattle.arrow_growable.proofs.Common.{arith, ◌+◌, ◌≤◌, run_long, span_count, span_place}
use Rattle.arrow_growable.proofs.SpreadLemmas.{bare_run}
use Rattle.arrow_growable.proofs.StepLemmas.{places_rise}
use Rattle.arrow_growable.proofs.growable.spans.Spans.have_none_beneath.Goals as goal

pub loop-row-preserved : goal.loop-row-preserved
loop-row-preserved c =
    let spans = c.args.self.now in
    let nulls = c.next_set-nulls.result.0 in
    let count = c.next_set-nulls.result.1 in
    let long = run_long nulls count c.loop-row.left c.next_set-nulls.new.self c.next_set-nulls.ensures.bits in
    let empty : span_place spans (c.loop-row.row + nulls) ≤ span_place spans c.loop-row.row = omega (arith, c.if-first-behind.false, c.range-first.ensures.start, c.range-first.ensures.end) in
    (omega (arith, c.loop-row.invariant.0, long), λ bare. c.loop-row.invariant.1 (bare_run (span_place spans) (span_count spans) _ (places_rise spans c.requires.sound) nulls count c.loop-row.left c.next_set-nulls.new.self c.loop-row.row c.next_set-nulls.ensures.bits (omega (arith, c.loop-row.invariant.0, c.requires.part)) empty bare))
