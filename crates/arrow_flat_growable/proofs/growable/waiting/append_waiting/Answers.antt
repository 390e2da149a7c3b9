use Rattle.arrow_flat_growable.proofs.Common.{◌∙◌, map, row_bytes}
use Rattle.arrow_flat_growable.proofs.WaitingLemmas.{few_so_far, one_call_more}
use Rattle.arrow_flat_growable.proofs.growable.waiting.append_waiting.Goals as goal

pub append_rows-requires-clause-few : goal.append_rows-requires-clause-few
append_rows-requires-clause-few g c =
    few_so_far (map (λ x. x.values) c.args.arrays.now) (row_bytes c.args.rows.now.1) (row_bytes c.loop-part.rows.1) c.args.waiting.now c.loop-part.part-index _ _ c.loop-part-test.true c.loop-part.invariant.1 c.requires.few

pub loop-part-preserved : goal.loop-part-preserved
loop-part-preserved g c = (
  c.in_ok-append_rows.ensures.same ∙ c.loop-part.invariant.0,
  one_call_more (map (λ x. x.values) c.args.arrays.now) (row_bytes c.args.rows.now.1) (row_bytes c.loop-part.rows.1) (row_bytes c.append_rows.new.rows.1) c.args.waiting.now c.loop-part.part-index _ c.loop-part-test.true c.loop-part.invariant.1 c.in_ok-append_rows.ensures.ok,
)
