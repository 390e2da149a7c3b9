use Rattle.arrow_logic.proofs.Common.{arith, common_steps}
use Rattle.arrow_logic.proofs.AnswerLemmas.{answers_more}
use Rattle.arrow_logic.proofs.arity.gather.gather.Goals as goal

pub loop-row-preserved : goal.loop-row-preserved
loop-row-preserved g c = record {
  each = rw c.push_reserved.ensures.items (answers_more _ 0 c.loop-row.row c.loop-row.values.items c.op.result (omega (arith, c.loop-row.invariant.count)) c.loop-row.invariant.each c.op.ensures);
  count = rw c.push_reserved.ensures.items (grind (arith, common_steps, c.loop-row.invariant.count));
  room = omega (arith, c.push_reserved.ensures.capacity, c.loop-row.invariant.room);
}
