use Rattle.arrow_logic.proofs.Common.{◌∙◌, arith, ap, length}
use Rattle.arrow_logic.proofs.AnswerLemmas.{answers_append, bits_appended, values_appended}
use Rattle.arrow_logic.proofs.arity.gather.gather_with_bits.Goals as goal

pub loop-row-preserved : goal.loop-row-preserved
loop-row-preserved g c = record {
  within = omega (arith, c.loop-row-test.true, c.min-count.ensures);
  each = answers_append _ _ _ _ _ _ _ _ c.loop-row.invariant.count c.loop-row.invariant.bits c.loop-row.invariant.each c.append_answers-word.ensures.appended c.in_ok-push_word.ensures.ok;
  count = values_appended _ _ _ _ _ _ c.loop-row.invariant.count c.append_answers-word.ensures.appended;
  bits = ap length c.in_ok-push_word.ensures.ok ∙ bits_appended _ _ _ _ c.loop-row.invariant.bits;
  room = omega (arith, c.append_answers-word.ensures.capacity, c.loop-row.invariant.room);
}
