use Rattle.arrow_logic.proofs.Common.{◌∙◌, [], arith, sym, refl, append-nil}
use Rattle.arrow_logic.proofs.AnswerLemmas.{appends_more}
use Rattle.arrow_logic.proofs.arity.gather.append_answers.Goals as goal

pub loop-k-init : goal.loop-k-init
loop-k-init g c = record {
  within = omega arith;
  appended = record { more = []; bits = []; values = sym (append-nil _); values_count = refl; bits_count = refl; gathered = refl; each = tt };
  len = omega arith;
  capacity = refl;
}

pub loop-k-preserved : goal.loop-k-preserved
loop-k-preserved g c = record {
  within = omega (arith, c.loop-k-test.true);
  appended = rw (c.push_reserved.ensures.items, c.from.ensures) (appends_more _ _ _ _ _ _ _ _ (omega (arith, c.loop-k-test.true, c.requires.in_word)) c.loop-k.invariant.appended c.op-value.ensures);
  len = omega (arith, c.push_reserved.ensures.len, c.loop-k.invariant.len);
  capacity = c.push_reserved.ensures.capacity ∙ c.loop-k.invariant.capacity;
}
