use Rattle.arrow_memory.proofs.Common.{arith, IfOk-weaker}
use Rattle.arrow_memory.proofs.GatherLemmas.{answers_more}
use Rattle.arrow_memory.proofs.bitmap.Bitmap.collect_words.Goals as goal

pub loop-j-preserved : goal.loop-j-preserved
loop-j-preserved g c = record {
  words = rw c.push_reserved.ensures.items (answers_more _ c.loop-j.words.items c.loop-j.j c.word_at.result c.loop-j.invariant.words c.word_at.ensures);
  room = omega (arith, c.push_reserved.ensures.capacity, c.loop-j.invariant.room);
}

pub returns-clause-ok : goal.returns-clause-ok
returns-clause-ok g c =
    IfOk-weaker c.from_words.result _ _ (λ bits first. record { words = c.loop-j.words.items; each = λ j some. c.loop-j.invariant.words.each j (omega (arith, some)); first = first }) c.from_words.ensures.ok
