use Rattle.arrow_memory.proofs.Common.{arith}
use Rattle.arrow_memory.proofs.GatherLemmas.{gathers_all, gathers_none, gathers_more}
use Rattle.arrow_memory.proofs.bitmap.collect.bits_of_last.Goals as goal

pub loop-k-init : goal.loop-k-init
loop-k-init g c = gathers_none _ c.args.start

pub loop-k-preserved : goal.loop-k-preserved
loop-k-preserved g c =
    rw c.from.ensures (gathers_more _ c.args.start c.loop-k.k c.loop-k.word 64 c.test.result (omega (arith, c.loop-k-test.true, c.requires.in_word)) c.loop-k.invariant c.test.ensures)

pub returns : goal.returns
returns g c =
    gathers_all _ c.args.start c.loop-k.k c.args.count c.loop-k.word (omega (arith, c.loop-k-test.false, c.loop-k.auto.k-end)) c.loop-k.invariant
