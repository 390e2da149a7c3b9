use Rattle.arrow_logic.proofs.Common.{◌∙◌, ap, arith, word_of}
use Rattle.arrow_logic.proofs.CharacterLemmas.{drops_lowest, without_min, without_more}
use Rattle.arrow_logic.proofs.substring.units.without_lowest.Goals as goal

pub loop-preserved : goal.loop-preserved
loop-preserved c = λ bits long is.
    drops_lowest c.loop.left _ (c.loop.invariant bits long is) (c.loop.auto.left-fits).fits ∙ ap word_of (without_more c.loop.counter 1 bits)

pub returns : goal.returns
returns c = λ bits long is.
    c.loop.invariant bits long is ∙ ap word_of (without_min c.args.count c.loop.counter bits (omega arith) long)
