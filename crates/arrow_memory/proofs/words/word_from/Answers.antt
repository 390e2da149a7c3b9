use Rattle.arrow_memory.proofs.Common.{◌/◌}
use Rattle.arrow_memory.proofs.WordLemmas.{word_of-aligned, word_of-across}
use Rattle.arrow_memory.proofs.words.word_from.Goals as goal

pub returns-then-shift-eq0 : goal.returns-then-shift-eq0
returns-then-shift-eq0 c =
    rw c.word_at.ensures (word_of-aligned c.args.words.now c.args.place (c.type_inv.words (c.args.place / 64)).fits c.if-shift-eq0.true)

pub returns : goal.returns
returns c =
    rw (c.word_at.ensures, c.word_at-2.ensures) (word_of-across c.args.words.now c.args.place (c.type_inv.words (c.args.place / 64)).fits)
