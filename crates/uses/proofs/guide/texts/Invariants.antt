use Rattle.uses.proofs.Common.{take, texts_in}
use Rattle.uses.proofs.TextLemmas.{AreStored}
use Rattle.uses.proofs.guide.texts.Given as goal

-- the texts so far lie one behind the other, each of them a text
abbrev pub invariant-loop-row : goal.invariant-loop-row
invariant-loop-row l = AreStored l.offsets l.bytes.items (texts_in (take l.row-index l.rows))
