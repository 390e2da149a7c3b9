use Rattle.arrow_memory.proofs.Common.{arith}
use Rattle.arrow_memory.proofs.WordLemmas.{at_place}
use Rattle.arrow_memory.proofs.bitmap.runs.rest_of_word.Goals as goal

pub returns-clause-bits : goal.returns-clause-bits
returns-clause-bits c = at_place c.args.words.now c.args.place _ (omega (arith, c.min.ensures))
