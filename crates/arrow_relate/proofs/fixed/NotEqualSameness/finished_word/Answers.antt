use Rattle.arrow_relate.proofs.FinishLemmas.{differing_bits}
use Rattle.arrow_relate.proofs.fixed.NotEqualSameness.finished_word.Goals as goal

pub returns : goal.returns
returns c = λ k below. differing_bits c.args.stored c.args.left c.args.right k
