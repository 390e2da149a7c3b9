use Rattle.arrow_relate.proofs.FinishLemmas.{same_bits}
use Rattle.arrow_relate.proofs.fixed.EqualSameness.finished_word.Goals as goal

pub returns : goal.returns
returns c = λ k below. same_bits c.args.stored c.args.left c.args.right k c.ranges.left.fits c.ranges.right.fits below
