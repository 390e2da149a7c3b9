use Rattle.arrow_relate.proofs.TruthLemmas.{at_least_word}
use Rattle.arrow_relate.proofs.fixed.GreaterOrEqualLogic.of_words.Goals as goal

pub returns : goal.returns
returns c = λ k below. at_least_word c.args.left c.args.right k c.ranges.right.fits below
