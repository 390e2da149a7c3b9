use Rattle.arrow_relate.proofs.TruthLemmas.{equal_word}
use Rattle.arrow_relate.proofs.fixed.EqualLogic.of_words.Goals as goal

pub returns : goal.returns
returns c = λ k below. equal_word c.args.left c.args.right k c.ranges.left.fits c.ranges.right.fits below
