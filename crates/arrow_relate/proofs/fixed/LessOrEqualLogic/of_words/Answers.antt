use Rattle.arrow_relate.proofs.TruthLemmas.{at_most_word}
use Rattle.arrow_relate.proofs.fixed.LessOrEqualLogic.of_words.Goals as goal

pub returns : goal.returns
returns c = λ k below. at_most_word c.args.left c.args.right k c.ranges.left.fits below
