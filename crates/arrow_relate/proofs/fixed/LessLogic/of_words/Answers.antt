use Rattle.arrow_relate.proofs.TruthLemmas.{less_word}
use Rattle.arrow_relate.proofs.fixed.LessLogic.of_words.Goals as goal

pub returns : goal.returns
returns c = λ k below. less_word c.args.left c.args.right k c.ranges.left.fits below
