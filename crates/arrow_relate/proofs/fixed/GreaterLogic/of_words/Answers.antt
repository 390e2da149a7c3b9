use Rattle.arrow_relate.proofs.TruthLemmas.{more_word}
use Rattle.arrow_relate.proofs.fixed.GreaterLogic.of_words.Goals as goal

pub returns : goal.returns
returns c = λ k below. more_word c.args.left c.args.right k c.ranges.right.fits below
