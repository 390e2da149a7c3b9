use Rattle.arrow_relate.proofs.TruthLemmas.{not_equal_word}
use Rattle.arrow_relate.proofs.fixed.NotEqualLogic.of_words.Goals as goal

pub returns : goal.returns
returns c = λ k below. not_equal_word c.args.left c.args.right k
