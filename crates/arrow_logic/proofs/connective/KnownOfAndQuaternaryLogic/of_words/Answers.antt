use Rattle.arrow_logic.proofs.ConnectiveLemmas.{known_of_and}
use Rattle.arrow_logic.proofs.connective.KnownOfAndQuaternaryLogic.of_words.Goals as goal

pub returns : goal.returns
returns c = λ k below. known_of_and c.args.left_valid c.args.left c.args.right_valid c.args.right k c.ranges.left.fits c.ranges.right.fits below
