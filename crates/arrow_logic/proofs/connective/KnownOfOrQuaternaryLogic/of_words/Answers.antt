use Rattle.arrow_logic.proofs.ConnectiveLemmas.{known_of_or}
use Rattle.arrow_logic.proofs.connective.KnownOfOrQuaternaryLogic.of_words.Goals as goal

pub returns : goal.returns
returns c = λ k below. known_of_or c.args.left_valid c.args.left c.args.right_valid c.args.right k
