use Rattle.arrow_logic.proofs.Common.{either, boolean_rows}
use Rattle.arrow_logic.proofs.LawLemmas.{either_group, regrouped}
use Rattle.arrow_logic.proofs.laws.either_is_associative.Goals as goal

pub returns : goal.returns
returns c = regrouped either either_group (boolean_rows c.args.left.now) (boolean_rows c.args.middle.now) (boolean_rows c.args.right.now)
