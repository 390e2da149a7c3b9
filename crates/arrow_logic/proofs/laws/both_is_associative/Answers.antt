use Rattle.arrow_logic.proofs.Common.{both, boolean_rows}
use Rattle.arrow_logic.proofs.LawLemmas.{both_group, regrouped}
use Rattle.arrow_logic.proofs.laws.both_is_associative.Goals as goal

pub returns : goal.returns
returns c = regrouped both both_group (boolean_rows c.args.left.now) (boolean_rows c.args.middle.now) (boolean_rows c.args.right.now)
