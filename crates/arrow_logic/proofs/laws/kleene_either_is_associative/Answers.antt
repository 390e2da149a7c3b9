use Rattle.arrow_logic.proofs.Common.{kleene_either, boolean_rows}
use Rattle.arrow_logic.proofs.LawLemmas.{kleene_either_group, regrouped}
use Rattle.arrow_logic.proofs.laws.kleene_either_is_associative.Goals as goal

pub returns : goal.returns
returns c = regrouped kleene_either kleene_either_group (boolean_rows c.args.left.now) (boolean_rows c.args.middle.now) (boolean_rows c.args.right.now)
