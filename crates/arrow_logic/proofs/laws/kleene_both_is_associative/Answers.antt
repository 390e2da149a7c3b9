use Rattle.arrow_logic.proofs.Common.{kleene_both, boolean_rows}
use Rattle.arrow_logic.proofs.LawLemmas.{kleene_both_group, regrouped}
use Rattle.arrow_logic.proofs.laws.kleene_both_is_associative.Goals as goal

pub returns : goal.returns
returns c = regrouped kleene_both kleene_both_group (boolean_rows c.args.left.now) (boolean_rows c.args.middle.now) (boolean_rows c.args.right.now)
