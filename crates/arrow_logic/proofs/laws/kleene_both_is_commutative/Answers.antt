use Rattle.arrow_logic.proofs.Common.{kleene_both, boolean_rows}
use Rattle.arrow_logic.proofs.LawLemmas.{kleene_both_swap, swapped}
use Rattle.arrow_logic.proofs.laws.kleene_both_is_commutative.Goals as goal

pub returns : goal.returns
returns c = swapped kleene_both kleene_both_swap (boolean_rows c.args.lhs.now) (boolean_rows c.args.rhs.now)
