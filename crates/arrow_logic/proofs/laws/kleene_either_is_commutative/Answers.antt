use Rattle.arrow_logic.proofs.Common.{kleene_either, boolean_rows}
use Rattle.arrow_logic.proofs.LawLemmas.{kleene_either_swap, swapped}
use Rattle.arrow_logic.proofs.laws.kleene_either_is_commutative.Goals as goal

pub returns : goal.returns
returns c = swapped kleene_either kleene_either_swap (boolean_rows c.args.lhs.now) (boolean_rows c.args.rhs.now)
