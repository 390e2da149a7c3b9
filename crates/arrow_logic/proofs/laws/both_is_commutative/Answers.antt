use Rattle.arrow_logic.proofs.Common.{both, boolean_rows}
use Rattle.arrow_logic.proofs.LawLemmas.{both_swap, swapped}
use Rattle.arrow_logic.proofs.laws.both_is_commutative.Goals as goal

pub returns : goal.returns
returns c = swapped both both_swap (boolean_rows c.args.lhs.now) (boolean_rows c.args.rhs.now)
