use Rattle.arrow_logic.proofs.Common.{either, boolean_rows}
use Rattle.arrow_logic.proofs.LawLemmas.{either_swap, swapped}
use Rattle.arrow_logic.proofs.laws.either_is_commutative.Goals as goal

pub returns : goal.returns
returns c = swapped either either_swap (boolean_rows c.args.lhs.now) (boolean_rows c.args.rhs.now)
