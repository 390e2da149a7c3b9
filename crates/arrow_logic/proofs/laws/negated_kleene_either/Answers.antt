use Rattle.arrow_logic.proofs.Common.{kleene_both, kleene_either, boolean_rows}
use Rattle.arrow_logic.proofs.LawLemmas.{kleene_either_turned, turned_pairs}
use Rattle.arrow_logic.proofs.laws.negated_kleene_either.Goals as goal

pub returns : goal.returns
returns c = turned_pairs kleene_either kleene_both kleene_either_turned (boolean_rows c.args.lhs.now) (boolean_rows c.args.rhs.now)
