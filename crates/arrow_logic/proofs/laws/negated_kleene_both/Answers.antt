use Rattle.arrow_logic.proofs.Common.{kleene_both, kleene_either, boolean_rows}
use Rattle.arrow_logic.proofs.LawLemmas.{kleene_both_turned, turned_pairs}
use Rattle.arrow_logic.proofs.laws.negated_kleene_both.Goals as goal

pub returns : goal.returns
returns c = turned_pairs kleene_both kleene_either kleene_both_turned (boolean_rows c.args.lhs.now) (boolean_rows c.args.rhs.now)
