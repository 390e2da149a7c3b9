use Rattle.arrow_logic.proofs.LawLemmas.{turned_twice}
use Rattle.arrow_logic.proofs.laws.negated_twice.Goals as goal

pub returns : goal.returns
returns c = turned_twice c.args.array.now.validity c.args.array.now.values
