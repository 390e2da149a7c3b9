use Rattle.std.proofs.Common.{rules}
use Rattle.arrow_flat.proofs.PartsLemmas.{same_by_meaning}
use Rattle.arrow_flat.proofs.array.FlatArrayPartialEq.eq.Goals as goal

pub returns-then-eq-clause-value : goal.returns-then-eq-clause-value
returns-then-eq-clause-value g c = same_by_meaning _ _ _ (search rules)

pub returns-else-eq-clause-value : goal.returns-else-eq-clause-value
returns-else-eq-clause-value g c = same_by_meaning _ _ _ (search rules)
