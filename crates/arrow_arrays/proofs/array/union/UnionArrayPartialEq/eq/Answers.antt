use Rattle.std.proofs.Common.{rules}
use Rattle.arrow_flat.proofs.PartsLemmas.{same_by_meaning}
use Rattle.arrow_arrays.proofs.array.union.UnionArrayPartialEq.eq.Goals as goal

pub returns-then-eq-clause-value : goal.returns-then-eq-clause-value
returns-then-eq-clause-value c = same_by_meaning _ _ _ (search rules)

pub returns-else-eq-clause-value : goal.returns-else-eq-clause-value
returns-else-eq-clause-value c = same_by_meaning _ _ _ (search rules)
