use Rattle.arrow_arrays.proofs.UnionLemmas.{union_values}
use Rattle.arrow_arrays.proofs.array.any.AnyArray.validity.Goals as goal

pub returns-in-Union-clause-marks : goal.returns-in-Union-clause-marks
returns-in-Union-clause-marks c =
    rw (c.in-Union.is, c.validity-in-Union.ensures) (union_values c.in-Union.array)
