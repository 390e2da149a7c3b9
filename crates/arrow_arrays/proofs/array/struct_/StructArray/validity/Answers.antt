use Rattle.arrow_arrays.proofs.StructLemmas.{marks-struct}
use Rattle.arrow_arrays.proofs.array.struct_.StructArray.validity.Goals as goal

pub returns-clause-marks : goal.returns-clause-marks
returns-clause-marks c =
    rw (← c.self.view_is, c.as_ref.ensures.value) (marks-struct _ c.self.invariant)
