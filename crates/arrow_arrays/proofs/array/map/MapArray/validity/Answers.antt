use Rattle.arrow_arrays.proofs.ListLemmas.{marks-list}
use Rattle.arrow_arrays.proofs.array.map.MapArray.validity.Goals as goal

pub returns-clause-marks : goal.returns-clause-marks
returns-clause-marks c =
    rw (← c.self.view_is, c.as_ref.ensures.value) (marks-list _ c.self.invariant)
