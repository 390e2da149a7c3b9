use Rattle.arrow_arrays.proofs.FixedLemmas.{marks-fixed}
use Rattle.arrow_arrays.proofs.array.fixed_size_list.FixedSizeListArray.validity.Goals as goal

pub returns-clause-marks : goal.returns-clause-marks
returns-clause-marks c =
    rw (← c.self.view_is, c.as_ref.ensures.value) (marks-fixed _ c.self.invariant)
