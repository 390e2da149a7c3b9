use Rattle.arrow_arrays.proofs.KeyLemmas.{marks_of_keys}
use Rattle.arrow_arrays.proofs.array.dictionary.DictionaryArray.validity.Goals as goal

pub returns-clause-marks : goal.returns-clause-marks
returns-clause-marks c =
    rw (← c.self.view_is) (marks_of_keys _ _ _ _ c.self.invariant.within c.validity.ensures.marks)
