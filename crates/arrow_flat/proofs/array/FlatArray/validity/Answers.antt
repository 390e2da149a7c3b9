use Rattle.arrow_flat.proofs.PartsLemmas.{marks-masked}
use Rattle.arrow_flat.proofs.array.FlatArray.validity.Goals as goal

pub returns-clause-marks : goal.returns-clause-marks
returns-clause-marks g c =
    rw (← c.self.view_is, c.as_ref.ensures.value) (marks-masked c.self.inside.validity _ (g.met.V.Values.stored c.self.inside.values) c.self.invariant.fits)
