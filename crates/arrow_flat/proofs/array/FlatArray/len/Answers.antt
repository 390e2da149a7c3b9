use Rattle.std.proofs.Common.{sym, ◌∙◌}
use Rattle.arrow_flat.proofs.PartsLemmas.{length-masked}
use Rattle.arrow_flat.proofs.array.FlatArray.len.Goals as goal

pub returns-clause-rows : goal.returns-clause-rows
returns-clause-rows g c =
    rw (← c.self.view_is) (c.len.ensures ∙ sym (length-masked c.self.inside.validity _ c.self.invariant.fits))
