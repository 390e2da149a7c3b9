use Rattle.std.proofs.Common.{sym, ◌∙◌}
use Rattle.arrow_flat.proofs.PartsLemmas.{null_count-masked}
use Rattle.arrow_flat.proofs.array.FlatArray.null_count.Goals as goal

pub returns : goal.returns
returns g c =
    rw (← c.self.view_is) (c.unset_bits.ensures ∙ sym (null_count-masked _ _ (g.met.V.Values.stored c.self.inside.values) c.self.invariant.fits))
