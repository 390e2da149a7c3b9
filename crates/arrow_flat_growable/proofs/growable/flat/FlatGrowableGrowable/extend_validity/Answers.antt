use Rattle.arrow_flat_growable.proofs.Common.{arith, replicate, subst, sym, length-replicate, mask, null_slot, type_of, FitsWith, null_rows_of}
use Rattle.arrow_flat_growable.proofs.FlatLemmas.{counts_rows, too_many}
use Rattle.arrow_flat_growable.proofs.growable.flat.FlatGrowableGrowable.extend_validity.Goals as goal

pub returns-in_default-clause-overflow : goal.returns-in_default-clause-overflow
returns-in_default-clause-overflow g c same fits =
    let t = type_of c.self.inside.data_type in
    let before = mask c.self.inside.validity (g.G.GrowableValues.slots c.self.inside.values) in
    let fit = subst (λ h. FitsWith h (null_rows_of h c.args.additional)) (sym c.self.view_is) fits in
    too_many t before (replicate c.args.additional (null_slot t)) c.self.inside.len c.args.additional fit (counts_rows c.self.invariant c.if-self.false) (length-replicate c.args.additional (null_slot t)) (omega (arith, c.in_default.ensures))
