use Rattle.arrow_flat_growable.proofs.Common.{map, refl, replicate, ap, length-replicate}
use Rattle.arrow_flat_growable.proofs.FitsLemmas.{is_only_counted}
use Rattle.arrow_flat_growable.proofs.ResultLemmas.{on_ok}
use Rattle.arrow_flat_growable.proofs.StoreLemmas.{part_fits, slots_constant}
use Rattle.arrow_flat_growable.proofs.growable.primitive.GrowablePartsGrowableValues.extend_nulls.Goals as goal

pub returns-clause-ok : goal.returns-clause-ok
returns-clause-ok g c =
    on_ok c.append_zeros.result c.append_zeros.ensures.ok (λ is. slots_constant g.T.NativeType.slot c.args.self.now.1 c.args.self.now.1 c.append_zeros.new.self.1 c.args.additional g.T.NativeType.zero g.T.NativeType.zero refl refl is)

pub returns-clause-fits : goal.returns-clause-fits
returns-clause-fits g c =
    let zero = g.T.NativeType.slot g.T.NativeType.zero in
    λ t kind. on_ok c.append_zeros.result (returns-clause-ok g c) (λ is. part_fits t (ap is_only_counted kind) (map g.T.NativeType.slot c.args.self.now.1) (replicate c.args.additional zero) _ c.args.additional is (length-replicate c.args.additional zero) c.requires)
