use Rattle.arrow_flat_growable.proofs.Common.{false, replicate, ap, refl, length-replicate, Boolean}
use Rattle.arrow_flat_growable.proofs.FitsLemmas.{is_only_counted}
use Rattle.arrow_flat_growable.proofs.ResultLemmas.{on_ok}
use Rattle.arrow_flat_growable.proofs.StoreLemmas.{slots_constant, slots_fit, constant_too_many, counted_on_ok}
use Rattle.arrow_flat_growable.proofs.growable.boolean.GrowableBitsGrowableValues.extend_nulls.Goals as goal

pub returns-clause-ok : goal.returns-clause-ok
returns-clause-ok c =
    on_ok c.extend_constant.result c.extend_constant.ensures.ok (λ is. slots_constant Boolean c.args.self.now c.self.inside.bits c.extend_constant.new.self c.args.additional false false c.self.view_is refl is)

pub returns-clause-fits : goal.returns-clause-fits
returns-clause-fits c =
    λ t kind. on_ok c.extend_constant.result (counted_on_ok c.extend_constant.result _ c.self.inside.bits (replicate c.args.additional false) c.extend_constant.new.self c.args.additional (length-replicate c.args.additional false) c.extend_constant.ensures.overflow.1 c.extend_constant.ensures.ok) (slots_fit Boolean t c.extend_constant.new.self (ap is_only_counted kind))

pub returns-clause-overflow : goal.returns-clause-overflow
returns-clause-overflow c =
    λ t kind is fits. constant_too_many Boolean t c.args.self.now c.self.inside.bits c.args.additional (Boolean false) c.self.view_is (c.extend_constant.ensures.overflow.0 is) fits
