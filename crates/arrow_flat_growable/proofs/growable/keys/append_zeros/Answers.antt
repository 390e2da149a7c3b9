use Rattle.arrow_flat_growable.proofs.Common.{◌++◌, ◌∙◌, map, replicate, refl, ap, Number}
use Rattle.arrow_flat_growable.proofs.ResultLemmas.{on_ok}
use Rattle.arrow_flat_growable.proofs.StoreLemmas.{slots_constant}
use Rattle.arrow_flat_growable.proofs.growable.keys.append_zeros.Goals as goal

pub returns-clause-ok : goal.returns-clause-ok
returns-clause-ok g c =
    let slot = g.K.NativeType.slot in
    let zero = g.met.K.NativeOrd.slot_is_number g.K.NativeType.zero ∙ ap Number g.met.K.NativeOrd.zero_is_zero in
    on_ok c.append_zeros.result c.append_zeros.ensures.ok (λ is. slots_constant slot c.args.keys.now.1 c.args.keys.now.1 c.append_zeros.new.self.1 c.args.additional g.K.NativeType.zero g.K.NativeType.zero refl refl is ∙ ap (λ s. map slot c.args.keys.now.1 ++ replicate c.args.additional s) zero)
