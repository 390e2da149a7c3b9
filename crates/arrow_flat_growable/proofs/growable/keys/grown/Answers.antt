use Rattle.arrow_flat_growable.proofs.Common.{arith, ◌≡◌, ◌+◌, pos, ap, refl, sym, subst, ◌∙◌, lt_of_not-le, Number, not_negative, number_row, KeyFits, grown_key}
use Rattle.arrow_flat_growable.proofs.GrownKeyLemmas.{greatest_small, passes}
use Rattle.arrow_flat_growable.proofs.growable.keys.grown.Goals as goal

pub to_usize-requires : goal.to_usize-requires
to_usize-requires g c =
    let row = number_row g.K.NativeType.slot g.K.NativeOrd.number g.met.K.NativeOrd.slot_is_number c.args.others.now.validity c.args.others.now.values c.args.i c.value.result c.validity.ensures.fits c.requires.within c.if-not-is_valid.ensures.bit c.value.ensures in
    not_negative _ _ c.requires.key row

pub returns-in_default-clause-overflow : goal.returns-in_default-clause-overflow
returns-in_default-clause-overflow g c overflows =
    let row = number_row g.K.NativeType.slot g.K.NativeOrd.number g.met.K.NativeOrd.slot_is_number c.args.others.now.validity c.args.others.now.values c.args.i c.value.result c.validity.ensures.fits c.requires.within c.if-not-is_valid.ensures.bit c.value.ensures in
    passes g.K.Index.greatest c.to_usize.result c.args.by _ (row ∙ ap Number (sym c.to_usize.ensures.value)) c.to_usize.ensures.at_most_greatest (omega (arith, c.in_default.ensures, greatest_small g.K.DictionaryKey.KEY_TYPE, g.met.K.DictionaryKey.greatest_is))

pub returns-in_default-from_usize-clause-overflow :
    goal.returns-in_default-from_usize-clause-overflow
returns-in_default-from_usize-clause-overflow g c overflows =
    let row = number_row g.K.NativeType.slot g.K.NativeOrd.number g.met.K.NativeOrd.slot_is_number c.args.others.now.validity c.args.others.now.values c.args.i c.value.result c.validity.ensures.fits c.requires.within c.if-not-is_valid.ensures.bit c.value.ensures in
    let over = lt_of_not-le (λ small. absurd (cc (c.in_default-from_usize.ensures.fits.1 small))) in
    passes g.K.Index.greatest c.to_usize.result c.args.by _ (row ∙ ap Number (sym c.to_usize.ensures.value)) c.to_usize.ensures.at_most_greatest (omega (arith, over, c.in-Some.ensures))

pub returns-clause-ok : goal.returns-clause-ok
returns-clause-ok g c =
    let row = number_row g.K.NativeType.slot g.K.NativeOrd.number g.met.K.NativeOrd.slot_is_number c.args.others.now.validity c.args.others.now.values c.args.i c.value.result c.validity.ensures.fits c.requires.within c.if-not-is_valid.ensures.bit c.value.ensures in
    let sum : c.in-Some.grown ≡ c.to_usize.result + c.args.by = omega (arith, c.in-Some.ensures) in
    g.met.K.NativeOrd.slot_is_number c.in-Some-from_usize.key ∙ (ap Number (c.in-Some-from_usize.ensures.value ∙ ap pos sum) ∙ sym (ap (grown_key c.args.by) (row ∙ ap Number (sym c.to_usize.ensures.value))))

pub returns-clause-fits : goal.returns-clause-fits
returns-clause-fits g c =
    let row = number_row g.K.NativeType.slot g.K.NativeOrd.number g.met.K.NativeOrd.slot_is_number c.args.others.now.validity c.args.others.now.values c.args.i c.value.result c.validity.ensures.fits c.requires.within c.if-not-is_valid.ensures.bit c.value.ensures in
    subst (KeyFits g.K.Index.greatest c.args.by) (sym (row ∙ ap Number (sym c.to_usize.ensures.value))) (omega (arith, c.in-Some.ensures, c.in-Some-from_usize.ensures.fits.0 refl))
