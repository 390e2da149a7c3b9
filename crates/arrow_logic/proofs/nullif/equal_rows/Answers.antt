use Rattle.arrow_logic.proofs.Common.{◌∙◌, ap, length, sym, IfOk-weaker, length-paired, option_copied}
use Rattle.arrow_logic.proofs.NullifLemmas.{lent_bits}
use Rattle.arrow_logic.proofs.nullif.equal_rows.Goals as goal

pub and-requires : goal.and-requires
and-requires g c =
    let rows = c.args.rows.now in
    lent_bits g.T.NativeType.slot rows.validity c.in-Some.validity.now rows.values c.args.stored.now (sym c.validity.ensures.same ∙ ap option_copied c.in-Some.is) c.validity.ensures.fits c.requires ∙ sym c.in_ok-equal.ensures.count

pub returns-in-Some-clause-count : goal.returns-in-Some-clause-count
returns-in-Some-clause-count g c =
    let rows = c.args.rows.now in
    let long = lent_bits g.T.NativeType.slot rows.validity c.in-Some.validity.now rows.values c.args.stored.now (sym c.validity.ensures.same ∙ ap option_copied c.in-Some.is) c.validity.ensures.fits c.requires in
    IfOk-weaker c.and.result _ _ (λ bits is. ap length is ∙ (length-paired _ c.in-Some.validity.now c.in_ok-equal.equal (long ∙ sym c.in_ok-equal.ensures.count) ∙ long)) c.and.ensures.ok
