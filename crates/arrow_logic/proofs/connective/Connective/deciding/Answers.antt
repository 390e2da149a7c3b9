use Rattle.arrow_logic.proofs.Common.{◌≡◌, ◌∙◌, ap, map, not, sym, IfOk-weaker, both_bits, first_bits, option_copied}
use Rattle.arrow_logic.proofs.ConnectiveLemmas.{deciding_bits, deciding_is}
use Rattle.arrow_logic.proofs.connective.Connective.deciding.Goals as goal

pub returns-in-And-None-clause-ok : goal.returns-in-And-None-clause-ok
returns-in-And-None-clause-ok c =
    let array = c.args.array.now in
    let seen : map not c.values-values.result.now ≡ deciding_bits c.args.self array.validity array.values = λ i. deciding_bits (sym c.in-And-None.is-0 i) ((sym (ap option_copied c.in-And-None.is-1) ∙ c.validity.ensures.same) i) (c.values-values.ensures i) in
    IfOk-weaker c.not.result _ _ (λ bits is. is ∙ (seen ∙ deciding_is c.args.self array.validity array.values c.validity.ensures.fits)) c.not.ensures.ok

pub returns-in-And-Some-clause-ok : goal.returns-in-And-Some-clause-ok
returns-in-And-Some-clause-ok c =
    let array = c.args.array.now in
    let seen : first_bits c.in-And-Some.validity.now c.values-values.result.now ≡ deciding_bits c.args.self array.validity array.values = λ i. deciding_bits (sym c.in-And-Some.is-0 i) ((sym (ap option_copied c.in-And-Some.is-1) ∙ c.validity.ensures.same) i) (c.values-values.ensures i) in
    IfOk-weaker c.and_not.result _ _ (λ bits is. is ∙ (seen ∙ deciding_is c.args.self array.validity array.values c.validity.ensures.fits)) c.and_not.ensures.ok

pub returns-in_ok-clone-in-Or-None-clause-ok : goal.returns-in_ok-clone-in-Or-None-clause-ok
returns-in_ok-clone-in-Or-None-clause-ok c =
    let array = c.args.array.now in
    let seen : c.values-values.result.now ≡ deciding_bits c.args.self array.validity array.values = λ i. deciding_bits (sym c.in-Or-None.is-0 i) ((sym (ap option_copied c.in-Or-None.is-1) ∙ c.validity.ensures.same) i) (c.values-values.ensures i) in
    c.in_ok-clone-in-Or-None.ensures.cases ∙ (seen ∙ deciding_is c.args.self array.validity array.values c.validity.ensures.fits)

pub returns-in-Or-Some-clause-ok : goal.returns-in-Or-Some-clause-ok
returns-in-Or-Some-clause-ok c =
    let array = c.args.array.now in
    let seen : both_bits c.in-Or-Some.validity.now c.values-values.result.now ≡ deciding_bits c.args.self array.validity array.values = λ i. deciding_bits (sym c.in-Or-Some.is-0 i) ((sym (ap option_copied c.in-Or-Some.is-1) ∙ c.validity.ensures.same) i) (c.values-values.ensures i) in
    IfOk-weaker c.and.result _ _ (λ bits is. is ∙ (seen ∙ deciding_is c.args.self array.validity array.values c.validity.ensures.fits)) c.and.ensures.ok
