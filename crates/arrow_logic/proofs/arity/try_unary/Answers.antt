use Rattle.arrow_logic.proofs.Common.{◌≡◌, ◌∙◌, length, refl, rules, subst, sym, ◌⊎◌, AllZip, Error, IfOk-weaker, RefusesFirst, answers_ok}
use Rattle.arrow_logic.proofs.AnswerLemmas.{answers_each, failed_first, passed}
use Rattle.arrow_logic.proofs.arity.try_unary.Goals as goal

pub returns-clause-answers : goal.returns-clause-answers
returns-clause-answers g c =
    let stored = c.as_slice-stored.result.now in
    let lent : stored ≡ c.args.array.now.values = c.as_slice-stored.ensures ∙ c.values.ensures in
    let each = answers_each _ (answers_ok (λ x y. goal.F-post g c.args.op x y)) stored c.in_ok-values.values.items c.in_ok-values.ensures.count c.in_ok-values.ensures.each (λ k y answered. search rules) in
    IfOk-weaker c.make_of_one.result _ _ (λ made is. subst (AllZip (answers_ok (λ x y. goal.F-post g c.args.op x y)) c.args.array.now.values) (sym is) (subst (λ xs. AllZip (answers_ok (λ x y. goal.F-post g c.args.op x y)) xs c.in_ok-values.values.items) lent each)) c.make_of_one.ensures.values

pub returns-in_err-values-clause-failed : goal.returns-in_err-values-clause-failed
returns-in_err-values-clause-failed g c =
    let stored = c.as_slice-stored.result.now in
    let lent : stored ≡ c.args.array.now.values = c.as_slice-stored.ensures ∙ c.values.ensures in
    let first = failed_first _ (λ x r. goal.F-post g c.args.op x r) (length stored) stored c.in_err-values.field-0.0 refl c.in_err-values.ensures.failed (λ k r answered. search rules) in
    passed _ _ _ c.from_residual.ensures.1 (subst (λ xs. (c.in_err-values.field-0.0 ≡ Error.OutOfMemory) ⊎ RefusesFirst (λ x r. goal.F-post g c.args.op x r) xs c.in_err-values.field-0.0) lent first)
