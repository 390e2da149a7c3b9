use Rattle.arrow_logic.proofs.Common.{◌≡◌, ◌∙◌, rules, subst, sym, AllZip, IfOk-weaker}
use Rattle.arrow_logic.proofs.AnswerLemmas.{answers_each}
use Rattle.arrow_logic.proofs.arity.unary.Goals as goal

pub returns-clause-answers : goal.returns-clause-answers
returns-clause-answers g c =
    let stored = c.as_slice-stored.result.now in
    let lent : stored ≡ c.args.array.now.values = c.as_slice-stored.ensures ∙ c.values.ensures in
    let each = answers_each _ (λ x y. goal.F-post g c.args.op x y) stored c.in_ok-values.values.items c.in_ok-values.ensures.count c.in_ok-values.ensures.each (λ k y answered. search rules) in
    IfOk-weaker c.make_of_one.result _ _ (λ made is. subst (AllZip (λ x y. goal.F-post g c.args.op x y) c.args.array.now.values) (sym is) (subst (λ xs. AllZip (λ x y. goal.F-post g c.args.op x y) xs c.in_ok-values.values.items) lent each)) c.make_of_one.ensures.values
