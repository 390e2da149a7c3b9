use Rattle.arrow_logic.proofs.Common.{◌≡◌, ◌∙◌, length, rules, subst, sym, AllZip, zip}
use Rattle.arrow_logic.proofs.AnswerLemmas.{answers_each, zipped_long}
use Rattle.arrow_logic.proofs.arity.unary_with_bitmap.Goals as goal

pub returns-clause-answers : goal.returns-clause-answers
returns-clause-answers g c =
    let stored = c.as_slice-stored.result.now in
    let lent : stored ≡ c.args.array.now.values = c.as_slice-stored.ensures ∙ c.values.ensures in
    let values = c.in_ok-values.values.items in
    let bits = c.in_ok-values.bits in
    let long = zipped_long values bits (length stored) c.in_ok-values.ensures.count c.in_ok-values.ensures.bits in
    let each = answers_each _ (λ x y. goal.F-post g c.args.op x y) stored (zip values bits) long c.in_ok-values.ensures.each (λ k y answered. search rules) in
    subst (λ ys. AllZip (λ x y. goal.F-post g c.args.op x y) c.args.array.now.values (zip ys bits)) (sym c.in_ok-make_of_one.ensures.values) (subst (λ xs. AllZip (λ x y. goal.F-post g c.args.op x y) xs (zip values bits)) lent each)
