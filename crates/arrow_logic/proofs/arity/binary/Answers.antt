use Rattle.arrow_logic.proofs.Common.{◌≡◌, ◌∙◌, ap, length, rules, subst, sym, AllZip, zip, IfOk-weaker, to_pair}
use Rattle.arrow_logic.proofs.AnswerLemmas.{answers_each, pairs_long}
use Rattle.arrow_logic.proofs.arity.binary.Goals as goal

pub returns-clause-answers : goal.returns-clause-answers
returns-clause-answers g c =
    let left = c.as_slice-left.result.now in
    let right = c.as_slice-right.result.now in
    let pairs = zip left right in
    let same = ap length (c.as_slice-left.ensures ∙ c.values.ensures) ∙ (c.requires.lengths ∙ sym (ap length (c.as_slice-right.ensures ∙ c.values-2.ensures))) in
    let lent : pairs ≡ zip c.args.lhs.now.values c.args.rhs.now.values = (λ i. zip ((c.as_slice-left.ensures ∙ c.values.ensures) i) ((c.as_slice-right.ensures ∙ c.values-2.ensures) i)) in
    let long = pairs_long c.in_ok-values.values.items left right c.in_ok-values.ensures.count same in
    let each = answers_each _ (to_pair (λ x y z. goal.F-post g c.args.op x y z)) pairs c.in_ok-values.values.items long c.in_ok-values.ensures.each (λ k y answered. search rules) in
    IfOk-weaker c.make_of_two.result _ _ (λ made is. subst (AllZip (to_pair (λ x y z. goal.F-post g c.args.op x y z)) (zip c.args.lhs.now.values c.args.rhs.now.values)) (sym is) (subst (λ xs. AllZip (to_pair (λ x y z. goal.F-post g c.args.op x y z)) xs c.in_ok-values.values.items) lent each)) c.make_of_two.ensures.values
