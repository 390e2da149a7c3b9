use Rattle.arrow_logic.proofs.Common.{◌≡◌, ◌∙◌, arith, ap, length, refl, rules, subst, sym, ◌⊎◌, AllZip, zip, length-map, IfOk-weaker, Error, RefusesFirst, answers_ok, to_pair}
use Rattle.arrow_logic.proofs.AnswerLemmas.{answers_each, failed_first, pairs_long, passed}
use Rattle.arrow_logic.proofs.arity.try_binary.Goals as goal

pub returns-clause-answers : goal.returns-clause-answers
returns-clause-answers g c =
    let left = c.as_slice-left.result.now in
    let right = c.as_slice-right.result.now in
    let pairs = zip left right in
    let lent : pairs ≡ zip c.args.lhs.now.values c.args.rhs.now.values = (λ i. zip ((c.as_slice-left.ensures ∙ c.values.ensures) i) ((c.as_slice-right.ensures ∙ c.values-2.ensures) i)) in
    let equal : length c.args.lhs.now.values ≡ length c.args.rhs.now.values = omega (arith, c.if-len.false, c.len.ensures.values, c.len-2.ensures.values, length-map c.args.lhs.now.values g.T.NativeType.slot, length-map c.args.rhs.now.values g.D.NativeType.slot) in
    let same = ap length (c.as_slice-left.ensures ∙ c.values.ensures) ∙ (equal ∙ sym (ap length (c.as_slice-right.ensures ∙ c.values-2.ensures))) in
    let values = c.in_ok-values.values.items in
    let long = pairs_long values left right c.in_ok-values.ensures.count same in
    let each = answers_each _ (answers_ok (to_pair (λ x y z. goal.F-post g c.args.op x y z))) pairs values long c.in_ok-values.ensures.each (λ k y answered. search rules) in
    IfOk-weaker c.make_of_two.result _ _ (λ made is. subst (AllZip (answers_ok (to_pair (λ x y z. goal.F-post g c.args.op x y z))) (zip c.args.lhs.now.values c.args.rhs.now.values)) (sym is) (subst (λ xs. AllZip (answers_ok (to_pair (λ x y z. goal.F-post g c.args.op x y z))) xs values) lent each)) c.make_of_two.ensures.values

pub returns-in_err-values-clause-failed : goal.returns-in_err-values-clause-failed
returns-in_err-values-clause-failed g c equal =
    let left = c.as_slice-left.result.now in
    let right = c.as_slice-right.result.now in
    let pairs = zip left right in
    let lent : pairs ≡ zip c.args.lhs.now.values c.args.rhs.now.values = (λ i. zip ((c.as_slice-left.ensures ∙ c.values.ensures) i) ((c.as_slice-right.ensures ∙ c.values-2.ensures) i)) in
    let same = ap length (c.as_slice-left.ensures ∙ c.values.ensures) ∙ (equal ∙ sym (ap length (c.as_slice-right.ensures ∙ c.values-2.ensures))) in
    let error = c.in_err-values.field-0.0 in
    let first = failed_first _ (to_pair (λ x y z. goal.F-post g c.args.op x y z)) (length left) pairs error (pairs_long left left right refl same) c.in_err-values.ensures.failed (λ k r answered. search rules) in
    passed _ _ _ c.from_residual.ensures.1 (subst (λ xs. (error ≡ Error.OutOfMemory) ⊎ RefusesFirst (to_pair (λ x y z. goal.F-post g c.args.op x y z)) xs error) lent first)
