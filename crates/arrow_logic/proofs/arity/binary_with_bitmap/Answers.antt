use Rattle.arrow_logic.proofs.Common.{◌≡◌, ◌∙◌, ap, length, rules, subst, sym, AllZip, zip, to_pair}
use Rattle.arrow_logic.proofs.AnswerLemmas.{answers_each, pairs_long, zipped_long}
use Rattle.arrow_logic.proofs.arity.binary_with_bitmap.Goals as goal

pub returns-clause-answers : goal.returns-clause-answers
returns-clause-answers g c =
    let left = c.as_slice-left.result.now in
    let right = c.as_slice-right.result.now in
    let pairs = zip left right in
    let lent : pairs ≡ zip c.args.lhs.now.values c.args.rhs.now.values = (λ i. zip ((c.as_slice-left.ensures ∙ c.values.ensures) i) ((c.as_slice-right.ensures ∙ c.values-2.ensures) i)) in
    let same = ap length (c.as_slice-left.ensures ∙ c.values.ensures) ∙ (c.requires.lengths ∙ sym (ap length (c.as_slice-right.ensures ∙ c.values-2.ensures))) in
    let values = c.in_ok-values.values.items in
    let bits = c.in_ok-values.bits in
    let long = pairs_long (zip values bits) left right (zipped_long values bits (length left) c.in_ok-values.ensures.count c.in_ok-values.ensures.bits) same in
    let each = answers_each _ (to_pair (λ x y z. goal.F-post g c.args.op x y z)) pairs (zip values bits) long c.in_ok-values.ensures.each (λ k y answered. search rules) in
    subst (λ ys. AllZip (to_pair (λ x y z. goal.F-post g c.args.op x y z)) (zip c.args.lhs.now.values c.args.rhs.now.values) (zip ys bits)) (sym c.in_ok-make_of_two.ensures.values) (subst (λ xs. AllZip (to_pair (λ x y z. goal.F-post g c.args.op x y z)) xs (zip values bits)) lent each)
