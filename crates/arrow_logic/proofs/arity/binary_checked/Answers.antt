use Rattle.arrow_logic.proofs.Common.{◌≡◌, ◌∙◌, ap, length, map, rules, subst, sym, AllZip, zip, either_bits, rows_by, nulls, to_pair, answers_parts, not}
use Rattle.arrow_logic.proofs.AnswerLemmas.{answers_each, answers_some, by_both, pairs_long, zipped_long}
use Rattle.arrow_logic.proofs.arity.binary_checked.Goals as goal

pub returns-clause-answers : goal.returns-clause-answers
returns-clause-answers g c =
    let left = c.as_slice-left.result.now in
    let right = c.as_slice-right.result.now in
    let pairs = zip left right in
    let lent : pairs ≡ zip c.args.lhs.now.values c.args.rhs.now.values = (λ i. zip ((c.as_slice-left.ensures ∙ c.values.ensures) i) ((c.as_slice-right.ensures ∙ c.values-2.ensures) i)) in
    let same = ap length (c.as_slice-left.ensures ∙ c.values.ensures) ∙ (c.requires.lengths ∙ sym (ap length (c.as_slice-right.ensures ∙ c.values-2.ensures))) in
    let values = c.in_ok-values.values.items in
    let bits = c.in_ok-values.bits in
    let value_count = pairs_long values left right c.in_ok-values.ensures.count same in
    let bit_count = pairs_long bits left right c.in_ok-values.ensures.bits same in
    let long = zipped_long values bits (length pairs) value_count bit_count in
    let each = answers_each _ (answers_parts (to_pair (λ x y z. goal.F-post g c.args.op x y z)) g.T.NativeType.zero) pairs (zip values bits) long c.in_ok-values.ensures.each (λ k y answered. search rules) in
    let given = subst (λ xs. AllZip (answers_parts (to_pair (λ x y z. goal.F-post g c.args.op x y z)) g.T.NativeType.zero) xs (zip values bits)) lent each in
    let before = either_bits (nulls (rows_by (map g.T.NativeType.slot) c.args.lhs.now)) (nulls (rows_by (map g.D.NativeType.slot) c.args.rhs.now)) in
    by_both c.valid_where_set.result _ _ _ c.valid_where_set.ensures.values c.valid_where_set.ensures.null_rows (λ made stores marks. answers_some (to_pair (λ x y z. goal.F-post g c.args.op x y z)) g.T.NativeType.zero (zip c.args.lhs.now.values c.args.rhs.now.values) before values made.values bits (rows_by (map g.T.NativeType.slot) made) (value_count ∙ ap length lent) (bit_count ∙ ap length lent) given (stores ∙ c.in_ok-made.ensures.values) (marks ∙ ap (λ ns. either_bits ns (map not bits)) c.in_ok-made.ensures.null_rows))
