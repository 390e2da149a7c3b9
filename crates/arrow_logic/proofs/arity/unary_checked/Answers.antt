use Rattle.arrow_logic.proofs.Common.{◌≡◌, ◌∙◌, ap, length, map, rules, subst, AllZip, zip, either_bits, rows_by, nulls, answers_parts, not}
use Rattle.arrow_logic.proofs.AnswerLemmas.{answers_each, answers_some, by_both, zipped_long}
use Rattle.arrow_logic.proofs.arity.unary_checked.Goals as goal

pub returns-clause-answers : goal.returns-clause-answers
returns-clause-answers g c =
    let stored = c.as_slice-stored.result.now in
    let lent : stored ≡ c.args.array.now.values = c.as_slice-stored.ensures ∙ c.values.ensures in
    let values = c.in_ok-values.values.items in
    let bits = c.in_ok-values.bits in
    let long = zipped_long values bits (length stored) c.in_ok-values.ensures.count c.in_ok-values.ensures.bits in
    let each = answers_each _ (answers_parts (λ x y. goal.F-post g c.args.op x y) g.O.NativeType.zero) stored (zip values bits) long c.in_ok-values.ensures.each (λ k y answered. search rules) in
    let given = subst (λ xs. AllZip (answers_parts (λ x y. goal.F-post g c.args.op x y) g.O.NativeType.zero) xs (zip values bits)) lent each in
    let count = c.in_ok-values.ensures.count ∙ ap length lent in
    let marked = c.in_ok-values.ensures.bits ∙ ap length lent in
    by_both c.valid_where_set.result _ _ _ c.valid_where_set.ensures.values c.valid_where_set.ensures.null_rows (λ made stores marks. answers_some (λ x y. goal.F-post g c.args.op x y) g.O.NativeType.zero c.args.array.now.values (nulls (rows_by (map g.I.NativeType.slot) c.args.array.now)) values made.values bits (rows_by (map g.O.NativeType.slot) made) count marked given (stores ∙ c.in_ok-made.ensures.values) (marks ∙ ap (λ ns. either_bits ns (map not bits)) c.in_ok-made.ensures.null_rows))
