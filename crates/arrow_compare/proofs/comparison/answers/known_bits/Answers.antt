use Rattle.std.proofs.Common.{◌∙◌}
use Rattle.std.proofs.lemmas.Result.{IfOk-weaker}
use Rattle.arrow_compare.proofs.AnswerLemmas.{none_null, nulls_false, nulls_true}
use Rattle.arrow_compare.proofs.comparison.answers.known_bits.Goals as goal

pub returns-in_ok-clone-in-None-default-clause-ok : goal.returns-in_ok-clone-in-None-default-clause-ok
returns-in_ok-clone-in-None-default-clause-ok c =
    let same = c.in_ok-clone-in-None-default.ensures.cases ∙ c.values-values.ensures in
    cc (same, none_null c.args.spare c.args.answers.now.validity c.args.answers.now.values c.in-None-default.ensures.same)

pub returns-in-Some-false-clause-ok : goal.returns-in-Some-false-clause-ok
returns-in-Some-false-clause-ok c =
    let known = nulls_false c.args.answers.now.validity c.in-Some-false.validity.now c.args.answers.now.values c.in-Some-false.ensures.same in
    IfOk-weaker c.and.result _ _ (λ found are. cc (are, known, c.values-values.ensures, c.in-Some-false.is-1)) c.and.ensures.ok

pub returns-in_ok-not-in-Some-true-clause-ok : goal.returns-in_ok-not-in-Some-true-clause-ok
returns-in_ok-not-in-Some-true-clause-ok c =
    let known = nulls_true c.args.answers.now.validity c.in-Some-true.validity.now c.args.answers.now.values c.in-Some-true.ensures.same in
    IfOk-weaker c.or.result _ _ (λ found are. cc (are, known, c.values-values.ensures, c.in_ok-not-in-Some-true.ensures.ok, c.in-Some-true.is-1)) c.or.ensures.ok
