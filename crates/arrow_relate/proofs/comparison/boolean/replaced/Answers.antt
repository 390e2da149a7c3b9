use Rattle.std.proofs.Common.{◌∙◌, ap, replicate}
use Rattle.std.proofs.lemmas.Result.{IfOk-weaker}
use Rattle.arrow_relate.proofs.RowLemmas.{equal_bits, kept_bits}
use Rattle.arrow_relate.proofs.comparison.boolean.replaced.Goals as goal

pub returns-then-unset-set-clause-ok : goal.returns-then-unset-set-clause-ok
returns-then-unset-set-clause-ok c =
    IfOk-weaker c.new_constant.result _ _ (λ made is. is ∙ (ap (λ n. replicate n c.args.set) c.len.ensures ∙ equal_bits c.args.unset c.args.set c.if-unset-set.true c.args.bits.now)) c.new_constant.ensures.ok

pub returns-in_ok-clone-clause-ok : goal.returns-in_ok-clone-clause-ok
returns-in_ok-clone-clause-ok c =
    c.in_ok-clone.ensures.cases ∙ kept_bits c.args.unset c.args.set c.if-unset-set.false c.if-set.true c.args.bits.now
