use Rattle.arrow_flat_growable.proofs.Common.{◌∙◌, ap, length, length-replicate, Null}
use Rattle.arrow_flat_growable.proofs.NullLemmas.{null_rows, nulls_over, nulls_within}
use Rattle.arrow_flat_growable.proofs.ResultLemmas.{on_ok}
use Rattle.arrow_flat_growable.proofs.growable.null.GrowableNullGrowable.extend_validity.Goals as goal

pub returns-clause-ok : goal.returns-clause-ok
returns-clause-ok c =
    rw (null_rows c.args.self.now c.args.additional c.extend_nulls.ensures.before) c.extend_nulls.ensures.ok

pub returns-clause-fits : goal.returns-clause-fits
returns-clause-fits c =
    on_ok c.extend_nulls.result c.extend_nulls.ensures.fits (λ counted. nulls_within c.extend_nulls.new.self c.extend_nulls.ensures.after counted)

pub returns-clause-overflow : goal.returns-clause-overflow
returns-clause-overflow c overflows fits =
    let sound = c.extend_nulls.ensures.before in
    let nulls = null_rows c.args.self.now c.args.additional sound in
    nulls_over c.args.self.now _ c.args.additional sound (ap length nulls ∙ length-replicate c.args.additional Null) fits ((c.extend_nulls.ensures.overflow.0 overflows).1)
