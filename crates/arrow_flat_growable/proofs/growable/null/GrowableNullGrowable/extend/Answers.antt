use Rattle.arrow_flat_growable.proofs.Common.{◌∙◌, ap, length, subst, sym, length-replicate, Null, FitsWith, RefusedBy, named_rows}
use Rattle.arrow_flat_growable.proofs.NullLemmas.{named_nulls, nulls_over, nulls_within}
use Rattle.arrow_flat_growable.proofs.ResultLemmas.{on_ok}
use Rattle.arrow_flat_growable.proofs.growable.null.GrowableNullGrowable.extend.Goals as goal

pub returns-clause-fits : goal.returns-clause-fits
returns-clause-fits c =
    on_ok c.extend_nulls.result c.extend_nulls.ensures.fits (λ counted. nulls_within c.extend_nulls.new.self c.extend_nulls.ensures.after counted)

pub returns-clause-overflow : goal.returns-clause-overflow
returns-clause-overflow c overflows =
    let sound = c.extend_nulls.ensures.before in
    let named = named_nulls c.args.self.now c.args.index c.args.start c.args.len sound in
    subst (λ s. RefusedBy s (FitsWith c.args.self.now (named_rows c.args.self.now c.args.index c.args.start c.args.len)) c.args.index c.args.start c.args.len) (sym sound.unbound) (λ fits. nulls_over c.args.self.now _ c.args.len sound (ap length named ∙ length-replicate c.args.len Null) fits ((c.extend_nulls.ensures.overflow.0 overflows).1))
