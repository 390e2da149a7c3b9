use Rattle.arrow_flat_growable.proofs.Common.{◌∙◌, Some, map, ap, length, subst, sym, length-replicate, Null, FitsWith, appended, null_rows_of, null_layout, with_sources}
use Rattle.arrow_flat_growable.proofs.NullLemmas.{null_rows, nulls_over, nulls_within}
use Rattle.arrow_flat_growable.proofs.ResultLemmas.{on_ok}
use Rattle.arrow_flat_growable.proofs.growable.null.BoundNullsGrowable.extend_validity.Goals as goal

pub returns-clause-ok : goal.returns-clause-ok
returns-clause-ok c =
    let sources = Some (map (λ r. null_layout r.now) c.self.inside.arrays.items) in
    let nulls = null_rows c.self.inside.growable c.args.additional c.extend_nulls.ensures.before in
    rw (← c.self.view_is) (on_ok c.extend_nulls.result c.extend_nulls.ensures.ok (λ is. ap (λ g. with_sources g sources) is ∙ ap (appended (with_sources c.self.inside.growable sources)) (sym nulls)))

pub returns-clause-fits : goal.returns-clause-fits
returns-clause-fits c =
    on_ok c.extend_nulls.result c.extend_nulls.ensures.fits (λ counted. nulls_within c.extend_nulls.new.self c.extend_nulls.ensures.after counted)

pub returns-clause-overflow : goal.returns-clause-overflow
returns-clause-overflow c overflows fits =
    let fit = subst (λ h. FitsWith h (null_rows_of h c.args.additional)) (sym c.self.view_is) fits in
    let nulls = null_rows c.self.inside.growable c.args.additional c.extend_nulls.ensures.before in
    nulls_over c.self.inside.growable _ c.args.additional c.extend_nulls.ensures.before (ap length nulls ∙ length-replicate c.args.additional Null) fit ((c.extend_nulls.ensures.overflow.0 overflows).1)
