use Rattle.arrow_flat_growable.proofs.Common.{◌∙◌, Some, map, ap, length, subst, sym, inl, length-replicate, Null, CannotHold, NamesRows, appended, null_layout, with_sources}
use Rattle.arrow_flat_growable.proofs.NullLemmas.{nulls_among, nulls_over, nulls_within}
use Rattle.arrow_flat_growable.proofs.ResultLemmas.{on_ok}
use Rattle.arrow_flat_growable.proofs.growable.null.BoundNullsGrowable.extend.Goals as goal

pub returns-clause-ok : goal.returns-clause-ok
returns-clause-ok c =
    let there = subst (λ h. NamesRows h c.args._index c.args._start c.args.len) (sym c.self.view_is) c.requires in
    let sources = Some (map (λ r. null_layout r.now) c.self.inside.arrays.items) in
    let named = nulls_among (λ r. r.now) c.self.inside.arrays.items c.args._index c.args._start c.args.len there.0 there.1 in
    rw (← c.self.view_is) (on_ok c.extend_nulls.result c.extend_nulls.ensures.ok (λ is. ap (λ g. with_sources g sources) is ∙ ap (appended (with_sources c.self.inside.growable sources)) (sym named)))

pub returns-clause-fits : goal.returns-clause-fits
returns-clause-fits c =
    on_ok c.extend_nulls.result c.extend_nulls.ensures.fits (λ counted. nulls_within c.extend_nulls.new.self c.extend_nulls.ensures.after counted)

pub returns-clause-overflow : goal.returns-clause-overflow
returns-clause-overflow c overflows =
    let there = subst (λ h. NamesRows h c.args._index c.args._start c.args.len) (sym c.self.view_is) c.requires in
    let named = nulls_among (λ r. r.now) c.self.inside.arrays.items c.args._index c.args._start c.args.len there.0 there.1 in
    subst (λ h. CannotHold h c.args._index c.args._start c.args.len) c.self.view_is (inl (λ fits. nulls_over c.self.inside.growable _ c.args.len c.extend_nulls.ensures.before (ap length named ∙ length-replicate c.args.len Null) fits ((c.extend_nulls.ensures.overflow.0 overflows).1)))
