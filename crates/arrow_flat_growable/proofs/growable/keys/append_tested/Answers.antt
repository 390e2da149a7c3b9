use Rattle.arrow_flat_growable.proofs.Common.{◌++◌, ◌∙◌, map, ap, sliced, rows_by, with_parts, grown_key}
use Rattle.arrow_flat_growable.proofs.ResultLemmas.{on_ok}
use Rattle.arrow_flat_growable.proofs.StoreLemmas.{copied_view}
use Rattle.arrow_flat_growable.proofs.growable.keys.append_tested.Goals as goal

pub returns-clause-ok : goal.returns-clause-ok
returns-clause-ok g c =
    let slot = g.K.NativeType.slot in
    let copied = c.in_ok-copy_all.ensures.ok in
    let own = copied.0 ∙ (ap (λ sources. with_parts sources c.keys.inside.values.items c.keys.inside.parts.items) c.as_slice.ensures.value ∙ ap (λ v. v.1) c.keys.view_is) in
    on_ok c.append_keys.result c.append_keys.ensures.ok (λ is. ap (map slot) (copied_view c.keys.inside.sources.items c.append_keys.new.keys.items _ copied.1) ∙ (is ∙ ap (λ xs. map slot xs ++ map (grown_key c.args.by) (sliced (rows_by (map slot) c.args.others.now) c.args.start c.args.len)) own))
