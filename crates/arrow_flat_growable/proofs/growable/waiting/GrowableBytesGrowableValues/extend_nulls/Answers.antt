use Rattle.arrow_flat_growable.proofs.Common.{◌∙◌, ◌++◌, [], map, replicate, refl, ap, map-append, map_constant, slots_fit}
use Rattle.arrow_flat_growable.proofs.ResultLemmas.{on_both, on_ok}
use Rattle.arrow_flat_growable.proofs.WaitingLemmas.{empty_counted}
use Rattle.arrow_flat_growable.proofs.growable.waiting.GrowableBytesGrowableValues.extend_nulls.Goals as goal

pub returns-clause-ok : goal.returns-clause-ok
returns-clause-ok g c =
    let slot = g.K.ByteKind.slot in
    let old = c.args.self.now.1 in
    on_ok c.append_empty.result c.append_empty.ensures.ok (λ is. ap (map slot) is ∙ (map-append slot old (replicate c.args.additional []) ∙ ap (λ ys. map slot old ++ ys) (map_constant slot c.args.additional [])))

pub returns-clause-fits : goal.returns-clause-fits
returns-clause-fits g c =
    let slot = g.K.ByteKind.slot in
    let rows = c.append_empty.new.self.1 in
    λ t kind.
    on_both c.append_empty.result c.append_empty.ensures.ok c.append_empty.ensures.few (λ is few. slots_fit slot g.met.K.GrowableKind.counts g.O.Offset.IS_LARGE t _ (g.met.K.GrowableKind.lies_as_bytes g.O.Offset.IS_LARGE) kind rows _ g.O.Index.greatest refl (empty_counted slot c.args.self.now.1 rows c.args.additional is c.requires) few g.met.O.Offset.greatest_is)
