use Rattle.arrow_growable.proofs.Common.{ap, shape_of}
use Rattle.arrow_growable.proofs.KindLemmas.{type_of_maps}
use Rattle.arrow_growable.proofs.SourceLemmas.{list_source, maps_lie}
use Rattle.arrow_growable.proofs.growable.spans.Spans.of_maps.Goals as goal

pub returns : goal.returns
returns c =
    let kind = type_of_maps _ c.data_type.ensures.kind in
    let source = list_source c.args.array.now c.len.result c.offsets.ensures.sound c.offsets.ensures.within c.validity.ensures.fits c.len.ensures.rows c.len.ensures.offsets (ap shape_of kind) c.field.ensures.items in
    record { lies = maps_lie c.offsets.result c.args.array.now c.offsets.ensures.same source kind }
