use Rattle.arrow_growable.proofs.KindLemmas.{type_of_structs}
use Rattle.arrow_growable.proofs.SourceLemmas.{structs_lie}
use Rattle.arrow_growable.proofs.growable.spans.Spans.of_structs.Goals as goal

pub returns : goal.returns
returns c =
    record { lies = structs_lie c.args.array.now c.len.result (type_of_structs _ c.data_type.ensures.kind) c.values.ensures.fields c.values.ensures.some c.values.ensures.lengths c.validity.ensures.fits c.len.ensures.rows c.len.ensures.columns }
