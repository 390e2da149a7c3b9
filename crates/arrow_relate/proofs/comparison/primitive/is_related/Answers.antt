use Rattle.arrow_types.specs.Relation.{related}
use Rattle.arrow_types.specs.Slot.{Slot}
use Rattle.arrow_relate.proofs.RowLemmas.{read_mapped}
use Rattle.arrow_relate.proofs.comparison.primitive.is_related.Goals as goal

pub returns : goal.returns
returns g c =
    let by = λ (s : Slot). related g.R.FixedRelation.op s (g.T.NativeType.slot c.args.other) in
    read_mapped by g.T.NativeType.slot c.args.values.now c.args.row c.index-values-row.result c.of.result c.requires c.index-values-row.is c.of.ensures
