use Rattle.arrow_types.specs.Relation.{related}
use Rattle.arrow_flat.specs.ByteRows.{row_bytes}
use Rattle.arrow_relate.proofs.ByteLemmas.{given_of}
use Rattle.arrow_relate.proofs.comparison.bytes.is_related.Goals as goal

pub returns : goal.returns
returns g c =
    given_of g.K.ByteKind.slot (λ s. related g.R.FixedRelation.op s (g.K.ByteKind.slot c.args.scalar.now)) (row_bytes c.args.rows.now) c.args.row c.row.result c.of_rows.result c.row.ensures c.of_rows.ensures
