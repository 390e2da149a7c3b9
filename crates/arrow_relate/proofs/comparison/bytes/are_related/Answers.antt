use Rattle.arrow_types.specs.Relation.{related}
use Rattle.arrow_flat.specs.ByteRows.{row_bytes}
use Rattle.arrow_relate.proofs.ByteLemmas.{given_at}
use Rattle.arrow_relate.proofs.comparison.bytes.are_related.Goals as goal

pub returns : goal.returns
returns g c =
    given_at g.K.ByteKind.slot (related g.R.FixedRelation.op) (row_bytes c.args.left.now) (row_bytes c.args.right.now) c.args.row c.row.result c.row-2.result c.of_rows.result c.row.ensures c.row-2.ensures c.of_rows.ensures
