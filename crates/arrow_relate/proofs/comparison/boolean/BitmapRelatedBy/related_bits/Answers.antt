use Rattle.std.proofs.Common.{◌∙◌, ap, arith, length, map}
use Rattle.std.proofs.lemmas.List.{length-map}
use Rattle.std.proofs.lemmas.Result.{IfOk-weaker}
use Rattle.arrow_types.specs.Relation.{related}
use Rattle.arrow_types.specs.Slot.{Boolean}
use Rattle.arrow_flat.specs.RowByRow.{row_by_row}
use Rattle.arrow_relate.proofs.RowLemmas.{rows_of_pairs}
use Rattle.arrow_relate.proofs.comparison.boolean.BitmapRelatedBy.related_bits.Goals as goal

pub combined-requires : goal.combined-requires
combined-requires g c =
    omega (arith, ap length c.values.ensures, ap length c.values-2.ensures, c.requires, c.len.ensures.rows, c.len.ensures.values, c.len-2.ensures.rows, c.len-2.ensures.values, length-map c.args.lhs.now.values Boolean, length-map c.args.rhs.now.values Boolean)

pub returns-clause-ok : goal.returns-clause-ok
returns-clause-ok g c =
    let op = g.R.FixedRelation.op in
    IfOk-weaker c.combined.result _ _ (λ bits is. ap (map Boolean) is ∙ (rows_of_pairs g.R.Logic.bits (related op) g.met.R.FixedRelation.of_bits c.values.result.now c.values-2.result.now ∙ (λ i. row_by_row (related op) (map Boolean (c.values.ensures i)) (map Boolean (c.values-2.ensures i))))) c.combined.ensures.ok
