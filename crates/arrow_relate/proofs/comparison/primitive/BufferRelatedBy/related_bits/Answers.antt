use Rattle.std.proofs.Common.{rules, ◌≡◌, ◌∙◌, ap, arith, length, map, subst}
use Rattle.std.specs.Prelude.{IfOk}
use Rattle.std.proofs.lemmas.List.{length-map}
use Rattle.arrow_types.specs.Relation.{related}
use Rattle.arrow_types.specs.Slot.{Boolean}
use Rattle.arrow_flat.specs.RowByRow.{row_by_row}
use Rattle.arrow_relate.proofs.RowLemmas.{read_related, related_rows}
use Rattle.arrow_relate.proofs.comparison.primitive.BufferRelatedBy.related_bits.Goals as goal

pub returns-clause-ok : goal.returns-clause-ok
returns-clause-ok g c =
    let op = g.R.FixedRelation.op in
    let slot = g.T.NativeType.slot in
    let xs = c.as_slice-left.result.now in
    let ys = c.as_slice-right.result.now in
    let left : xs ≡ c.args.lhs.now.values = c.as_slice-left.ensures ∙ c.values.ensures in
    let right : ys ≡ c.args.rhs.now.values = c.as_slice-right.ensures ∙ c.values-2.ensures in
    let same : length xs ≡ length ys = omega (arith, ap length left, ap length right, c.requires, c.len.ensures.rows, c.len.ensures.values, c.len-2.ensures.rows, c.len-2.ensures.values, length-map c.args.lhs.now.values slot, length-map c.args.rhs.now.values slot) in
    let stored = related_rows c.collect_bool.result _ op slot xs ys same (λ row bit within answered. search (rules, read_related)) c.collect_bool.ensures.ok in
    subst (λ rows. IfOk c.collect_bool.result (λ bits. map Boolean bits ≡ rows)) (λ i. row_by_row (related op) (map slot (left i)) (map slot (right i))) stored
