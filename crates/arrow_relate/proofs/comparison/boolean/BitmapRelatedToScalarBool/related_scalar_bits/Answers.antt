use Rattle.std.proofs.Common.{◌∙◌, ap, false, map, true}
use Rattle.std.proofs.lemmas.Result.{IfOk-weaker}
use Rattle.arrow_types.specs.Relation.{holds, related}
use Rattle.arrow_types.specs.Slot.{Slot, Boolean}
use Rattle.arrow_relate.proofs.RowLemmas.{order_of_bits, rows_of_bits}
use Rattle.arrow_relate.proofs.comparison.boolean.BitmapRelatedToScalarBool.related_scalar_bits.Goals as goal

pub returns-clause-ok : goal.returns-clause-ok
returns-clause-ok g c =
    let by = λ (s : Slot). related g.R.FixedRelation.op s (Boolean c.args.rhs) in
    let unset = ap (λ b. Boolean b) (c.holds-unset.ensures ∙ ap (holds g.R.FixedRelation.op) (c.cmp.ensures ∙ order_of_bits false c.args.rhs)) in
    let set = ap (λ b. Boolean b) (c.holds-set.ensures ∙ ap (holds g.R.FixedRelation.op) (c.cmp-2.ensures ∙ order_of_bits true c.args.rhs)) in
    IfOk-weaker c.replaced.result _ _ (λ bits is. ap (map Boolean) is ∙ (rows_of_bits by c.holds-unset.result c.holds-set.result unset set c.values.result.now ∙ ap (λ xs. map by (map Boolean xs)) c.values.ensures)) c.replaced.ensures.ok
