use Rattle.std.proofs.Common.{◌∙◌, length, subst, sym}
use Rattle.std.proofs.lemmas.Result.{IfOk-weaker}
use Rattle.arrow_flat.specs.Parts.{FitsRows, boolean_rows}
use Rattle.arrow_relate.specs.Finished.{finished}
use Rattle.arrow_relate.proofs.FinishLemmas.{finished_rows, stored_long}
use Rattle.arrow_relate.proofs.NullLemmas.{long_related}
use Rattle.arrow_relate.proofs.stored.same_by.Goals as goal

pub finish-requires-clause-left : goal.finish-requires-clause-left
finish-requires-clause-left g c =
    let l = c.args.lhs.now in
    let r = c.args.rhs.now in
    let long = long_related g.E.FixedRelation.op l.validity r.validity (g.V.Values.slots l.values) (g.V.Values.slots r.values) c.in_ok-bits.bits c.validity.ensures.fits c.validity-2.ensures.fits c.requires c.in_ok-bits.ensures.ok in
    let validity = c.in_ok-left.ensures.ok ∙ c.validity.ensures.same in
    subst (FitsRows c.in_ok-left.left) (sym (stored_long _ c.in_ok-bits.bits c.truths.result _ c.truths.ensures long.1)) (subst (λ v. FitsRows v (length (g.V.Values.slots l.values))) (sym validity) c.validity.ensures.fits)

pub finish-requires-clause-right : goal.finish-requires-clause-right
finish-requires-clause-right g c =
    let l = c.args.lhs.now in
    let r = c.args.rhs.now in
    let long = long_related g.E.FixedRelation.op l.validity r.validity (g.V.Values.slots l.values) (g.V.Values.slots r.values) c.in_ok-bits.bits c.validity.ensures.fits c.validity-2.ensures.fits c.requires c.in_ok-bits.ensures.ok in
    let validity = c.in_ok-right.ensures.ok ∙ c.validity-2.ensures.same in
    subst (FitsRows c.in_ok-right.right) (sym (stored_long _ c.in_ok-bits.bits c.truths.result _ c.truths.ensures (long.1 ∙ long.0))) (subst (λ v. FitsRows v (length (g.V.Values.slots r.values))) (sym validity) c.validity-2.ensures.fits)

pub returns : goal.returns
returns g c = record {
  array_type = c.finish.ensures.array_type;
  rows =
      let l = c.args.lhs.now in
      let r = c.args.rhs.now in
      let long = long_related g.E.FixedRelation.op l.validity r.validity (g.V.Values.slots l.values) (g.V.Values.slots r.values) c.in_ok-bits.bits c.validity.ensures.fits c.validity-2.ensures.fits c.requires c.in_ok-bits.ensures.ok in
      let left = c.in_ok-left.ensures.ok ∙ c.validity.ensures.same in
      let right = c.in_ok-right.ensures.ok ∙ c.validity-2.ensures.same in
      let same = finished_rows g.E.FixedRelation.op g.E.Sameness.finishes g.E.Sameness.tells c.shows_rows.ensures l.validity r.validity (g.V.Values.slots l.values) (g.V.Values.slots r.values) c.in_ok-bits.bits c.validity.ensures.fits c.validity-2.ensures.fits long.0 c.in_ok-bits.ensures.ok in
      IfOk-weaker c.finish.result _ _ (λ array rows. rows ∙ ((λ i. finished g.E.Sameness.finishes (boolean_rows (c.truths.ensures i)) (left i) (right i)) ∙ same)) c.finish.ensures.rows;
  err = c.finish.ensures.err;
}
