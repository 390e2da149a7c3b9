use Rattle.std.proofs.Common.{◌∙◌, None}
use Rattle.std.proofs.lemmas.Result.{IfOk-weaker}
use Rattle.arrow_flat.specs.Parts.{boolean_rows}
use Rattle.arrow_relate.specs.Finished.{finished}
use Rattle.arrow_relate.proofs.FinishLemmas.{finished_scalar}
use Rattle.arrow_relate.proofs.stored.same_scalar_by.Goals as goal

pub returns : goal.returns
returns g c = record {
  array_type = c.finish.ensures.array_type;
  rows =
      let validity = c.in_ok-validity.ensures.ok ∙ c.validity.ensures.same in
      let same = finished_scalar g.E.FixedRelation.op g.E.Sameness.finishes g.E.Sameness.tells c.shows_rows.ensures c.args.lhs.now.validity (g.V.Values.slots c.args.lhs.now.values) (g.V.RelatedToScalar.scalar_slot c.args.rhs) c.in_ok-bits.bits c.validity.ensures.fits c.in_ok-bits.ensures.ok in
      IfOk-weaker c.finish.result _ _ (λ array rows. rows ∙ ((λ i. finished g.E.Sameness.finishes (boolean_rows (c.truths.ensures i)) (validity i) None) ∙ same)) c.finish.ensures.rows;
  err = c.finish.ensures.err;
}
