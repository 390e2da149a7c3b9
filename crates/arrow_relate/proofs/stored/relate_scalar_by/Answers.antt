use Rattle.std.proofs.Common.{◌∙◌, ap, map}
use Rattle.arrow_types.specs.Rows.{masked}
use Rattle.arrow_types.specs.Slot.{Boolean}
use Rattle.arrow_flat.specs.Parts.{boolean_rows}
use Rattle.arrow_relate.proofs.NullLemmas.{related_scalar}
use Rattle.arrow_relate.proofs.stored.relate_scalar_by.Goals as goal

pub returns : goal.returns
returns g c = record {
  array_type = ap (λ array. array.arrow_type) c.truths.ensures;
  rows =
      let bits = c.in_ok-bits.bits in
      let l = c.args.lhs.now in
      let validity = c.in_ok-validity.ensures.ok ∙ c.validity.ensures.same in
      ap boolean_rows c.truths.ensures ∙ (ap (λ v. masked v (map Boolean bits)) validity ∙ related_scalar g.R.FixedRelation.op l.validity (g.V.Values.slots l.values) (g.V.RelatedToScalar.scalar_slot c.args.rhs) bits c.in_ok-bits.ensures.ok);
  err = tt;
}
