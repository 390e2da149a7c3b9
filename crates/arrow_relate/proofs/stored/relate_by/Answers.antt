use Rattle.std.proofs.Common.{◌≡◌, ◌∙◌, ap, length, map, subst, sym}
use Rattle.arrow_types.specs.Rows.{masked}
use Rattle.arrow_types.specs.Slot.{Boolean}
use Rattle.arrow_flat.specs.Parts.{FitsRows, boolean_rows}
use Rattle.arrow_flat.specs.Validities.{combined}
use Rattle.arrow_relate.proofs.NullLemmas.{fits_related, related_masked}
use Rattle.arrow_relate.proofs.stored.relate_by.Goals as goal

pub truths-requires : goal.truths-requires
truths-requires g c =
    let l = c.args.lhs.now in
    let r = c.args.rhs.now in
    let validity : c.in_ok-either.either ≡ combined l.validity r.validity = c.in_ok-either.ensures.ok ∙ (λ i. combined (c.validity.ensures.same i) (c.validity-2.ensures.same i)) in
    subst (λ v. FitsRows v (length c.in_ok-bits.bits)) (sym validity) (fits_related g.R.FixedRelation.op l.validity r.validity (g.V.Values.slots l.values) (g.V.Values.slots r.values) c.in_ok-bits.bits c.validity.ensures.fits c.validity-2.ensures.fits c.requires c.in_ok-bits.ensures.ok)

pub returns : goal.returns
returns g c = record {
  array_type = ap (λ array. array.arrow_type) c.truths.ensures;
  rows =
      let l = c.args.lhs.now in
      let r = c.args.rhs.now in
      let validity : c.in_ok-either.either ≡ combined l.validity r.validity = c.in_ok-either.ensures.ok ∙ (λ i. combined (c.validity.ensures.same i) (c.validity-2.ensures.same i)) in
      ap boolean_rows c.truths.ensures ∙ ((λ i. masked (validity i) (map Boolean c.in_ok-bits.bits)) ∙ related_masked g.R.FixedRelation.op l.validity r.validity (g.V.Values.slots l.values) (g.V.Values.slots r.values) c.in_ok-bits.bits c.in_ok-bits.ensures.ok);
  err = tt;
}
