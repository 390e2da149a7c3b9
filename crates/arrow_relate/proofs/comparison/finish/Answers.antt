use Rattle.std.proofs.Common.{◌≡◌, ◌∙◌, ap, length, map, subst, sym}
use Rattle.arrow_types.specs.Rows.{masked}
use Rattle.arrow_types.specs.Slot.{Boolean}
use Rattle.arrow_flat.specs.Parts.{FitsRows, boolean_rows}
use Rattle.arrow_relate.specs.Finished.{finished}
use Rattle.arrow_relate.proofs.FinishLemmas.{fits_finished, rows_finished}
use Rattle.arrow_relate.proofs.comparison.finish.Goals as goal

pub truths-requires : goal.truths-requires
truths-requires g c =
    let out = c.args.out in
    let give = g.E.Sameness.finishes in
    let is : map Boolean c.in_ok-bits.bits ≡ finished give (map Boolean out.values) c.args.lhs c.args.rhs = c.in_ok-bits.ensures.ok ∙ ap (λ values. finished give (map Boolean values) c.args.lhs c.args.rhs) c.values.ensures in
    subst (λ u. FitsRows u (length c.in_ok-bits.bits)) (sym (c.in_ok-shared.ensures.ok ∙ c.validity.ensures.same)) (fits_finished give out.validity c.args.lhs c.args.rhs out.values c.in_ok-bits.bits c.validity.ensures.fits is)

pub returns-clause-rows : goal.returns-clause-rows
returns-clause-rows g c =
    let out = c.args.out in
    let give = g.E.Sameness.finishes in
    let is : map Boolean c.in_ok-bits.bits ≡ finished give (map Boolean out.values) c.args.lhs c.args.rhs = c.in_ok-bits.ensures.ok ∙ ap (λ values. finished give (map Boolean values) c.args.lhs c.args.rhs) c.values.ensures in
    let validity = c.in_ok-shared.ensures.ok ∙ c.validity.ensures.same in
    ap boolean_rows c.truths.ensures ∙ (ap (λ u. masked u (map Boolean c.in_ok-bits.bits)) validity ∙ rows_finished give g.met.E.Sameness.finishes_null out.validity c.args.lhs c.args.rhs out.values c.in_ok-bits.bits c.validity.ensures.fits is)
