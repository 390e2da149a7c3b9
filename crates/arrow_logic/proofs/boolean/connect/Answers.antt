use Rattle.arrow_logic.proofs.Common.{◌≡◌, ◌∙◌, ap, map, masked, Boolean, boolean_rows, bits_by, combined}
use Rattle.arrow_logic.proofs.ConnectiveLemmas.{as_many_values, connected_rows, fits_both}
use Rattle.arrow_logic.proofs.boolean.connect.Goals as goal

pub truths-requires : goal.truths-requires
truths-requires c =
    let l = c.args.lhs.now in
    let r = c.args.rhs.now in
    let validity : c.in_ok-validity.validity ≡ combined l.validity r.validity = c.in_ok-validity.ensures.ok ∙ (λ i. combined (c.validity.ensures.same i) (c.validity-2.ensures.same i)) in
    let values : c.in_ok-values.values ≡ bits_by c.args.connective l.values r.values = c.in_ok-values.ensures.ok ∙ (λ i. bits_by c.args.connective (c.values.ensures i) (c.values-2.ensures i)) in
    let same = as_many_values l.validity r.validity l.values r.values c.validity.ensures.fits c.validity-2.ensures.fits c.requires in
    rw (validity, values) (fits_both c.args.connective l.validity r.validity l.values r.values c.validity.ensures.fits c.validity-2.ensures.fits same)

pub returns-clause-rows : goal.returns-clause-rows
returns-clause-rows c =
    let l = c.args.lhs.now in
    let r = c.args.rhs.now in
    let validity : c.in_ok-validity.validity ≡ combined l.validity r.validity = c.in_ok-validity.ensures.ok ∙ (λ i. combined (c.validity.ensures.same i) (c.validity-2.ensures.same i)) in
    let values : c.in_ok-values.values ≡ bits_by c.args.connective l.values r.values = c.in_ok-values.ensures.ok ∙ (λ i. bits_by c.args.connective (c.values.ensures i) (c.values-2.ensures i)) in
    let same = as_many_values l.validity r.validity l.values r.values c.validity.ensures.fits c.validity-2.ensures.fits c.requires in
    ap boolean_rows c.truths.ensures ∙ ((λ i. masked (validity i) (map Boolean (values i))) ∙ connected_rows c.args.connective l.validity r.validity l.values r.values c.validity.ensures.fits c.validity-2.ensures.fits same)
