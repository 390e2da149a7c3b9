use Rattle.arrow_logic.proofs.Common.{◌≡◌, ◌∙◌, ap, length, map, sym, masked, Boolean, boolean_rows, bits_by}
use Rattle.arrow_logic.proofs.ConnectiveLemmas.{as_many_values, fits_known, kleene_connected_rows}
use Rattle.arrow_logic.proofs.boolean_kleene.connect.Goals as goal

pub of_bits-requires : goal.of_bits-requires
of_bits-requires c =
    let l = c.args.lhs.now in
    let r = c.args.rhs.now in
    ap length c.values.ensures ∙ (as_many_values l.validity r.validity l.values r.values c.validity.ensures.fits c.validity-2.ensures.fits c.requires ∙ sym (ap length c.values-2.ensures))

pub truths-requires : goal.truths-requires
truths-requires c =
    let op = c.args.connective in
    let l = c.args.lhs.now in
    let r = c.args.rhs.now in
    let same = as_many_values l.validity r.validity l.values r.values c.validity.ensures.fits c.validity-2.ensures.fits c.requires in
    let values : c.in_ok-values.values ≡ bits_by op l.values r.values = c.in_ok-values.ensures.ok ∙ (λ i. bits_by op (c.values.ensures i) (c.values-2.ensures i)) in
    rw (c.in_ok-validity.ensures.ok, values) (fits_known op l.validity r.validity l.values r.values c.validity.ensures.fits c.validity-2.ensures.fits same)

pub returns-clause-rows : goal.returns-clause-rows
returns-clause-rows c =
    let op = c.args.connective in
    let l = c.args.lhs.now in
    let r = c.args.rhs.now in
    let same = as_many_values l.validity r.validity l.values r.values c.validity.ensures.fits c.validity-2.ensures.fits c.requires in
    let values : c.in_ok-values.values ≡ bits_by op l.values r.values = c.in_ok-values.ensures.ok ∙ (λ i. bits_by op (c.values.ensures i) (c.values-2.ensures i)) in
    ap boolean_rows c.truths.ensures ∙ ((λ i. masked (c.in_ok-validity.ensures.ok i) (map Boolean (values i))) ∙ kleene_connected_rows op l.validity r.validity l.values r.values c.validity.ensures.fits c.validity-2.ensures.fits same)
