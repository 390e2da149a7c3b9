use Rattle.arrow_logic.proofs.Common.{◌∙◌, ap, map, IfOk-weaker, mask, rows_by, valid_but}
use Rattle.arrow_logic.proofs.NullifLemmas.{nulled_by_value, nulls_equal}
use Rattle.arrow_logic.proofs.nullif.primitive_nullif_scalar.Goals as goal

pub returns-clause-rows : goal.returns-clause-rows
returns-clause-rows g c =
    let left = c.args.lhs.now in
    let slot = g.T.NativeType.slot in
    let same = g.T.PartialEq.eq in
    let gives = nulls_equal slot same g.met.T.NativeType.slots g.met.T.NativeType.values in
    let equal = c.in_ok-equal.ensures.ok ∙ ap (map (λ x. same x c.args.rhs)) (c.as_slice.ensures ∙ c.values.ensures) in
    IfOk-weaker c.null_where.result _ _ (λ made is. ap (rows_by (map slot)) is ∙ (ap (λ bits. mask (valid_but left.validity bits) (map slot left.values)) equal ∙ nulled_by_value slot same gives left.validity left.values c.args.rhs)) c.null_where.ensures.ok
