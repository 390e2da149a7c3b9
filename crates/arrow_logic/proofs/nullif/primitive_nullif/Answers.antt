use Rattle.arrow_logic.proofs.Common.{◌∙◌, ap, map, IfOk-weaker, mask, rows_by, valid_but, within_valid, row_by_row}
use Rattle.arrow_logic.proofs.NullifLemmas.{nulled_rows, nulls_equal}
use Rattle.arrow_logic.proofs.nullif.primitive_nullif.Goals as goal

pub returns-clause-rows : goal.returns-clause-rows
returns-clause-rows g c =
    let left = c.args.lhs.now in
    let right = c.args.rhs.now in
    let slot = g.T.NativeType.slot in
    let same = g.T.PartialEq.eq in
    let gives = nulls_equal slot same g.met.T.NativeType.slots g.met.T.NativeType.values in
    let equal = c.in_ok-equal.ensures.ok ∙ ap (λ xs. within_valid right.validity (row_by_row same xs right.values)) (c.as_slice.ensures ∙ c.values.ensures) in
    IfOk-weaker c.null_where.result _ _ (λ made is. ap (rows_by (map slot)) is ∙ (ap (λ bits. mask (valid_but left.validity bits) (map slot left.values)) equal ∙ nulled_rows slot same gives left.validity right.validity left.values right.values)) c.null_where.ensures.ok
