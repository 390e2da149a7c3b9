use Rattle.arrow_take.proofs.Common.{◌≡◌, ◌∙◌, arith, ap, map, replicate, rules, subst, sym, Fits, Null, null_rows, rows_by, null_is_null, nulls_fit}
use Rattle.arrow_take.proofs.IndexLemmas.{nulls_taken}
use Rattle.arrow_take.proofs.take.any.take_nulls.Goals as goal

pub returns-clause-rows : goal.returns-clause-rows
returns-clause-rows g c =
    let t = c.args.values.now.arrow_type in
    let indices = rows_by (map g.I.NativeType.slot) c.args.indices.now in
    ap null_rows c.new.ensures ∙ (ap (λ n. replicate n Null) c.len.ensures.rows ∙ nulls_taken c.args.values.now.count t (null_is_null t c.data_type.ensures.kind.1) indices)

pub returns-clause-fits : goal.returns-clause-fits
returns-clause-fits g c =
    let t = c.args.values.now.arrow_type in
    let same : c.new.result.arrow_type ≡ t = search rules in
    let count = ap (λ p. p.count) c.new.ensures in
    subst (λ u. Fits u (null_rows c.new.result)) (sym same) (nulls_fit t c.new.result.count c.data_type.ensures.kind.1 (omega (arith, count, c.len.type_inv)))
