use Rattle.arrow_take.proofs.Common.{◌≡◌, ◌∙◌, arith, ap, length, map, rules, sym, subst, slice_get-get_or, Fits, rows_by, is_counted, null_of_counted, fits_only_counted, is_only_counted, MarksTaken, picked}
use Rattle.arrow_take.proofs.IndexLemmas.{length-gather, values_taken}
use Rattle.arrow_take.proofs.take.primitive.take.Goals as goal

pub returns-clause-rows : goal.returns-clause-rows
returns-clause-rows g c =
    let values = c.args.values.now.values in
    let indices = rows_by (map g.I.NativeType.slot) c.args.indices.now in
    let lent = c.as_slice.ensures ∙ c.values.ensures in
    let stored : c.in_ok-taken-2.taken ≡ map (picked values g.T.NativeType.zero) indices = c.in_ok-taken-2.ensures.ok ∙ (c.in_ok-taken.ensures.ok ∙ ap (λ vs. map (picked vs g.T.NativeType.zero) indices) lent) in
    let marks = subst (λ v. MarksTaken v indices c.in_ok-validity.validity) c.validity.ensures.same c.in_ok-validity.ensures.ok in
    ap (rows_by (map g.T.NativeType.slot)) c.new.ensures ∙ values_taken g.T.NativeType.slot (picked values g.T.NativeType.zero) values c.in_ok-taken-2.taken c.args.values.now.arrow_type c.args.values.now.validity c.in_ok-validity.validity indices (λ n within. slice_get-get_or values n g.T.NativeType.zero within) (null_of_counted c.args.values.now.arrow_type (ap is_counted c.data_type.ensures.kind)) c.validity.ensures.fits c.requires.inside marks stored

pub returns-clause-fits : goal.returns-clause-fits
returns-clause-fits g c =
    let same : c.new.result.arrow_type ≡ c.args.values.now.arrow_type = search rules in
    let count = ap length (returns-clause-rows g c) ∙ length-gather (rows_by (map g.T.NativeType.slot) c.args.values.now) (rows_by (map g.I.NativeType.slot) c.args.indices.now) c.args.values.now.arrow_type in
    subst (λ t. Fits t (rows_by (map g.T.NativeType.slot) c.new.result)) (sym same) (fits_only_counted c.args.values.now.arrow_type (rows_by (map g.T.NativeType.slot) c.new.result) (ap is_only_counted c.data_type.ensures.kind) (omega (arith, count, c.len.ensures.rows)))
