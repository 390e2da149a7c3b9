use Rattle.arrow_take.proofs.Common.{◌≡◌, ◌∙◌, arith, ap, false, length, map, rules, sym, subst, slice_get-get_or, Fits, Boolean, boolean_rows, rows_by, is_counted, null_of_counted, fits_only_counted, is_only_counted, MarksTaken, named_bit}
use Rattle.arrow_take.proofs.IndexLemmas.{length-gather, values_taken}
use Rattle.arrow_take.proofs.take.boolean.take.Goals as goal

pub returns-clause-rows : goal.returns-clause-rows
returns-clause-rows g c =
    let bits = c.args.values.now.values in
    let indices = rows_by (map g.I.NativeType.slot) c.args.indices.now in
    let stored : c.in_ok-taken.taken ≡ map (named_bit bits) indices = c.in_ok-taken.ensures.ok ∙ ap (λ bs. map (named_bit bs) indices) c.values.ensures in
    let marks = subst (λ v. MarksTaken v indices c.in_ok-validity.validity) c.validity.ensures.same c.in_ok-validity.ensures.ok in
    ap boolean_rows c.new.ensures ∙ values_taken Boolean (named_bit bits) bits c.in_ok-taken.taken c.args.values.now.arrow_type c.args.values.now.validity c.in_ok-validity.validity indices (λ n within. slice_get-get_or bits n false within) (null_of_counted c.args.values.now.arrow_type (ap is_counted c.data_type.ensures.kind)) c.validity.ensures.fits c.requires.inside marks stored

pub returns-clause-fits : goal.returns-clause-fits
returns-clause-fits g c =
    let same : c.new.result.arrow_type ≡ c.args.values.now.arrow_type = search rules in
    let count = ap length (returns-clause-rows g c) ∙ length-gather (boolean_rows c.args.values.now) (rows_by (map g.I.NativeType.slot) c.args.indices.now) c.args.values.now.arrow_type in
    subst (λ t. Fits t (boolean_rows c.new.result)) (sym same) (fits_only_counted c.args.values.now.arrow_type (boolean_rows c.new.result) (ap is_only_counted c.data_type.ensures.kind) (omega (arith, count, c.len.ensures.rows)))
