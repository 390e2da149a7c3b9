use Rattle.arrow_select.proofs.Common.{◌≡◌, ◌∙◌, arith, ap, length, map, rules, subst, sym, option_map, length-map, Fits, length-select, FitsRows, rows_by, fits_only_counted, is_only_counted, at_set, mask_in}
use Rattle.arrow_select.proofs.FilterLemmas.{select_all, set_fits, set_rows}
use Rattle.arrow_select.proofs.filter.primitive.filter_values.Goals as goal

pub returns-then-count-len-clause-rows : goal.returns-then-count-len-clause-rows
returns-then-count-len-clause-rows g c =
    let slot = g.T.NativeType.slot in
    let rows = rows_by (map slot) c.args.array.now in
    ap (rows_by (map slot)) c.in_ok-clone.ensures.cases ∙ select_all (mask_in c.args.selection) rows c.requires.lengths (sym c.requires.count ∙ (c.if-count-len.true ∙ c.len.ensures.rows))

pub returns-then-count-len-clause-fits : goal.returns-then-count-len-clause-fits
returns-then-count-len-clause-fits g c =
    let slot = g.T.NativeType.slot in
    let p = c.args.array.now in
    let fit = fits_only_counted p.arrow_type (rows_by (map slot) p) (ap is_only_counted c.data_type-data_type.ensures.kind) (omega (arith, c.len.ensures.rows, c.len.type_inv)) in
    subst (λ kept. Fits kept.arrow_type (rows_by (map slot) kept)) (sym c.in_ok-clone.ensures.cases) fit

pub new-requires-clause-length : goal.new-requires-clause-length
new-requires-clause-length g c =
    let slot = g.T.NativeType.slot in
    let p = c.args.array.now in
    let mask = mask_in c.args.selection in
    let is = c.in_ok-kept.ensures.validity ∙ ap (option_map (at_set mask)) c.validity.ensures.same in
    let are = c.in_ok-kept-2.ensures.ok ∙ (c.in_ok-kept.ensures.values ∙ ap (at_set mask) (c.as_slice-values.ensures ∙ c.values.ensures)) in
    let long : length mask ≡ length p.values = omega (arith, c.requires.lengths, c.len.ensures.rows, c.len.ensures.values, length-map p.values slot) in
    let stored : FitsRows p.validity (length p.values) = subst (FitsRows p.validity) (length-map p.values slot) c.validity.ensures.fits in
    set_fits mask p.validity c.in_ok-kept.validity p.values c.in_ok-kept-2.kept is are long stored

pub returns-clause-rows : goal.returns-clause-rows
returns-clause-rows g c =
    let slot = g.T.NativeType.slot in
    let p = c.args.array.now in
    let mask = mask_in c.args.selection in
    let is = c.in_ok-kept.ensures.validity ∙ ap (option_map (at_set mask)) c.validity.ensures.same in
    let are = c.in_ok-kept-2.ensures.ok ∙ (c.in_ok-kept.ensures.values ∙ ap (at_set mask) (c.as_slice-values.ensures ∙ c.values.ensures)) in
    ap (rows_by (map slot)) c.new.ensures ∙ set_rows slot mask p.validity c.in_ok-kept.validity p.values c.in_ok-kept-2.kept is are

pub returns-clause-fits : goal.returns-clause-fits
returns-clause-fits g c =
    let slot = g.T.NativeType.slot in
    let p = c.args.array.now in
    let kept = c.new.result in
    let same : kept.arrow_type ≡ p.arrow_type = search rules in
    let many = ap length (returns-clause-rows g c) ∙ (length-select (mask_in c.args.selection) (rows_by (map slot) p) c.requires.lengths ∙ sym c.requires.count) in
    subst (λ t. Fits t (rows_by (map slot) kept)) (sym same) (fits_only_counted p.arrow_type (rows_by (map slot) kept) (ap is_only_counted c.data_type-data_type.ensures.kind) (omega (arith, many, c.ranges.count.fits)))
