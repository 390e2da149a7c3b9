use Rattle.arrow_select.proofs.Common.{◌≡◌, ◌∙◌, arith, ap, length, rules, subst, sym, option_map, length-map, Fits, Boolean, length-select, FitsRows, boolean_rows, fits_only_counted, is_only_counted, at_set, mask_in}
use Rattle.arrow_select.proofs.FilterLemmas.{select_all, set_fits, set_rows}
use Rattle.arrow_select.proofs.filter.boolean.filter_boolean.Goals as goal

pub returns-then-count-len-clause-rows : goal.returns-then-count-len-clause-rows
returns-then-count-len-clause-rows c =
    let rows = boolean_rows c.args.array.now in
    ap boolean_rows c.in_ok-clone.ensures.cases ∙ select_all (mask_in c.args.selection) rows c.requires.lengths (sym c.requires.count ∙ (c.if-count-len.true ∙ c.len.ensures.rows))

pub returns-then-count-len-clause-fits : goal.returns-then-count-len-clause-fits
returns-then-count-len-clause-fits c =
    let p = c.args.array.now in
    let fit = fits_only_counted p.arrow_type (boolean_rows p) (ap is_only_counted c.data_type-data_type.ensures.kind) (omega (arith, c.len.ensures.rows, c.len.type_inv)) in
    subst (λ kept. Fits kept.arrow_type (boolean_rows kept)) (sym c.in_ok-clone.ensures.cases) fit

pub new-requires-clause-length : goal.new-requires-clause-length
new-requires-clause-length c =
    let p = c.args.array.now in
    let mask = mask_in c.args.selection in
    let is = c.in_ok-validity.ensures.ok ∙ ap (option_map (at_set mask)) c.validity.ensures.same in
    let are = c.in_ok-kept.ensures.ok ∙ ap (at_set mask) c.values.ensures in
    let long : length mask ≡ length p.values = omega (arith, c.requires.lengths, c.len.ensures.rows, c.len.ensures.values, length-map p.values Boolean) in
    let stored : FitsRows p.validity (length p.values) = subst (FitsRows p.validity) (length-map p.values Boolean) c.validity.ensures.fits in
    set_fits mask p.validity c.in_ok-validity.validity p.values c.in_ok-kept.kept is are long stored

pub returns-clause-rows : goal.returns-clause-rows
returns-clause-rows c =
    let p = c.args.array.now in
    let mask = mask_in c.args.selection in
    let is = c.in_ok-validity.ensures.ok ∙ ap (option_map (at_set mask)) c.validity.ensures.same in
    let are = c.in_ok-kept.ensures.ok ∙ ap (at_set mask) c.values.ensures in
    ap boolean_rows c.new.ensures ∙ set_rows Boolean mask p.validity c.in_ok-validity.validity p.values c.in_ok-kept.kept is are

pub returns-clause-fits : goal.returns-clause-fits
returns-clause-fits c =
    let p = c.args.array.now in
    let kept = c.new.result in
    let same : kept.arrow_type ≡ p.arrow_type = search rules in
    let many = ap length (returns-clause-rows c) ∙ (length-select (mask_in c.args.selection) (boolean_rows p) c.requires.lengths ∙ sym c.requires.count) in
    subst (λ t. Fits t (boolean_rows kept)) (sym same) (fits_only_counted p.arrow_type (boolean_rows kept) (ap is_only_counted c.data_type-data_type.ensures.kind) (omega (arith, many, c.ranges.count.fits)))
