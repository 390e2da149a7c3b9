use Rattle.arrow_select.proofs.Common.{◌≡◌, ◌∙◌, arith, ap, length, map, rules, subst, sym, Fits, physical_type_of, select, length-select, layout_of, key_rows, AreKeys, keyed_rows, keys_in, keyed_item, rows, counted_fit, shape_of_dictionaries, mask_in}
use Rattle.arrow_select.proofs.KeptLemmas.{keyed_kept, keys_kept}
use Rattle.arrow_select.proofs.filter.dict.filter_dictionary.Goals as goal

pub new-requires-2-clause-within : goal.new-requires-2-clause-within
new-requires-2-clause-within c =
    let child : layout_of c.in_ok-values.values.value ≡ c.args.array.now.child = search rules in
    let within = subst (AreKeys (length (rows c.args.array.now.child))) (sym c.in_ok-keys.ensures.ok) (keys_kept _ (mask_in c.args.selection) (key_rows c.keys.result.now) c.keys.ensures.within) in
    rw child within

pub returns-clause-rows : goal.returns-clause-rows
returns-clause-rows c =
    let xs = rows c.args.array.now.child in
    let mask = mask_in c.args.selection in
    let child : layout_of c.in_ok-values.values.value ≡ c.args.array.now.child = search rules in
    ap keyed_rows c.new-2.ensures ∙ ((λ i. map (keyed_item (rows (child i))) (keys_in (c.in_ok-keys.ensures.ok i))) ∙ (keyed_kept xs (key_rows c.keys.result.now) mask ∙ ap (λ ks. select mask (map (keyed_item xs) ks)) c.keys.ensures.same))

pub returns-clause-fits : goal.returns-clause-fits
returns-clause-fits c =
    let t = c.args.array.now.arrow_type in
    let same : c.new-2.result.arrow_type ≡ t = search rules in
    let count = ap length (returns-clause-rows c) ∙ (length-select (mask_in c.args.selection) (keyed_rows c.args.array.now) c.requires.lengths ∙ sym c.requires.count) in
    subst (λ u. Fits u (keyed_rows c.new-2.result)) (sym same) (counted_fit t (keyed_rows c.new-2.result) (shape_of_dictionaries (physical_type_of t) c.data_type.ensures.kind) (omega (arith, count, c.ranges.count.fits)))
