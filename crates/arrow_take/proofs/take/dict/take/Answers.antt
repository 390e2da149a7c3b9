use Rattle.arrow_take.proofs.Common.{◌≡◌, ◌∙◌, arith, ap, length, map, rules, subst, sym, Fits, physical_type_of, gather, rows_by, layout_of, key_rows, AreKeys, keyed_rows, keys_in, keyed_item, rows, dictionary_shape, null_slot-shape, counted_fit, shape_of_dictionaries}
use Rattle.arrow_take.proofs.IndexLemmas.{length-gather}
use Rattle.arrow_take.proofs.TakenKeys.{keyed_taken, keys_taken}
use Rattle.arrow_take.proofs.take.dict.take.Goals as goal

pub new-requires-2-clause-within : goal.new-requires-2-clause-within
new-requires-2-clause-within g c =
    let child : layout_of c.in_ok-child.child.value ≡ c.args.values.now.child = search rules in
    let within = subst (AreKeys (length (rows c.args.values.now.child))) (sym c.in_ok-keys.ensures.ok) (keys_taken _ (key_rows c.keys.result.now) (rows_by (map g.I.NativeType.slot) c.args.indices.now) c.keys.ensures.within) in
    rw child within

pub returns-clause-rows : goal.returns-clause-rows
returns-clause-rows g c =
    let t = c.args.values.now.arrow_type in
    let indices = rows_by (map g.I.NativeType.slot) c.args.indices.now in
    let xs = rows c.args.values.now.child in
    let child : layout_of c.in_ok-child.child.value ≡ c.args.values.now.child = search rules in
    let none = null_slot-shape t dictionary_shape (shape_of_dictionaries (physical_type_of t) c.data_type.ensures.kind) (λ is. cc) in
    ap keyed_rows c.new-2.ensures ∙ ((λ i. map (keyed_item (rows (child i))) (keys_in (c.in_ok-keys.ensures.ok i))) ∙ (keyed_taken xs (key_rows c.keys.result.now) indices t none ∙ ap (λ ks. gather (map (keyed_item xs) ks) indices t) c.keys.ensures.same))

pub returns-clause-fits : goal.returns-clause-fits
returns-clause-fits g c =
    let t = c.args.values.now.arrow_type in
    let same : c.new-2.result.arrow_type ≡ t = search rules in
    let count = ap length (returns-clause-rows g c) ∙ length-gather (keyed_rows c.args.values.now) (rows_by (map g.I.NativeType.slot) c.args.indices.now) t in
    subst (λ u. Fits u (keyed_rows c.new-2.result)) (sym same) (counted_fit t (keyed_rows c.new-2.result) (shape_of_dictionaries (physical_type_of t) c.data_type.ensures.kind) (omega (arith, count, c.len.ensures.rows)))
