use Rattle.arrow_take.proofs.Common.{◌≡◌, ◌∙◌, [], ap, length, map, replicate, rules, subst, sym, IfOk, length-map, rows_by, length-masked, picked}
use Rattle.arrow_take.proofs.IndexLemmas.{nil_of, picked_none}
use Rattle.arrow_take.proofs.take.indices.gather_values.Goals as goal

pub returns-then-is_empty-clause-ok : goal.returns-then-is_empty-clause-ok
returns-then-is_empty-clause-ok g c =
    let rows = rows_by (map g.I.NativeType.slot) c.args.indices.now in
    let none : c.args.values.now ≡ [] = nil_of c.args.values.now (search rules) in
    let long = length-masked c.args.indices.now.validity (map g.I.NativeType.slot c.args.indices.now.values) c.validity-validity.ensures.fits ∙ length-map c.args.indices.now.values g.I.NativeType.slot in
    let count = ap length (c.as_slice-stored.ensures ∙ c.values.ensures) in
    let all = ap (λ n. replicate n g.T.NativeType.zero) (count ∙ sym long) ∙ (picked_none g.T.NativeType.zero rows ∙ ap (λ vs. map (picked vs g.T.NativeType.zero) rows) (sym none)) in
    subst (λ vs. IfOk c.zeros.result (λ taken. taken.items ≡ vs)) all c.zeros.ensures.ok
