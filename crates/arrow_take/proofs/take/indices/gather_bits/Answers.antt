use Rattle.arrow_take.proofs.Common.{◌≡◌, ◌∙◌, ap, false, length, map, replicate, subst, sym, IfOk, length-map, rows_by, length-masked, AreKeys, named_bit}
use Rattle.arrow_take.proofs.IndexLemmas.{no_bits}
use Rattle.arrow_take.proofs.take.indices.gather_bits.Goals as goal

pub returns-then-is_empty-clause-ok : goal.returns-then-is_empty-clause-ok
returns-then-is_empty-clause-ok g c =
    let rows = rows_by (map g.I.NativeType.slot) c.args.indices.now in
    let none = c.is_empty.ensures.0 c.if-is_empty.true in
    let long = length-masked c.args.indices.now.validity (map g.I.NativeType.slot c.args.indices.now.values) c.validity-validity.ensures.fits ∙ length-map c.args.indices.now.values g.I.NativeType.slot in
    let count = ap length (c.as_slice-stored.ensures ∙ c.values.ensures) in
    let all = ap (λ n. replicate n false) (count ∙ sym long) ∙ (no_bits rows (subst (λ bits. AreKeys (length bits) rows) none c.requires) ∙ ap (λ bits. map (named_bit bits) rows) (sym none)) in
    subst (λ bits. IfOk c.new_zeroed.result (λ taken. taken ≡ bits)) all c.new_zeroed.ensures.ok
