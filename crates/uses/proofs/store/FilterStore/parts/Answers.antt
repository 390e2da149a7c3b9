use Rattle.uses.proofs.Common.{[], any_array_rows, ap, arith, get_or, length, mask_in, ranged_all, select, select_is, sym, ◌∙◌, ◌≡◌}
use Rattle.uses.proofs.store.FilterStore.parts.Goals as goal

pub returns-clause-rows : goal.returns-clause-rows
returns-clause-rows c =
    let xs = any_array_rows c.args.column.now in
    let mask = c.in-Some.filter.now in
    let long : length mask ≡ length xs = sym c.mask_len.ensures ∙ (c.if-mask_len-len.false ∙ c.len.ensures) in
    let kept = ranged_all c.ranges-start-items.result.now mask xs c.loop-start.start-index c.ranges-start-items.ensures.named long (omega (arith, c.loop-start-test.false)) in
    let stored : mask ≡ mask_in c.args.self.now c.args.number = c.in-Some.ensures.lookup.3.1 [] ∙ ap (λ masks. get_or masks c.args.number []) (c.deref.ensures.value ∙ c.self.view_is) in
    c.loop-start.invariant ∙ (kept ∙ (sym (select_is mask xs) ∙ ap (λ m. select m xs) stored))
