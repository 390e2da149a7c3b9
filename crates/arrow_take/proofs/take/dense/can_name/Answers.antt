use Rattle.arrow_take.proofs.Common.{◌≤◌, arith, length, rules, subst, sym, take_all, All-map, All-more, All-same, any_array_rows, layout_of, rows, NamesRows}
use Rattle.arrow_take.proofs.TakenPlaces.{if_dense}
use Rattle.arrow_take.proofs.take.dense.can_name.Goals as goal

pub loop-child-preserved : goal.loop-child-preserved
loop-child-preserved g c =
    let P = λ (a : _). length (any_array_rows a) ≤ g.I.Index.greatest in
    let here : P c.child-item.result = search rules in
    All-more P c.fields-child-items.result.now c.loop-child.child-index c.child-item.result c.loop-child-test.true c.loop-child.invariant (subst P c.child-item.is here)

pub returns : goal.returns
returns g c told =
    let P = λ (a : _). length (any_array_rows a) ≤ g.I.Index.greatest in
    let items = c.fields-child-items.result.now in
    let all = All-same P items _ (sym (take_all c.loop-child.child-index items (omega (arith, c.loop-child-test.false)))) c.loop-child.invariant in
    if_dense _ _ (subst (NamesRows g.I.Index.greatest) c.fields-child-items.ensures.same (All-map (λ l. length (rows l) ≤ g.I.Index.greatest) layout_of items all))
