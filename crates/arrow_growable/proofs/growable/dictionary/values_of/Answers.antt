use Rattle.arrow_growable.proofs.Common.{arith, ◌≡◌, Bor, sym, subst, ◌∙◌, take_all, All-more, All-same, values_in, layout_of, child_of, keyed_layout, type_of_layout, map-map}
use Rattle.arrow_growable.proofs.MakeLemmas.{bind_all, bind_next}
use Rattle.arrow_growable.proofs.growable.dictionary.values_of.Goals as goal

pub loop-array-preserved : goal.loop-array-preserved
loop-array-preserved c =
    let typed = λ (r : Bor _). type_of_layout r.now.child ≡ values_in r.now.arrow_type in
    (rw c.in_ok-push.ensures.items (bind_next (λ (a : Bor _). layout_of a.now) (λ (r : Bor _). r.now.child) c.loop-array.values.items c.values.result c.args.arrays.now c.array-item.result c.loop-array.array-index c.loop-array-test.true c.array-item.is c.values.ensures.same c.loop-array.invariant.0), All-more typed c.args.arrays.now c.loop-array.array-index c.array-item.result c.loop-array-test.true c.loop-array.invariant.1 (subst typed c.array-item.is c.values.ensures.values))

pub returns-clause-ok : goal.returns-clause-ok
returns-clause-ok c =
    bind_all (λ (a : Bor _). layout_of a.now) (λ (r : Bor _). r.now.child) c.loop-array.values.items c.args.arrays.now c.loop-array.array-index (omega (arith, c.loop-array-test.false)) c.loop-array.invariant.0 ∙ sym (map-map child_of (λ (r : Bor _). keyed_layout r.now) c.args.arrays.now)

pub returns-clause-types : goal.returns-clause-types
returns-clause-types c =
    let typed = λ (r : Bor _). type_of_layout r.now.child ≡ values_in r.now.arrow_type in
    All-same typed c.args.arrays.now _ (sym (take_all c.loop-array.array-index c.args.arrays.now (omega (arith, c.loop-array-test.false)))) c.loop-array.invariant.1
