use Rattle.arrow_growable.proofs.Common.{arith, ◌≡◌, Bor, map, sym, subst, ◌∙◌, take_all, All-map, All-more, All-same, layout_of, Layout, type_of_layout, first_type, child_type, nth_child, map-map}
use Rattle.arrow_growable.proofs.MakeLemmas.{bind_all, bind_next, type_at}
use Rattle.arrow_growable.proofs.SourceLemmas.{child_there, nth_type}
use Rattle.arrow_growable.proofs.growable.bound.column_of.Goals as goal

pub child-requires : goal.child-requires
child-requires g c =
    let same = type_at (λ (r : Bor _). g.A.NestedArray.layout_in r.now) c.args.arrays.now c.array-item.result c.loop-array.array-index c.loop-array-test.true c.array-item.is c.requires.one_type in
    child_there (g.A.NestedArray.layout_in c.array-item.result.now) _ c.width.ensures.types same c.args.f c.requires.child

pub loop-array-preserved : goal.loop-array-preserved
loop-array-preserved g c =
    let same = type_at (λ (r : Bor _). g.A.NestedArray.layout_in r.now) c.args.arrays.now c.array-item.result c.loop-array.array-index c.loop-array-test.true c.array-item.is c.requires.one_type in
    let typed = λ (r : Bor _). type_of_layout (nth_child c.args.f (g.A.NestedArray.layout_in r.now)) ≡ child_type (first_type (map (λ (a : Bor _). g.A.NestedArray.layout_in a.now) c.args.arrays.now)) c.args.f in
    (rw c.in_ok-push.ensures.items (bind_next (λ (a : Bor _). layout_of a.now) (λ (r : Bor _). nth_child c.args.f (g.A.NestedArray.layout_in r.now)) c.loop-array.column.items c.child.result c.args.arrays.now c.array-item.result c.loop-array.array-index c.loop-array-test.true c.array-item.is c.child.ensures c.loop-array.invariant.0), All-more typed c.args.arrays.now c.loop-array.array-index c.array-item.result c.loop-array-test.true c.loop-array.invariant.1 (subst typed c.array-item.is (nth_type (g.A.NestedArray.layout_in c.array-item.result.now) _ c.width.ensures.types same c.args.f c.requires.child)))

pub returns-clause-ok : goal.returns-clause-ok
returns-clause-ok g c =
    bind_all (λ (a : Bor _). layout_of a.now) (λ (r : Bor _). nth_child c.args.f (g.A.NestedArray.layout_in r.now)) c.loop-array.column.items c.args.arrays.now c.loop-array.array-index (omega (arith, c.loop-array-test.false)) c.loop-array.invariant.0 ∙ sym (map-map (nth_child c.args.f) (λ (r : Bor _). g.A.NestedArray.layout_in r.now) c.args.arrays.now)

pub returns-clause-types : goal.returns-clause-types
returns-clause-types g c =
    let t = first_type (map (λ (r : Bor _). g.A.NestedArray.layout_in r.now) c.args.arrays.now) in
    let typed = λ (l : Layout). type_of_layout l ≡ child_type t c.args.f in
    let all = All-same (λ (r : Bor _). typed (nth_child c.args.f (g.A.NestedArray.layout_in r.now))) c.args.arrays.now _ (sym (take_all c.loop-array.array-index c.args.arrays.now (omega (arith, c.loop-array-test.false)))) c.loop-array.invariant.1 in
    All-map typed (nth_child c.args.f) _ (All-map (λ (l : Layout). typed (nth_child c.args.f l)) (λ (r : Bor _). g.A.NestedArray.layout_in r.now) c.args.arrays.now all)
