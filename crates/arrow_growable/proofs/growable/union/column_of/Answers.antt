use Rattle.arrow_growable.proofs.Common.{arith, ◌≡◌, Bor, length, map, ap, sym, subst, ◌∙◌, take_all, All-map, All-more, All-same, layout_of, child_at, Layout, type_of_layout, field_types, union_layout, first_type, variant_type, map-map}
use Rattle.arrow_growable.proofs.MakeLemmas.{bind_all, bind_next, type_at}
use Rattle.arrow_growable.proofs.UnionMakeLemmas.{same_type}
use Rattle.arrow_growable.proofs.growable.union.column_of.Goals as goal

pub child_of-requires : goal.child_of-requires
child_of-requires c =
    let same = type_at (λ (r : Bor _). union_layout r.now) c.args.arrays.now c.array-item.result c.loop-array.array-index c.loop-array-test.true c.array-item.is c.requires.one_type in
    omega (arith, c.requires.child, ap (λ t. length (field_types t)) (same_type c.array-item.result.now _ same))

pub loop-array-preserved : goal.loop-array-preserved
loop-array-preserved c =
    let t = first_type (map (λ (a : Bor _). union_layout a.now) c.args.arrays.now) in
    let same = type_at (λ (r : Bor _). union_layout r.now) c.args.arrays.now c.array-item.result c.loop-array.array-index c.loop-array-test.true c.array-item.is c.requires.one_type in
    let typed = λ (r : Bor _). type_of_layout (child_at c.args.f (union_layout r.now)) ≡ variant_type t c.args.f in
    (rw c.in_ok-push.ensures.items (bind_next (λ (a : Bor _). layout_of a.now) (λ (r : Bor _). child_at c.args.f (union_layout r.now)) c.loop-array.column.items c.child_of.result c.args.arrays.now c.array-item.result c.loop-array.array-index c.loop-array-test.true c.array-item.is c.child_of.ensures.child c.loop-array.invariant.0), All-more typed c.args.arrays.now c.loop-array.array-index c.array-item.result c.loop-array-test.true c.loop-array.invariant.1 (subst typed c.array-item.is (c.child_of.ensures.field ∙ ap (λ u. variant_type u c.args.f) (same_type c.array-item.result.now t same))))

pub returns-clause-ok : goal.returns-clause-ok
returns-clause-ok c =
    bind_all (λ (a : Bor _). layout_of a.now) (λ (r : Bor _). child_at c.args.f (union_layout r.now)) c.loop-array.column.items c.args.arrays.now c.loop-array.array-index (omega (arith, c.loop-array-test.false)) c.loop-array.invariant.0 ∙ sym (map-map (child_at c.args.f) (λ (r : Bor _). union_layout r.now) c.args.arrays.now)

pub returns-clause-types : goal.returns-clause-types
returns-clause-types c =
    let t = first_type (map (λ (r : Bor _). union_layout r.now) c.args.arrays.now) in
    let typed = λ (l : Layout). type_of_layout l ≡ variant_type t c.args.f in
    let all = All-same (λ (r : Bor _). typed (child_at c.args.f (union_layout r.now))) c.args.arrays.now _ (sym (take_all c.loop-array.array-index c.args.arrays.now (omega (arith, c.loop-array-test.false)))) c.loop-array.invariant.1 in
    All-map typed (child_at c.args.f) _ (All-map (λ (l : Layout). typed (child_at c.args.f l)) (λ (r : Bor _). union_layout r.now) c.args.arrays.now all)
