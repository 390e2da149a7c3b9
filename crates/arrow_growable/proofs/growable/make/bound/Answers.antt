use Rattle.arrow_growable.proofs.Common.{arith, ◌≡◌, Bor, IfOk, length, map, ap, sym, subst, ◌∙◌, length-map, layout_of, flat_layout, AreOfOneType, bound_to}
use Rattle.arrow_growable.proofs.MakeLemmas.{bind_all, bind_next, kind_at}
use Rattle.arrow_growable.proofs.growable.make.bound.Goals as goal

pub loop-array-init : goal.loop-array-init
loop-array-init g c =
    ap (map (λ (r : Bor _). flat_layout g.G.GrowableValues.type_in g.G.GrowableValues.bits_in g.G.GrowableValues.stored_in r.now)) c.in_ok-flat.ensures.items

pub of_any-requires : goal.of_any-requires
of_any-requires g c =
    sym c.data_type.ensures.kind ∙ kind_at (λ (a : Bor _). layout_of a.now) c.args.arrays.now c.array-item.result c.loop-array.array-index c.loop-array-test.true c.array-item.is c.requires.one_type c.requires.kind

pub loop-array-preserved : goal.loop-array-preserved
loop-array-preserved g c =
    rw c.in_ok-push.ensures.items (bind_next (λ (r : Bor _). flat_layout g.G.GrowableValues.type_in g.G.GrowableValues.bits_in g.G.GrowableValues.stored_in r.now) (λ (a : Bor _). layout_of a.now) c.loop-array.flat.items c.of_any.result c.args.arrays.now c.array-item.result c.loop-array.array-index c.loop-array-test.true c.array-item.is c.of_any.ensures c.loop-array.invariant)

pub new-requires-clause-some : goal.new-requires-clause-some
new-requires-clause-some g c =
    let f = λ (r : Bor _). flat_layout g.G.GrowableValues.type_in g.G.GrowableValues.bits_in g.G.GrowableValues.stored_in r.now in
    let whole = bind_all f (λ (a : Bor _). layout_of a.now) c.loop-array.flat.items c.args.arrays.now c.loop-array.array-index (omega (arith, c.loop-array-test.false)) c.loop-array.invariant in
    omega (arith, c.requires.some, ap length whole, length-map c.loop-array.flat.items f, length-map c.args.arrays.now (λ (a : Bor _). layout_of a.now))

pub new-requires-clause-one_type : goal.new-requires-clause-one_type
new-requires-clause-one_type g c =
    let f = λ (r : Bor _). flat_layout g.G.GrowableValues.type_in g.G.GrowableValues.bits_in g.G.GrowableValues.stored_in r.now in
    let whole = bind_all f (λ (a : Bor _). layout_of a.now) c.loop-array.flat.items c.args.arrays.now c.loop-array.array-index (omega (arith, c.loop-array-test.false)) c.loop-array.invariant in
    subst AreOfOneType (sym whole) c.requires.one_type

pub returns-clause-ok : goal.returns-clause-ok
returns-clause-ok g c =
    let f = λ (r : Bor _). flat_layout g.G.GrowableValues.type_in g.G.GrowableValues.bits_in g.G.GrowableValues.stored_in r.now in
    let whole = bind_all f (λ (a : Bor _). layout_of a.now) c.loop-array.flat.items c.args.arrays.now c.loop-array.array-index (omega (arith, c.loop-array-test.false)) c.loop-array.invariant in
    subst (λ ls. IfOk c.new.result (λ growable. growable ≡ bound_to ls)) whole c.new.ensures.ok
