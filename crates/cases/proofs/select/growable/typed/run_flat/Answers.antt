use Rattle.std.proofs.Common.{arith, Bor, ap, refl, sym, ◌∙◌}
use Rattle.arrow_types.specs.Physical.{physical_type_of}
use Rattle.arrow_arrays.specs.Any.{kind_in, layout_of}
use Rattle.arrow_flat_growable.specs.Flat.{flat_layout}
use Rattle.arrow_growable.proofs.MakeLemmas.{bind_next, type_at}
use Rattle.cases.proofs.SourceLemmas.{all_of_one_type, all_there, takes_all}
use Rattle.cases.proofs.select.growable.typed.run_flat.Goals as goal

pub of_any-requires : goal.of_any-requires
of_any-requires g c =
    let same = type_at (λ (a : Bor _). layout_of a.now) c.args.arrays.now c.array-item.result c.loop-array.array-index c.loop-array-test.true c.array-item.is c.requires.one_type in
    sym c.data_type.ensures.kind ∙ (ap (λ t. kind_in (physical_type_of t)) same ∙ c.requires.kind)

pub loop-array-preserved : goal.loop-array-preserved
loop-array-preserved g c =
    rw c.in_ok-push.ensures.items (bind_next (λ (r : Bor _). flat_layout g.G.GrowableValues.type_in g.G.GrowableValues.bits_in g.G.GrowableValues.stored_in r.now) (λ (a : Bor _). layout_of a.now) c.loop-array.bound.items c.of_any.result c.args.arrays.now c.array-item.result c.loop-array.array-index c.loop-array-test.true c.array-item.is c.of_any.ensures c.loop-array.invariant)

pub new-requires-clause-some : goal.new-requires-clause-some
new-requires-clause-some g c =
    all_there (λ (r : Bor _). flat_layout g.G.GrowableValues.type_in g.G.GrowableValues.bits_in g.G.GrowableValues.stored_in r.now) (λ (a : Bor _). layout_of a.now) c.loop-array.bound.items c.args.arrays.now c.loop-array.array-index (omega (arith, c.loop-array-test.false)) c.loop-array.invariant c.requires.some

pub new-requires-clause-one_type : goal.new-requires-clause-one_type
new-requires-clause-one_type g c =
    all_of_one_type (λ (r : Bor _). flat_layout g.G.GrowableValues.type_in g.G.GrowableValues.bits_in g.G.GrowableValues.stored_in r.now) (λ (a : Bor _). layout_of a.now) c.loop-array.bound.items c.args.arrays.now c.loop-array.array-index (omega (arith, c.loop-array-test.false)) c.loop-array.invariant c.requires.one_type

pub run_actions-requires : goal.run_actions-requires
run_actions-requires g c =
    λ _. ((refl, tt), takes_all (λ (r : Bor _). flat_layout g.G.GrowableValues.type_in g.G.GrowableValues.bits_in g.G.GrowableValues.stored_in r.now) (λ (a : Bor _). layout_of a.now) c.loop-array.bound.items c.args.arrays.now c.loop-array.array-index (omega (arith, c.loop-array-test.false)) c.loop-array.invariant _ c.in_ok-growable.ensures.ok)
