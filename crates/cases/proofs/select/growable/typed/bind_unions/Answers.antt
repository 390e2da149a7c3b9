use Rattle.std.proofs.Common.{arith, Bor, ap, sym, ◌∙◌}
use Rattle.arrow_types.specs.Physical.{physical_type_of}
use Rattle.arrow_arrays.specs.Any.{kind_in, layout_of}
use Rattle.arrow_arrays.specs.UnionParts.{union_layout}
use Rattle.arrow_growable.proofs.MakeLemmas.{bind_all, bind_next, type_at}
use Rattle.cases.proofs.select.growable.typed.bind_unions.Goals as goal

pub as_union-requires : goal.as_union-requires
as_union-requires c =
    let same = type_at (λ (a : Bor _). layout_of a.now) c.args.arrays.now c.array-item.result c.loop-array.array-index c.loop-array-test.true c.array-item.is c.requires.one_type in
    sym c.data_type.ensures.kind ∙ (ap (λ t. kind_in (physical_type_of t)) same ∙ c.requires.kind)

pub loop-array-preserved : goal.loop-array-preserved
loop-array-preserved c =
    rw c.in_ok-push.ensures.items (bind_next (λ (r : Bor _). union_layout r.now) (λ (a : Bor _). layout_of a.now) c.loop-array.bound.items c.as_union.result c.args.arrays.now c.array-item.result c.loop-array.array-index c.loop-array-test.true c.array-item.is c.as_union.ensures c.loop-array.invariant)

pub returns : goal.returns
returns c =
    bind_all (λ (r : Bor _). union_layout r.now) (λ (a : Bor _). layout_of a.now) c.loop-array.bound.items c.args.arrays.now c.loop-array.array-index (omega (arith, c.loop-array-test.false)) c.loop-array.invariant
