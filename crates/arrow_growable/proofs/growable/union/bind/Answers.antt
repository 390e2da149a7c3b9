use Rattle.arrow_growable.proofs.Common.{Bor, sym, ◌∙◌, layout_of, union_layout}
use Rattle.arrow_growable.proofs.MakeLemmas.{bind_next, kind_at}
use Rattle.arrow_growable.proofs.growable.union.bind.Goals as goal

pub as_union-requires : goal.as_union-requires
as_union-requires c =
    sym c.data_type.ensures.kind ∙ kind_at (λ (a : Bor _). layout_of a.now) c.args.arrays.now c.array-item.result c.loop-array.array-index c.loop-array-test.true c.array-item.is c.requires.one_type c.requires.kind

pub loop-array-preserved : goal.loop-array-preserved
loop-array-preserved c =
    rw c.in_ok-push.ensures.items (bind_next (λ (r : Bor _). union_layout r.now) (λ (a : Bor _). layout_of a.now) c.loop-array.bound.items c.as_union.result c.args.arrays.now c.array-item.result c.loop-array.array-index c.loop-array-test.true c.array-item.is c.as_union.ensures c.loop-array.invariant)
