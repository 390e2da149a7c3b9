use Rattle.arrow_growable.proofs.Common.{Bor, sym, ◌∙◌, layout_of}
use Rattle.arrow_growable.proofs.MakeLemmas.{bind_next, kind_at}
use Rattle.arrow_growable.proofs.growable.bound.bind.Goals as goal

pub of_any-requires : goal.of_any-requires
of_any-requires g c =
    sym c.data_type.ensures.kind ∙ kind_at (λ (a : Bor _). layout_of a.now) c.args.arrays.now c.array-item.result c.loop-array.array-index c.loop-array-test.true c.array-item.is c.requires.one_type c.requires.kind

pub loop-array-preserved : goal.loop-array-preserved
loop-array-preserved g c =
    rw c.in_ok-push.ensures.items (bind_next (λ (r : Bor _). g.A.NestedArray.layout_in r.now) (λ (a : Bor _). layout_of a.now) c.loop-array.bound.items c.of_any.result c.args.arrays.now c.array-item.result c.loop-array.array-index c.loop-array-test.true c.array-item.is c.of_any.ensures c.loop-array.invariant)
