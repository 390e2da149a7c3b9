use Rattle.arrow_growable.proofs.Common.{Bor, sym, ◌∙◌, layout_of, keyed_layout}
use Rattle.arrow_growable.proofs.MakeLemmas.{bind_next, kind_at}
use Rattle.arrow_growable.proofs.growable.dictionary.bind.Goals as goal

pub as_dictionary-requires : goal.as_dictionary-requires
as_dictionary-requires c =
    sym c.data_type.ensures.kind ∙ kind_at (λ (a : Bor _). layout_of a.now) c.args.arrays.now c.array-item.result c.loop-array.array-index c.loop-array-test.true c.array-item.is c.requires.one_type c.requires.kind

pub loop-array-preserved : goal.loop-array-preserved
loop-array-preserved c =
    rw c.in_ok-push.ensures.items (bind_next (λ (r : Bor _). keyed_layout r.now) (λ (a : Bor _). layout_of a.now) c.loop-array.bound.items c.as_dictionary.result c.args.arrays.now c.array-item.result c.loop-array.array-index c.loop-array-test.true c.array-item.is c.as_dictionary.ensures c.loop-array.invariant)
