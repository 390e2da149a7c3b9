use Rattle.std.proofs.Common.{arith, rules, Bor}
use Rattle.std.proofs.lemmas.List.{length-map}
use Rattle.arrow_arrays.specs.Any.{layout_of}
use Rattle.arrow_growable.proofs.MakeLemmas.{one_type_of}
use Rattle.cases.proofs.SourceLemmas.{typed_all, typed_next}
use Rattle.cases.proofs.select.lists.are_of_one_type.Goals as goal

pub loop-array-preserved : goal.loop-array-preserved
loop-array-preserved c =
    typed_next (λ (a : Bor _). layout_of a.now) c.args.arrays.now c.array-item.result c.loop-array.array-index _ c.loop-array-test.true c.array-item.is (search rules) c.loop-array.invariant

pub returns-clause-one_type : goal.returns-clause-one_type
returns-clause-one_type c =
    λ _. one_type_of _ _ (omega (arith, c.in-Some.ensures.item.3.0, length-map c.args.arrays.now (λ (a : Bor _). layout_of a.now))) (typed_all (λ (a : Bor _). layout_of a.now) c.args.arrays.now c.loop-array.array-index _ (omega (arith, c.loop-array-test.false)) c.loop-array.invariant)
