use Rattle.std.proofs.Common.{arith, Bor, refl}
use Rattle.arrow_arrays.specs.Any.{layout_of}
use Rattle.cases.proofs.SourceLemmas.{rows_there}
use Rattle.cases.proofs.select.growable.steps.extend.Goals as goal

-- the array at the index has these rows
pub extend-requires : goal.extend-requires
extend-requires g c =
    λ _. ((refl, tt), rows_there (λ (a : Bor _). layout_of a.now) c.args.arrays.now _ _ c.args.index c.args.start c.args.len c.requires (omega arith) c.index-arrays-index.is (omega arith))
