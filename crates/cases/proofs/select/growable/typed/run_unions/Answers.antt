use Rattle.std.proofs.Common.{refl, sym, subst}
use Rattle.arrow_flat_growable.specs.Grown.{AreOfOneType}
use Rattle.cases.proofs.SourceLemmas.{some_bound, takes_bound}
use Rattle.cases.proofs.select.growable.typed.run_unions.Goals as goal

pub new-requires-clause-some : goal.new-requires-clause-some
new-requires-clause-some c = some_bound _ _ _ _ c.in_ok-bound.ensures c.requires.some

pub new-requires-clause-one_type : goal.new-requires-clause-one_type
new-requires-clause-one_type c = subst AreOfOneType (sym c.in_ok-bound.ensures) c.requires.one_type

pub run_actions-requires : goal.run_actions-requires
run_actions-requires c = λ _. ((refl, tt), takes_bound _ _ _ c.in_ok-growable.ensures.ok c.in_ok-bound.ensures)
