use Rattle.arrow_arrays.specs.Any.{layouts_in}
use Rattle.cases.specs.Sources.{TakesRowsOf}
use Rattle.cases.proofs.select.growable.steps.run_actions.Given as goal

-- it takes rows of the same arrays still
abbrev pub invariant-loop-action : goal.invariant-loop-action
invariant-loop-action g l = TakesRowsOf (layouts_in l.arrays) (g.G.Growable.state l.growable).sources
