use Rattle.std.proofs.Common.{sym, subst}
use Rattle.arrow_arrays.specs.Any.{layouts_in}
use Rattle.cases.specs.Sources.{TakesRowsOf}
use Rattle.cases.proofs.select.growable.steps.run_actions.Goals as goal

pub loop-action-preserved : goal.loop-action-preserved
loop-action-preserved g c =
    subst (TakesRowsOf (layouts_in c.args.arrays.now)) (sym c.run_action.ensures) c.loop-action.invariant
