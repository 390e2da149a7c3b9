use Rattle.arrow_choice.proofs.Common.{◌-◌, drop, subst, boolean_rows, TakesRun}
use Rattle.arrow_choice.proofs.SideLemmas.{takes_run}
use Rattle.arrow_choice.proofs.if_then_else.runs.Runs.next.Goals as goal

pub returns-clause-run : goal.returns-clause-run
returns-clause-run c =
    let ps = boolean_rows c.self.inside.predicate.now in
    let end = c.run_end-end.result.0 in
    subst (λ old. TakesRun old (end, drop end ps) c.truth-truth.result c.self.inside.row (end - c.self.inside.row)) c.self.view_is (takes_run ps c.truth-truth.result c.self.inside.row end c.run_end-end.ensures.run)
