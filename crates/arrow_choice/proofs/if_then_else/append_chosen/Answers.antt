use Rattle.arrow_choice.proofs.Common.{Err, ap, passed_on, refl}
use Rattle.arrow_choice.proofs.ChoiceLemmas.{chosen_all, chosen_more, chosen_none, run_names, run_refused}
use Rattle.arrow_choice.proofs.if_then_else.append_chosen.Goals as goal

pub loop-truth-init : goal.loop-truth-init
loop-truth-init g c = chosen_none _ _ _ _ _ c.requires.bound c.new-runs.ensures

pub append_run-requires : goal.append_run-requires
append_run-requires g c κs =
    ((refl, tt), run_names c.loop-truth.invariant c.requires.lengths c.in-Some.ensures.run)

pub returns-in_err-append_run-clause-overflow : goal.returns-in_err-append_run-clause-overflow
returns-in_err-append_run-clause-overflow g c overflows =
    run_refused c.loop-truth.invariant c.requires.lengths c.in-Some.truth c.in-Some.ensures.run (c.in_err-append_run.ensures.overflow (ap Err (passed_on c.from_residual.result _ _ c.from_residual.ensures.1 overflows)))

pub loop-truth-preserved : goal.loop-truth-preserved
loop-truth-preserved g c =
    chosen_more c.loop-truth.invariant c.requires.lengths c.in-Some.ensures.run _ c.in_ok-append_run.ensures.ok c.in_ok-append_run.ensures.fits

pub returns-clause-ok : goal.returns-clause-ok
returns-clause-ok g c = chosen_all c.loop-truth.invariant c.in_default.ensures.none
