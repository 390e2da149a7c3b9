use Rattle.arrow_choice.proofs.Common.{Err, ap, passed_on}
use Rattle.arrow_choice.proofs.if_then_else.chosen_by_runs.Goals as goal

pub returns-in_err-append_by_kind-clause-overflow :
    goal.returns-in_err-append_by_kind-clause-overflow
returns-in_err-append_by_kind-clause-overflow c overflows =
    c.in_err-append_by_kind.ensures.overflow (ap Err (passed_on c.from_residual.result _ _ c.from_residual.ensures.1 overflows))
