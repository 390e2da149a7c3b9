use Rattle.arrow_growable.proofs.Common.{Err, ap, passed_on}
use Rattle.arrow_growable.proofs.growable.join.all_rows.Goals as goal

pub returns-in_err-append_all-clause-overflow : goal.returns-in_err-append_all-clause-overflow
returns-in_err-append_all-clause-overflow c overflows =
    c.in_err-append_all.ensures.overflow (ap Err (passed_on c.from_residual.result _ _ c.from_residual.ensures.1 overflows))
