use Rattle.arrow_logic.proofs.MaskedLemmas.{none-valid}
use Rattle.arrow_compare.proofs.comparison.answers.all_null.Goals as goal

pub returns-clause-rows : goal.returns-clause-rows
returns-clause-rows c =
    rw (c.truths.ensures, c.in_ok-clone.ensures.cases, c.in_ok-unset.ensures.ok) (none-valid c.args.len)
