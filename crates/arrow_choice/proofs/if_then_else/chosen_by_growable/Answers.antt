use Rattle.arrow_choice.proofs.Common.{boolean_rows, layout_of}
use Rattle.arrow_choice.proofs.ChoiceLemmas.{cannot_choose}
use Rattle.arrow_choice.proofs.if_then_else.chosen_by_growable.Goals as goal

pub returns-clause-overflow : goal.returns-clause-overflow
returns-clause-overflow c overflows =
    cannot_choose (boolean_rows c.args.predicate.now) (layout_of c.args.lhs.now) (layout_of c.args.rhs.now) (c.chosen_by_runs.ensures.overflow overflows)
