use Rattle.arrow_choice.proofs.Common.{Bor, boolean_rows}
use Rattle.arrow_choice.proofs.KeyLemmas.{chosen_alone}
use Rattle.arrow_choice.proofs.if_then_else.if_then_else.Goals as goal

pub returns-clause-no_keys : goal.returns-clause-no_keys
returns-clause-no_keys c overflows none =
    chosen_alone (λ (a : Bor _). a.now) (boolean_rows c.args.predicate.now) c.args.lhs c.args.rhs c.show_all_no_keys.ensures (c.is_of_type.ensures.0 c.if-not-is_of_type.false) (c.chosen_rows.ensures.overflow overflows) none
