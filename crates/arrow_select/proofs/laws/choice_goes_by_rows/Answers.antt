use Rattle.arrow_select.proofs.Common.{List, ArrowType, chosen, Slot, boolean_rows, any_array_meaning}
use Rattle.arrow_select.proofs.LawLemmas.{equal_inputs}
use Rattle.arrow_select.proofs.laws.choice_goes_by_rows.Goals as goal

pub returns : goal.returns
returns c =
    equal_inputs {A = List Slot × (ArrowType × List Slot) × (ArrowType × List Slot)} (λ x. (x.1.0, chosen x.0 x.1.1 x.2.1 x.1.0)) (boolean_rows c.args.predicate.now, any_array_meaning c.args.lhs.now, any_array_meaning c.args.rhs.now) (boolean_rows c.args.other_predicate.now, any_array_meaning c.args.other_lhs.now, any_array_meaning c.args.other_rhs.now) (any_array_meaning c.args.all.now) (any_array_meaning c.args.other_all.now) (λ i. (c.requires.predicates i, c.requires.left i, c.requires.right i)) c.requires.all c.requires.other
