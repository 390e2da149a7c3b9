use Rattle.arrow_choice.proofs.Common.{◌≡◌, arith, map, rules, ◌∙◌, chosen_by, rows_by, is_only_counted, is_counted, null_of_counted, ap}
use Rattle.arrow_choice.proofs.ChosenLemmas.{Chooses, chooses, counted_fit, rows_chosen, values_fit}
use Rattle.arrow_choice.proofs.if_then_else.primitive.chosen_numbers.Given as given
use Rattle.arrow_choice.proofs.if_then_else.primitive.chosen_numbers.Goals as goal
use Rattle.arrow_choice.proofs.if_then_else.primitive.chosen_numbers.Goals.{In_ok-values-2}

-- the values and the validity are those that the predicate chooses
chosen_of : (g : given.Over) (c : In_ok-values-2 g) → Chooses c.args.predicate.now c.args.lhs.now c.args.rhs.now c.in_ok-values-2.values c.in_ok-validity.validity
chosen_of g c =
    let are = c.in_ok-values-2.ensures.ok ∙ (c.in_ok-values.ensures.ok ∙ (λ t. chosen_by (c.values-3.ensures t) ((c.as_slice-left.ensures ∙ c.values.ensures) t) ((c.as_slice-right.ensures ∙ c.values-2.ensures) t))) in
    chooses g.T.NativeType.slot c.args.predicate.now c.args.lhs.now c.args.rhs.now c.in_ok-values-2.values c.in_ok-validity.validity _ _ c.requires.lengths c.in_ok-validity.ensures.predicate c.validity.ensures.fits c.validity-2.ensures.fits c.validity.ensures.same c.validity-2.ensures.same are c.in_ok-validity.ensures.ok

pub new-requires-clause-length : goal.new-requires-clause-length
new-requires-clause-length g c = values_fit (chosen_of g (goal.at.new-requires-clause-length g c).In_ok-values-2)

pub returns-clause-rows : goal.returns-clause-rows
returns-clause-rows g c =
    let t = c.args.lhs.now.arrow_type in
    ap (rows_by (map g.T.NativeType.slot)) c.new.ensures ∙ rows_chosen (chosen_of g (goal.at.returns-clause-rows g c).In_ok-values-2) g.T.NativeType.slot t (null_of_counted t (ap is_counted c.data_type-data_type.ensures.kind))

pub returns-clause-fits : goal.returns-clause-fits
returns-clause-fits g c =
    let same : c.new.result.arrow_type ≡ c.args.lhs.now.arrow_type = search rules in
    counted_fit c.args.lhs.now.arrow_type c.new.result.arrow_type _ _ _ _ (ap is_only_counted c.data_type-data_type.ensures.kind) same c.requires.lengths (omega (arith, c.len-2.ensures.rows, c.len-2.type_inv)) (returns-clause-rows g c)
