use Rattle.arrow_choice.proofs.Common.{◌≡◌, ap, arith, rules, ◌∙◌, chosen_by, boolean_rows, is_only_counted, is_counted, null_of_counted, Boolean}
use Rattle.arrow_choice.proofs.ChosenLemmas.{Chooses, chooses, counted_fit, rows_chosen, values_fit}
use Rattle.arrow_choice.proofs.if_then_else.boolean.chosen_booleans.Goals as goal
use Rattle.arrow_choice.proofs.if_then_else.boolean.chosen_booleans.Goals.{In_ok-validity}

-- the values and the validity are those that the predicate chooses
chosen_of : (c : In_ok-validity) → Chooses c.args.predicate.now c.args.lhs.now c.args.rhs.now c.in_ok-values.values c.in_ok-validity.validity
chosen_of c =
    let are = c.in_ok-values.ensures.ok ∙ (λ t. chosen_by (c.values.ensures t) (c.values-2.ensures t) (c.values-3.ensures t)) in
    chooses Boolean c.args.predicate.now c.args.lhs.now c.args.rhs.now c.in_ok-values.values c.in_ok-validity.validity _ _ c.requires.lengths c.in_ok-validity.ensures.predicate c.validity.ensures.fits c.validity-2.ensures.fits c.validity.ensures.same c.validity-2.ensures.same are c.in_ok-validity.ensures.ok

pub new-requires-clause-length : goal.new-requires-clause-length
new-requires-clause-length c = values_fit (chosen_of (goal.at.new-requires-clause-length c).In_ok-validity)

pub returns-clause-rows : goal.returns-clause-rows
returns-clause-rows c =
    let t = c.args.lhs.now.arrow_type in
    ap boolean_rows c.new.ensures ∙ rows_chosen (chosen_of (goal.at.returns-clause-rows c).In_ok-validity) Boolean t (null_of_counted t (ap is_counted c.data_type-data_type.ensures.kind))

pub returns-clause-fits : goal.returns-clause-fits
returns-clause-fits c =
    let same : c.new.result.arrow_type ≡ c.args.lhs.now.arrow_type = search rules in
    counted_fit c.args.lhs.now.arrow_type c.new.result.arrow_type _ _ _ _ (ap is_only_counted c.data_type-data_type.ensures.kind) same c.requires.lengths (omega (arith, c.len-2.ensures.rows, c.len-2.type_inv)) (returns-clause-rows c)
