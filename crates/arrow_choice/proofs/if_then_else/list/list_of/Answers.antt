use Rattle.arrow_choice.proofs.Common.{arith, ◌≡◌, ◌≤◌, ◌∙◌, ap, rules, subst, sym, length-map, Fits, masked, Boolean, type_of, last_of, FitsRows, any_array_rows, offsets_of, list_items, list_rows, IsListType, greatest_in}
use Rattle.arrow_choice.proofs.ChosenLists.{ChoosesLists, chosen_fit, lists_are, lists_chosen, lists_long}
use Rattle.arrow_choice.proofs.ChosenRows.{rows_end}
use Rattle.arrow_choice.proofs.if_then_else.list.list_of.Goals as goal
use Rattle.arrow_choice.proofs.if_then_else.list.list_of.Goals.{After-validity-3}

-- the lists are those that are chosen
chosen_of : (c : After-validity-3) → ChoosesLists c.args.predicate.now c.args.lhs.now c.args.rhs.now c.args.validity (offsets_of c.args.offsets) (any_array_rows c.args.items)
chosen_of c =
    let p = c.args.predicate.now in
    record {
      kind = subst IsListType (sym c.requires.width) (lists_are c.args.offsets);
      lengths = c.requires.lengths;
      fits = subst (FitsRows p.validity) (length-map p.values Boolean) c.validity.ensures.fits;
      left = c.validity-2.ensures.fits;
      right = c.validity-3.ensures.fits;
      marks = c.requires.marks;
      lie = record { ends = c.requires.ends; items = c.requires.items };
    }

pub new-requires-2 : goal.new-requires-2
new-requires-2 c =
    let s = chosen_of (goal.at.new-requires-2 c).After-validity-3 in
    let same : type_of c.in_ok-data_type.data_type ≡ c.args.lhs.now.arrow_type = search rules in
    let boxed : c.in_ok-new.field-0.value ≡ c.args.items = search rules in
    (rw same (c.data_type.ensures.carried, c.requires.width), rw (same, boxed) c.requires.child, lists_long s, rw boxed (rows_end s.lie))

pub returns-clause-rows : goal.returns-clause-rows
returns-clause-rows c =
    let boxed : c.in_ok-new.field-0.value ≡ c.args.items = search rules in
    ap list_rows c.new-2.ensures ∙ (ap (λ x. masked c.args.validity (list_items (offsets_of c.args.offsets) (any_array_rows x))) boxed ∙ lists_chosen (chosen_of (goal.at.returns-clause-rows c).After-validity-3))

pub returns-clause-fits : goal.returns-clause-fits
returns-clause-fits c =
    let same : c.new-2.result.arrow_type ≡ c.args.lhs.now.arrow_type = search rules in
    let few = subst (λ k. last_of (offsets_of c.args.offsets) ≤ greatest_in k) (sym c.requires.width) c.requires.few in
    let inner = subst (λ t. Fits t (any_array_rows c.args.items)) c.requires.child c.requires.fits in
    let fit = chosen_fit (chosen_of (goal.at.returns-clause-fits c).After-validity-3) (omega (arith, c.len.ensures.values, c.len.type_inv, length-map c.args.predicate.now.values Boolean)) few inner in
    subst (λ t. Fits t (list_rows c.new-2.result)) (sym same) (subst (Fits c.args.lhs.now.arrow_type) (sym (returns-clause-rows c)) fit)
