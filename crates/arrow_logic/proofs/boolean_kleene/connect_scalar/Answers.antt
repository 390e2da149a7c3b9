use Rattle.arrow_logic.proofs.Common.{◌≡◌, ◌∙◌, arith, ap, length, map, rules, sym, length-map, mask, masked, Boolean, boolean_rows, decider, decides, kleene_by}
use Rattle.arrow_flat.specs.Scalars.{slot_by as scalar_slot}
use Rattle.arrow_logic.proofs.ScalarLemmas.{kleene_decided_rows, kleene_kept_rows, kleene_null_rows}
use Rattle.arrow_logic.proofs.boolean_kleene.connect_scalar.Goals as goal

pub truths-requires-in-None : goal.truths-requires-in-None
truths-requires-in-None c =
    let array = c.args.array.now in
    let values = c.in_ok-clone-in-None.ensures.cases ∙ c.values-in-None.ensures in
    let deciding = ap length c.in_ok-deciding-in-None.ensures.ok ∙ length-map (boolean_rows array) (decides c.args.connective) in
    omega (arith, deciding, ap length values, c.len-len.ensures.rows, c.len-len.ensures.values, length-map array.values Boolean)

pub returns-in_ok-new_constant-in-Some-clause-rows : goal.returns-in_ok-new_constant-in-Some-clause-rows
returns-in_ok-new_constant-in-Some-clause-rows c =
    let array = c.args.array.now in
    let value = c.in-Some.value in
    let is : value ≡ decider c.args.connective = search rules in
    ap boolean_rows c.truths.ensures ∙ (ap (map Boolean) c.in_ok-new_constant-in-Some.ensures.ok ∙ (kleene_decided_rows c.args.connective array.validity array.values value c.len-len.result is c.len-len.ensures.rows
    ∙ ap (λ o. map (λ s. kleene_by c.args.connective s (scalar_slot Boolean o)) (boolean_rows array)) (sym c.in-Some.is)))

pub returns-in_ok-shared-in-Some-2-clause-rows : goal.returns-in_ok-shared-in-Some-2-clause-rows
returns-in_ok-shared-in-Some-2-clause-rows c =
    let array = c.args.array.now in
    let value = c.in-Some.value in
    let other : value ≡ decider c.args.connective → ⊥ = search rules in
    let values = c.in_ok-clone-in-Some-2.ensures.cases ∙ c.values.ensures in
    let validity = c.in_ok-shared-in-Some-2.ensures.ok ∙ c.validity.ensures.same in
    ap boolean_rows c.truths-in-Some-2.ensures ∙ ((λ i. masked (validity i) (map Boolean (values i))) ∙ (kleene_kept_rows c.args.connective array.validity array.values value other
    ∙ ap (λ o. map (λ s. kleene_by c.args.connective s (scalar_slot Boolean o)) (boolean_rows array)) (sym c.in-Some.is)))

pub returns-in_ok-clone-in-None-clause-rows : goal.returns-in_ok-clone-in-None-clause-rows
returns-in_ok-clone-in-None-clause-rows c =
    let array = c.args.array.now in
    let deciding = c.in_ok-deciding-in-None.ensures.ok in
    let values = c.in_ok-clone-in-None.ensures.cases ∙ c.values-in-None.ensures in
    ap boolean_rows c.truths-in-None.ensures ∙ ((λ i. mask (deciding i) (map Boolean (values i))) ∙ (kleene_null_rows c.args.connective array.validity array.values
    ∙ ap (λ o. map (λ s. kleene_by c.args.connective s (scalar_slot Boolean o)) (boolean_rows array)) (sym c.in-None.is)))
