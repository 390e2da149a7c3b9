use Rattle.arrow_logic.proofs.Common.{◌≡◌, ◌∙◌, ap, map, replicate, rules, sym, length-map, mask, masked, Boolean, boolean_rows, decider, slot_by}
use Rattle.arrow_flat.specs.Scalars.{slot_by as scalar_slot}
use Rattle.arrow_logic.proofs.ScalarLemmas.{decided_rows, kept_rows, null_rows}
use Rattle.arrow_logic.proofs.boolean.connect_scalar.Goals as goal

pub returns-in_ok-shared-in-Some-clause-rows : goal.returns-in_ok-shared-in-Some-clause-rows
returns-in_ok-shared-in-Some-clause-rows c =
    let array = c.args.array.now in
    let value = c.in-Some.value in
    let is : value ≡ decider c.args.connective = search rules in
    let values = c.in_ok-values-in-Some.ensures.ok ∙ ap (λ n. replicate n value) (c.len-len.ensures.values ∙ length-map array.values Boolean) in
    let validity = c.in_ok-shared-in-Some.ensures.ok ∙ c.validity.ensures.same in
    ap boolean_rows c.truths.ensures ∙ ((λ i. masked (validity i) (map Boolean (values i))) ∙ (decided_rows c.args.connective array.validity array.values value is
    ∙ ap (λ o. map (λ s. slot_by c.args.connective s (scalar_slot Boolean o)) (boolean_rows array)) (sym c.in-Some.is)))

pub returns-in_ok-shared-in-Some-2-clause-rows : goal.returns-in_ok-shared-in-Some-2-clause-rows
returns-in_ok-shared-in-Some-2-clause-rows c =
    let array = c.args.array.now in
    let value = c.in-Some.value in
    let other : value ≡ decider c.args.connective → ⊥ = search rules in
    let values = c.in_ok-clone-in-Some-2.ensures.cases ∙ c.values.ensures in
    let validity = c.in_ok-shared-in-Some-2.ensures.ok ∙ c.validity-in-Some-2.ensures.same in
    ap boolean_rows c.truths-in-Some-2.ensures ∙ ((λ i. masked (validity i) (map Boolean (values i))) ∙ (kept_rows c.args.connective array.validity array.values value other
    ∙ ap (λ o. map (λ s. slot_by c.args.connective s (scalar_slot Boolean o)) (boolean_rows array)) (sym c.in-Some.is)))

pub returns-in_ok-clone-in-None-clause-rows : goal.returns-in_ok-clone-in-None-clause-rows
returns-in_ok-clone-in-None-clause-rows c =
    let array = c.args.array.now in
    let unset = c.in_ok-unset-in-None.ensures.ok in
    let copy = c.in_ok-clone-in-None.ensures.cases ∙ unset in
    ap boolean_rows c.truths-in-None.ensures ∙ ((λ i. mask (unset i) (map Boolean (copy i))) ∙ (null_rows c.args.connective array.validity array.values c.len-len.result c.len-len.ensures.rows
    ∙ ap (λ o. map (λ s. slot_by c.args.connective s (scalar_slot Boolean o)) (boolean_rows array)) (sym c.in-None.is)))
