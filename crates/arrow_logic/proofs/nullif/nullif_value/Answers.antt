use Rattle.arrow_logic.proofs.Common.{◌≡◌, ◌∙◌, Some, ap, map, sym, IfOk-weaker, nulled, rows_by}
use Rattle.arrow_flat.specs.Scalars.{slot_by}
use Rattle.arrow_logic.proofs.nullif.nullif_value.Goals as goal

pub returns-clause-rows : goal.returns-clause-rows
returns-clause-rows g c =
    let slot = g.T.NativeType.slot in
    let value : Some c.in-Some.value ≡ c.args.rhs.now.value = sym c.in-Some.is ∙ c.value.ensures in
    let rows = c.in_ok-primitive_nullif_scalar.ensures.rows ∙ (λ i. map (λ s. nulled s (slot_by slot (value i))) (rows_by (λ slots. slots) (c.of_any.ensures i))) in
    IfOk-weaker c.to_any.result _ _ (λ any is. ap (rows_by (λ slots. slots)) is ∙ rows) c.to_any.ensures.ok
