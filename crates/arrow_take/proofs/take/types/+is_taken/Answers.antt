use Rattle.arrow_take.proofs.Common.{arith, ap, type_in, field_of, type_depth}
use Rattle.arrow_take.proofs.TakenTypes.{field_below}
use Rattle.arrow_take.proofs.take.types.+is_taken.Goals as goal

pub are_taken-is_taken-requires : goal.are_taken-is_taken-requires
are_taken-is_taken-requires t c =
    omega (arith, c.decreases, ap type_depth c.data_type.ensures, ap (λ f. type_depth (type_in (field_of f))) c.field-item.is, field_below c.args.fields.now c.loop-field.field-index c.field-item.result c.loop-field-test.true)
