use Rattle.std.proofs.Common.{◌∙◌}
use Rattle.arrow_flat.specs.Laws.{is_value}
use Rattle.arrow_flat.proofs.ScalarLemmas.{valid_scalar}
use Rattle.arrow_flat.proofs.scalar.primitive.PrimitiveScalar.is_valid.Goals as goal

pub returns : goal.returns
returns g c =
    rw (← c.self.view_is) (c.is_some.ensures ∙ valid_scalar g.T.NativeType.slot c.self.inside.value (λ x. is_value _ _ (g.met.T.NativeType.slots x x)))
