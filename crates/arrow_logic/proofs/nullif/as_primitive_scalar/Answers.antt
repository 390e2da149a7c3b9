use Rattle.arrow_logic.proofs.Common.{subst, physical_type_of, meaning_of, IsPrimitive}
use Rattle.arrow_logic.proofs.LayoutLemmas.{no_keys}
use Rattle.arrow_logic.proofs.nullif.as_primitive_scalar.Goals as goal

pub unreachable-requires-in-Dictionary : goal.unreachable-requires-in-Dictionary
unreachable-requires-in-Dictionary c =
    no_keys c.in-Dictionary.scalar.arrow_type c.data_type-in-Dictionary.ensures.sound.kind (subst (λ s. IsPrimitive (physical_type_of (meaning_of s).0)) c.in-Dictionary.is c.requires)
