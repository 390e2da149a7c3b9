use Rattle.std.proofs.Common.{◌≡◌, subst, sym}
use Rattle.arrow_types.specs.Physical.{physical_type_of}
use Rattle.arrow_flat.specs.AnyScalar.{meaning_of}
use Rattle.arrow_arrays.specs.Any.{kind_in}
use Rattle.arrow_compare.specs.Kinds.{scalar_kind}
use Rattle.arrow_compare.proofs.KindLemmas.{dictionary_lies}
use Rattle.arrow_compare.proofs.kinds.scalar_has_kind.Goals as goal

pub returns-in-Dictionary : goal.returns-in-Dictionary
returns-in-Dictionary c =
    subst (λ scalar. kind_in (physical_type_of (meaning_of scalar).0) ≡ scalar_kind scalar) (sym c.in-Dictionary.is) (dictionary_lies c.in-Dictionary.scalar.arrow_type c.data_type-in-Dictionary.ensures.sound.kind)
