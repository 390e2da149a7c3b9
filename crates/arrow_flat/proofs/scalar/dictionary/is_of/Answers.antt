use Rattle.std.proofs.Common.{ap, ◌∙◌}
use Rattle.arrow_types.specs.ArrowType.{logical}
use Rattle.arrow_types.specs.TypeOf.{type_of}
use Rattle.arrow_flat.specs.AnyScalar.{meaning_of}
use Rattle.arrow_flat.proofs.PartsLemmas.{types_decide}
use Rattle.arrow_flat.proofs.scalar.dictionary.is_of.Goals as goal

pub returns-in-Some : goal.returns-in-Some
returns-in-Some c =
    let inner = c.to_logical_type.ensures ∙ ap logical (c.data_type.ensures ∙ ap (λ s. (meaning_of s).0) c.deref.ensures) in
    rw c.in-Some.is (types_decide _ _ (logical (meaning_of c.in-Some.scalar.value).0) (logical (type_of c.args.data_type.now)) c.eq.result c.eq.ensures inner c.to_logical_type-in-Some.ensures)
