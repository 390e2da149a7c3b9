use Rattle.arrow_types.specs.Relation.{related}
use Rattle.arrow_flat.specs.AnyScalar.{meaning_of}
use Rattle.arrow_relate.specs.Related.{relation_of}
use Rattle.arrow_compare.specs.Kinds.{scalar_kind}
use Rattle.arrow_compare.proofs.KindLemmas.{own_kind}
use Rattle.arrow_compare.proofs.ThroughLemmas.{own_rows}
use Rattle.arrow_compare.proofs.comparison.scalars.relate_rows.Goals as goal

pub relate_flat-requires-clause-one_kind : goal.relate_flat-requires-clause-one_kind
relate_flat-requires-clause-one_kind c =
    rw c.requires.one_kind (own_kind c.args.lhs.now c.data_type.ensures.kind c.in_default.not-Dictionary)

pub returns-in_default : goal.returns-in_default
returns-in_default c =
    let op = relation_of c.args.by in
    rw (own_rows c.args.lhs.now c.data_type.ensures.kind c.in_default.not-Dictionary (scalar_kind c.args.value.now) c.requires.one_kind op c.requires.has_relation (λ s. related op s (meaning_of c.args.value.now).1)) c.relate_flat.ensures
