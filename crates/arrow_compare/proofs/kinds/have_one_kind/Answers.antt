use Rattle.std.proofs.Common.{subst}
use Rattle.arrow_types.specs.Physical.{physical_type_of}
use Rattle.arrow_arrays.specs.Any.{any_array_type, kind_of}
use Rattle.arrow_relate.specs.Related.{relation_of}
use Rattle.arrow_compare.specs.Kinds.{KindHasRelation}
use Rattle.arrow_compare.proofs.KindLemmas.{kind_relation, one_kind}
use Rattle.arrow_compare.proofs.kinds.have_one_kind.Goals as goal

pub returns-clause-kinds : goal.returns-clause-kinds
returns-clause-kinds c one =
    one_kind (any_array_type c.args.lhs.now) (any_array_type c.args.rhs.now) (kind_of c.args.lhs.now) (kind_of c.args.rhs.now) one c.data_type.ensures.kind c.data_type-2.ensures.kind

pub returns-clause-has_relation : goal.returns-clause-has_relation
returns-clause-has_relation c has =
    let op = relation_of c.args.by in
    subst (KindHasRelation op) c.data_type.ensures.kind (kind_relation (physical_type_of (any_array_type c.args.lhs.now)) op has)
