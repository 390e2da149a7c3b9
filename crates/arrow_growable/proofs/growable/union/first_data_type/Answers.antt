use Rattle.arrow_growable.proofs.Common.{Bor, sym, subst, ◌∙◌, union_layout, IsCarriedAs, first_is}
use Rattle.arrow_types.specs.declared.datatypes.physical_type.PhysicalType.TheVariants as physical
use Rattle.arrow_growable.proofs.UnionLoopLemmas.{union_type}
use Rattle.arrow_growable.proofs.UnionMakeLemmas.{type_of_unions}
use Rattle.arrow_growable.proofs.growable.union.first_data_type.Goals as goal

pub returns-clause-same : goal.returns-clause-same
returns-clause-same c =
    let first = first_is (λ (r : Bor _). union_layout r.now) c.args.arrays.now c.index-arrays-0.result c.requires c.index-arrays-0.is in
    c.data_type.ensures.same ∙ sym (first ∙ union_type c.index-arrays-0.result.now)

pub returns-clause-kind : goal.returns-clause-kind
returns-clause-kind c =
    let first = first_is (λ (r : Bor _). union_layout r.now) c.args.arrays.now c.index-arrays-0.result c.requires c.index-arrays-0.is in
    subst (IsCarriedAs physical.Union) (sym (first ∙ union_type c.index-arrays-0.result.now)) (c.data_type.ensures.carried, type_of_unions _ c.data_type.ensures.kind)
