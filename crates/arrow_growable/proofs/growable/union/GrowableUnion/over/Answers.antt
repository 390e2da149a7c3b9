use Rattle.arrow_growable.proofs.Common.{rules, ◌≡◌, Some, false, Bor, map, ap, subst, ◌∙◌, type_of, IsCarriedAs, union_layout, first_type, grown_of, no_offsets, offsets_in}
use Rattle.arrow_types.specs.declared.datatypes.physical_type.PhysicalType.TheVariants as physical
use Rattle.arrow_growable.proofs.UnionMakeLemmas.{made_union, no_variants}
use Rattle.arrow_growable.proofs.growable.union.GrowableUnion.over.Goals as goal

pub invariant_of-result : goal.invariant_of-result
invariant_of-result c =
    let layouts = map (λ (r : Bor _). union_layout r.now) c.args.arrays.items in
    let t = type_of c.in_ok-data_type.data_type in
    let lent = ap (map (λ (r : Bor _). union_layout r.now)) c.deref.ensures.value in
    let copied : t ≡ type_of c.first_data_type.result.now = search rules in
    let kind = subst (λ ls. IsCarriedAs physical.Union (first_type ls)) lent c.first_data_type.ensures.kind in
    made_union layouts t _ _ _ (copied ∙ (c.first_data_type.ensures.same ∙ ap first_type lent)) kind c.requires.one_type c.requires.children c.requires.types c.in_ok-types.ensures.items (c.in_ok-offsets.ensures.ok ∙ ap no_offsets c.mode.ensures)

pub returns-clause-ok : goal.returns-clause-ok
returns-clause-ok c =
    let layouts = map (λ (r : Bor _). union_layout r.now) c.args.arrays.items in
    let t = type_of c.in_ok-data_type.data_type in
    let lent = ap (map (λ (r : Bor _). union_layout r.now)) c.deref.ensures.value in
    let copied : t ≡ type_of c.first_data_type.result.now = search rules in
    let same = copied ∙ (c.first_data_type.ensures.same ∙ ap first_type lent) in
    λ j. record { arrow_type = same j; sources = Some layouts; rows = no_variants t c.in_ok-types.types.items (offsets_in c.in_ok-offsets.offsets) (map grown_of c.args.children.items) c.in_ok-types.ensures.items j; count = 0; failed = false }
