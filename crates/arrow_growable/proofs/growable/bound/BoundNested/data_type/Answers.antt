use Rattle.arrow_growable.proofs.Common.{◌≡◌, Bor, map, subst, IsCarried, physical_type_of, fixed_size_list_kind, kind_in, list_kind, map_kind, struct_kind, fixed_list_layout, list_layout, struct_layout, first_type}
use Rattle.arrow_growable.proofs.KindLemmas.{nested_of}
use Rattle.arrow_growable.proofs.growable.bound.BoundNested.data_type.Goals as goal

pub returns-in-Lists-clause-carried : goal.returns-in-Lists-clause-carried
returns-in-Lists-clause-carried c =
    rw c.in-Lists.is (subst (λ xs. IsCarried (first_type (map (λ (r : Bor _). list_layout r.now) xs))) c.deref.ensures.value c.first_data_type.ensures.carried)

pub returns-in-Lists-clause-nested : goal.returns-in-Lists-clause-nested
returns-in-Lists-clause-nested c =
    rw c.in-Lists.is (nested_of _ (subst (λ xs. kind_in (physical_type_of (first_type (map (λ (r : Bor _). list_layout r.now) xs))) ≡ list_kind) c.deref.ensures.value c.first_data_type.ensures.kind) tt)

pub returns-in-FixedSizeLists-clause-carried : goal.returns-in-FixedSizeLists-clause-carried
returns-in-FixedSizeLists-clause-carried c =
    rw c.in-FixedSizeLists.is (subst (λ xs. IsCarried (first_type (map (λ (r : Bor _). fixed_list_layout r.now) xs))) c.deref-in-FixedSizeLists.ensures.value c.first_data_type-in-FixedSizeLists.ensures.carried)

pub returns-in-FixedSizeLists-clause-nested : goal.returns-in-FixedSizeLists-clause-nested
returns-in-FixedSizeLists-clause-nested c =
    rw c.in-FixedSizeLists.is (nested_of _ (subst (λ xs. kind_in (physical_type_of (first_type (map (λ (r : Bor _). fixed_list_layout r.now) xs))) ≡ fixed_size_list_kind) c.deref-in-FixedSizeLists.ensures.value c.first_data_type-in-FixedSizeLists.ensures.kind) tt)

pub returns-in-Maps-clause-carried : goal.returns-in-Maps-clause-carried
returns-in-Maps-clause-carried c =
    rw c.in-Maps.is (subst (λ xs. IsCarried (first_type (map (λ (r : Bor _). list_layout r.now) xs))) c.deref-in-Maps.ensures.value c.first_data_type-in-Maps.ensures.carried)

pub returns-in-Maps-clause-nested : goal.returns-in-Maps-clause-nested
returns-in-Maps-clause-nested c =
    rw c.in-Maps.is (nested_of _ (subst (λ xs. kind_in (physical_type_of (first_type (map (λ (r : Bor _). list_layout r.now) xs))) ≡ map_kind) c.deref-in-Maps.ensures.value c.first_data_type-in-Maps.ensures.kind) tt)

pub returns-in-Structs-clause-nested : goal.returns-in-Structs-clause-nested
returns-in-Structs-clause-nested c =
    rw c.in-Structs.is (nested_of _ (subst (λ xs. kind_in (physical_type_of (first_type (map (λ (r : Bor _). struct_layout r.now) xs))) ≡ struct_kind) c.deref-in-Structs.ensures.value c.first_data_type-in-Structs.ensures.kind) tt)
