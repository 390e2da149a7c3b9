use Rattle.arrow_growable.proofs.Common.{Bor, map, subst, fixed_list_layout, list_layout, struct_layout, source_at, Lies}
use Rattle.arrow_growable.proofs.growable.bound.BoundNested.spans.Goals as goal

pub returns-in-Lists : goal.returns-in-Lists
returns-in-Lists c =
    rw c.in-Lists.is (subst (λ xs. Lies c.spans.result (source_at (map (λ (r : Bor _). list_layout r.now) xs) c.args.index)) c.deref.ensures.value (subst (Lies c.spans.result) c.at.ensures c.spans.ensures))

pub returns-in-FixedSizeLists : goal.returns-in-FixedSizeLists
returns-in-FixedSizeLists c =
    rw c.in-FixedSizeLists.is (subst (λ xs. Lies c.spans-in-FixedSizeLists.result (source_at (map (λ (r : Bor _). fixed_list_layout r.now) xs) c.args.index)) c.deref-in-FixedSizeLists.ensures.value (subst (Lies c.spans-in-FixedSizeLists.result) c.at-in-FixedSizeLists.ensures c.spans-in-FixedSizeLists.ensures))

pub returns-in-Maps : goal.returns-in-Maps
returns-in-Maps c =
    rw c.in-Maps.is (subst (λ xs. Lies c.spans-in-Maps.result (source_at (map (λ (r : Bor _). list_layout r.now) xs) c.args.index)) c.deref-in-Maps.ensures.value (subst (Lies c.spans-in-Maps.result) c.at-in-Maps.ensures c.spans-in-Maps.ensures))

pub returns-in-Structs : goal.returns-in-Structs
returns-in-Structs c =
    rw c.in-Structs.is (subst (λ xs. Lies c.spans-in-Structs.result (source_at (map (λ (r : Bor _). struct_layout r.now) xs) c.args.index)) c.deref-in-Structs.ensures.value (subst (Lies c.spans-in-Structs.result) c.at-in-Structs.ensures c.spans-in-Structs.ensures))
