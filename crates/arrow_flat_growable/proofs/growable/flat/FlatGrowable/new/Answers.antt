use Rattle.arrow_flat_growable.proofs.Common.{◌≡◌, Bor, map, sym, subst, ◌∙◌, All, IsCarried, type_of, type_of_layout, BindsAll, flat_layout}
use Rattle.arrow_flat_growable.proofs.FlatLemmas.{first_is, sound_empty}
use Rattle.arrow_flat_growable.proofs.growable.flat.FlatGrowable.new.Goals as goal

pub invariant_of-result : goal.invariant_of-result
invariant_of-result g c =
    let same : g.G.GrowableValues.type_in c.index-first.result.now.now ≡ type_of c.in_ok-data_type.data_type = sym (c.in_ok-data_type.ensures.cases ∙ c.data_type.ensures.same) in
    let first = first_is (λ (r : Bor _). flat_layout g.G.GrowableValues.type_in g.G.GrowableValues.bits_in g.G.GrowableValues.stored_in r.now) c.args.arrays.items c.index-first.result.now c.requires.some c.index-first.ensures in
    let one_type = subst (λ t. All (λ l. type_of_layout l ≡ t) (map (λ (r : Bor _). flat_layout g.G.GrowableValues.type_in g.G.GrowableValues.bits_in g.G.GrowableValues.stored_in r.now) c.args.arrays.items)) (first ∙ same) c.requires.one_type in
    sound_empty g.G.GrowableValues.slots g.G.GrowableValues.are_of g.G.GrowableValues.spares (g.G.GrowableValues.binds c.in_ok-values.values) c.in_ok-values.values c.in_ok-validity.validity c.args.arrays.items _ (type_of c.in_ok-data_type.data_type) (subst IsCarried same c.data_type.ensures.carried) one_type (subst (g.G.GrowableValues.are_of c.in_ok-values.values) same c.in_ok-values.ensures.kind) (subst (BindsAll (g.G.GrowableValues.binds c.in_ok-values.values)) c.deref.ensures.value c.in_ok-values.ensures.bound) c.in_ok-values.ensures.empty c.in_ok-validity.ensures.ok g.met.G.GrowableValues.spares_none
