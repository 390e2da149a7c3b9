use Rattle.arrow_flat_growable.proofs.Common.{arith, ◌≡◌, ◌+◌, ◌∙◌, ◌++◌, [], ◌∷◌, length, map, take, ap, sym, subst, map-append, take_all, take_more, FitsRows, rows_by, keys_in, BindsAll, BindsKeys, StoresKeys}
use Rattle.arrow_flat_growable.proofs.ResultLemmas.{if_ok}
use Rattle.arrow_flat_growable.proofs.StoredKeyLemmas.{AreStored, stored_at, stored_more, stores_rows}
use Rattle.arrow_flat_growable.proofs.growable.keys.bound.Goals as goal

pub loop-array-preserved : goal.loop-array-preserved
loop-array-preserved g c =
    let slot = g.K.NativeType.slot in
    let arrays = c.args.arrays.now in
    let array = c.array-item.result in
    let i = c.loop-array.array-index in
    let sources = c.loop-array.sources.items in
    let p = c.of_keys-keys.result.now in
    let keys : keys_in (rows_by (map slot) p) ≡ array.now.keys = ap keys_in c.of_keys-keys.ensures ∙ c.keys.ensures.same in
    let values : c.in_ok-clone.field-0 ≡ p.values = c.in_ok-clone.ensures.cases ∙ c.values.ensures in
    let fits : FitsRows p.validity (length (map slot p.values)) = c.validity.ensures.fits in
    let own : StoresKeys (map slot p.values) array.now.keys = subst (StoresKeys (map slot p.values)) keys (stores_rows p.validity (map slot p.values) fits) in
    let stored : StoresKeys (map slot c.in_ok-clone.field-0) array.now.keys = subst (λ xs. StoresKeys (map slot xs) array.now.keys) (sym values) own in
    let next = stored_more (map (map slot) sources) (take i arrays) (map slot c.in_ok-clone.field-0) array c.loop-array.invariant stored in
    let all : map (map slot) c.push.new.self.items ≡ map (map slot) sources ++ map slot c.in_ok-clone.field-0 ∷ [] = ap (map (map slot)) c.in_ok-push.ensures.items ∙ map-append (map slot) sources (c.in_ok-clone.field-0 ∷ []) in
    let so_far : take (i + 1) arrays ≡ take i arrays ++ array ∷ [] = take_more arrays i array c.loop-array-test.true ∙ ap (λ r. take i arrays ++ r ∷ []) (sym c.array-item.is) in
    subst (λ ss. AreStored ss (take (i + 1) arrays)) (sym all) (subst (AreStored (map (map slot) sources ++ map slot c.in_ok-clone.field-0 ∷ [])) (sym so_far) next)

pub returns-clause-bound : goal.returns-clause-bound
returns-clause-bound g c =
    let slot = g.K.NativeType.slot in
    let arrays = c.args.arrays.now in
    let whole = take_all c.loop-array.array-index arrays (omega (arith, c.loop-array-test.false)) in
    let held = stored_at (map (map slot) c.loop-array.sources.items) arrays (subst (AreStored (map (map slot) c.loop-array.sources.items)) whole c.loop-array.invariant) in
    if_ok c.with_capacity-2.result c.with_capacity-2.ensures.ok (λ keys is. subst (λ ss. BindsAll (BindsKeys (map (map slot) ss)) arrays) (sym (ap (λ v. v.0) is)) held)
