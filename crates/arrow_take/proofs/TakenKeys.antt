-- Dictionaries by index: their keys by index, over the same values.
use Rattle.arrow_take.proofs.Common.{◌≡◌, ℕ, Option, Some, None, List, map, get_or, refl, ap, sym, subst, ◌∙◌, slice_get, unwrap_or, All-map, get_or_from_slice_get, slice_get_within, map-map, ArrowType, null, plain, gather, gathered, Slot, Null, null_slot, AreKeys, IsKey, key_in, keys_in, keyed_item, map_fixed}
use Rattle.arrow_take.proofs.IndexLemmas.{by_key, gather-map, row_by}

-- rows by index, where the null slot of the type is null
pub gather_null : (xs : List Slot) (t : ArrowType) → null_slot t ≡ Null → (indices : List Slot) → gather xs indices t ≡ gather xs indices (plain null)
gather_null xs t none indices =
    sym (map_fixed (λ s. s) (gather xs indices t) (λ k d within. refl)) ∙ (gather-map (λ s. s) xs t (plain null) none indices ∙ ap (λ ys. gather ys indices (plain null)) (map_fixed (λ s. s) xs (λ k d within. refl)))

-- the rows of a dictionary by index are those of its keys by index
pub keyed_taken : (xs keys indices : List Slot) (t : ArrowType) → null_slot t ≡ Null → map (keyed_item xs) (keys_in (gather keys indices (plain null))) ≡ gather (map (keyed_item xs) (keys_in keys)) indices t
keyed_taken xs keys indices t none =
    map-map (keyed_item xs) key_in (gather keys indices (plain null)) ∙ (gather-map (λ s. keyed_item xs (key_in s)) keys (plain null) t (sym none) indices ∙ ap (λ rows. gather rows indices t) (sym (map-map (keyed_item xs) key_in keys)))

-- keys by index are keys
key_taken : (count : ℕ) (keys : List Slot) → AreKeys count keys → (key : Option ℕ) → IsKey count (row_by keys (plain null) key)
key_taken count keys all None = tt
key_taken count keys all (Some n) =
    let read : (o : Option Slot) → slice_get keys n ≡ o → IsKey count (unwrap_or o Null) = elim [
      | None ↦ λ is. tt
      | (Some x) ↦ λ is. subst (IsKey count) (get_or_from_slice_get keys n x x is) (all n x (slice_get_within keys n x is))
    ] in
    read (slice_get keys n) refl

pub keys_taken : (count : ℕ) (keys indices : List Slot) → AreKeys count keys → AreKeys count (gather keys indices (plain null))
keys_taken count keys indices all =
    All-map (IsKey count) (gathered keys (plain null)) indices (λ k d within. subst (IsKey count) (sym (by_key keys (plain null) (get_or indices k d))) (key_taken count keys all (key_in (get_or indices k d))))
