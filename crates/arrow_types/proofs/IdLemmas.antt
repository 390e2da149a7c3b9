-- Lists of type ids in which none comes twice.
use Rattle.std.proofs.Common.{◌≡◌, ◌≢◌, ℕ, ◌+◌, ◌<◌, ℤ, true, false, List, length, take, get_or, sym, ◌∙◌, arith, true≢false, length-take, ◌⊎◌, inl, inr}
use Rattle.std.proofs.lemmas.List.{get_or-take}
use Rattle.std.proofs.Math.Nat.{eq-or-lt_of_le}
use Rattle.std.proofs.lemmas.List.Folds.{list_any_at, Any-from_list_any}
use Rattle.std.proofs.lemmas.Bool.Decides.{Decides-int_eq}
use Rattle.std.specs.List.{list_any}
use Rattle.std.specs.Ordering.{int_eq}
use Rattle.arrow_types.specs.Carried.{IsTypeId, AreDistinctIds}

-- an id that the search before it does not find differs from all before it
pub apart : (ids : List ℤ) (i : ℕ) (id : ℤ) → i < length ids → list_any (λ y. int_eq y id) (take i ids) ≡ false → (a : ℕ) (d : ℤ) → a < i → get_or ids a d ≡ id → ⊥
apart ids i id within none a d below same =
    let at : get_or (take i ids) a d ≡ id = get_or-take i ids a d below ∙ same in
    let found = list_any_at (λ y. int_eq y id) (take i ids) a d (omega (arith, length-take i ids)) ((Decides-int_eq (get_or (take i ids) a d) id).1 at) in
    true≢false (sym found ∙ none)

-- an id that it finds comes twice
pub repeated : (ids : List ℤ) (i : ℕ) (id : ℤ) → i < length ids → ((d : ℤ) → get_or ids i d ≡ id) → list_any (λ y. int_eq y id) (take i ids) ≡ true → AreDistinctIds ids → ⊥
repeated ids i id within is some distinct =
    let one = Any-from_list_any (λ y. int_eq y id) (take i ids) some in
    let below : one.0 < i = omega (arith, one.2, length-take i ids) in
    let same : get_or (take i ids) one.0 one.1 ≡ id = one.3 ∙ (Decides-int_eq one.1 id).0 one.4 in
    distinct.0 one.0 i one.1 below within (sym (get_or-take i ids one.0 one.1 below) ∙ (same ∙ sym (is one.1)))

-- the ids before place i, and the one there
pub next_distinct : (ids : List ℤ) (i : ℕ) (id : ℤ) → i < length ids → ((d : ℤ) → get_or ids i d ≡ id) → list_any (λ y. int_eq y id) (take i ids) ≡ false
    → ((a b : ℕ) (d : ℤ) → a < b → b < i → get_or ids a d ≢ get_or ids b d) → (a b : ℕ) (d : ℤ) → a < b → b < i + 1 → get_or ids a d ≢ get_or ids b d
next_distinct ids i id within is none before a b d below next =
    elim (eq-or-lt_of_le {n = b} {m = i} (omega arith)) as (λ (x : (b ≡ i) ⊎ (b < i)). get_or ids a d ≢ get_or ids b d) [ inl here ↦ (λ same. apart ids i id within none a d (omega arith) (same ∙ rw here (is d))) | inr less ↦ before a b d below less ]

pub next_type_id : (ids : List ℤ) (i : ℕ) (id : ℤ) → ((d : ℤ) → get_or ids i d ≡ id) → IsTypeId id → ((k : ℕ) (d : ℤ) → k < i → IsTypeId (get_or ids k d)) → (k : ℕ) (d : ℤ) → k < i + 1 → IsTypeId (get_or ids k d)
next_type_id ids i id is ok before k d next =
    elim (eq-or-lt_of_le {n = k} {m = i} (omega arith)) as (λ (x : (k ≡ i) ⊎ (k < i)). IsTypeId (get_or ids k d)) [ inl here ↦ rw (here, is d) ok | inr less ↦ before k d less ]
