-- Children that a loop lends one by one: what each is then, and that all are bound as before.
use Rattle.arrow_growable.proofs.Common.{arith, ◌≡◌, ◌+◌, ◌<◌, ◌≤◌, ◌⊎◌, inl, inr, ℕ, zero, suc, List, [], ◌∷◌, ◌++◌, length, map, take, get_or, refl, ap, sym, subst, ◌∙◌, set, eq-or-lt_of_le, get_or-map, get_or-set_same, get_or-set_other, get_or_default, length-map, length-set, AnyArray, deepest, type_depth, ChangedUpTo, Grown, grown_of, AreBoundAs, SameBound, AnyGrowable, changed_next, changed_read, in_map, rest_as_was, All}
use Rattle.arrow_growable.proofs.MakeLemmas.{taken_more}
use Rattle.std.proofs.lemmas.Bool.{cases_lt}

-- each is less deep than the deepest
pub deepest_at : (xs : List AnyGrowable) (k : ℕ) (d : AnyGrowable) → k < length xs → suc (type_depth ((grown_of (get_or xs k d)).arrow_type)) ≤ deepest (map (λ g. g.arrow_type) (map grown_of xs))
deepest_at [] k d within = absurd (omega (arith, within))
deepest_at (x ∷ xs) zero d within = omega arith
deepest_at (x ∷ xs) (suc k) d within = omega (arith, deepest_at xs k d (omega (arith, within)))

-- what holds of those before one, and of that one
holds_at : (P : AnyGrowable → Type 0) (now : List AnyGrowable) (i : ℕ) (x : AnyGrowable) → i < length now → ((k : ℕ) (d : AnyGrowable) → k < i → P (get_or now k d)) → P x → (k : ℕ) (d : AnyGrowable) → (k ≡ i) ⊎ (k < i) → P (get_or (set now i x) k d)
holds_at P now i x within before here k d (inl same) =
    subst (λ j. P (get_or (set now i x) j d)) (sym same) (subst P (sym (get_or-set_same now i x d within)) here)
holds_at P now i x within before here k d (inr less) =
    subst P (sym (get_or-set_other now i k x d (λ same. omega (arith, less, same)))) (before k d less)

pub holds_next : (P : AnyGrowable → Type 0) (now : List AnyGrowable) (i : ℕ) (x : AnyGrowable) → i < length now → ((k : ℕ) (d : AnyGrowable) → k < i → P (get_or now k d)) → P x → (k : ℕ) (d : AnyGrowable) → k < i + 1 → P (get_or (set now i x) k d)
holds_next P now i x within before here k d less =
    holds_at P now i x within before here k d (eq-or-lt_of_le (omega (arith, less)))

-- all are bound as before where each is
bound_each : (now was : List AnyGrowable) → length now ≡ length was → ((k : ℕ) (d : AnyGrowable) → k < length was → SameBound (grown_of (get_or was k d)) (grown_of (get_or now k d))) → AreBoundAs (map grown_of was) (map grown_of now)
bound_each [] [] same each = record { same_types = refl; same_sources = refl }
bound_each (x ∷ now) (w ∷ was) same each =
    let first = each 0 w (omega arith) in
    let rest = bound_each now was (omega (arith, same)) (λ k d within. each (suc k) d (omega (arith, within))) in
    record { same_types = λ j. first.same_type j ∷ rest.same_types j; same_sources = λ j. first.same_sources j ∷ rest.same_sources j }
bound_each now was same each = absurd (omega (arith, same))

-- a loop that changes children one by one has come to child i: those before it are changed, the others are as they were
pub record AtChild (change : Grown → Grown) (now was : List AnyGrowable) (i : ℕ) : Type 0 where
  pub types : (g : Grown) → (change g).arrow_type ≡ g.arrow_type
  pub sources : (g : Grown) → (change g).sources ≡ g.sources
  pub same : length now ≡ length was
  pub within : i < length was
  pub rest : (k : ℕ) (d : AnyGrowable) → i ≤ k → get_or now k d ≡ get_or was k d
  pub changed : ChangedUpTo grown_of change now was i

module _ {change : Grown → Grown} {now was : List AnyGrowable} {i : ℕ} (at : AtChild change now was i) where
  -- what all children were, it is
  pub is_as : (P : Grown → Type 0) (e : AnyGrowable) → All P (map grown_of was) → P (grown_of (get_or now i e))
  is_as P e all = subst (λ x. P (grown_of x)) (sym (at.rest i e (omega arith))) (in_map grown_of P was i e all at.within)

  pub less_deep : (e : AnyGrowable) → suc (type_depth ((grown_of (get_or now i e)).arrow_type)) ≤ deepest (map (λ g. g.arrow_type) (map grown_of was))
  less_deep e =
      omega (arith, deepest_at was i e at.within, ap (λ x. type_depth ((grown_of x).arrow_type)) (at.rest i e (omega arith)))

  -- what it is, some child was
  pub some_is : (P : Grown → Type 0) (e : AnyGrowable) → P (grown_of (get_or now i e)) → (f : ℕ) × (f < length (map grown_of was)) × ((d : Grown) → P (get_or (map grown_of was) f d))
  some_is P e here =
      (i, omega (arith, at.within, length-map was grown_of), λ d. subst P (sym (get_or-map grown_of was i e d at.within ∙ ap grown_of (sym (at.rest i e (omega arith))))) here)

  -- once it is changed, the loop goes on to the next
  pub child_changed : (x e : AnyGrowable) → grown_of x ≡ change (grown_of (get_or now i e)) → ((length (set now i x) ≡ length was) × ((k : ℕ) (d : AnyGrowable) → i + 1 ≤ k → get_or (set now i x) k d ≡ get_or was k d)) × ChangedUpTo grown_of change (set now i x) was (i + 1)
  child_changed x e new =
      let read = changed_read grown_of change now was i x e at.within (at.rest i e (omega arith)) new in
      ((length-set now i x ∙ at.same, rest_as_was now was i x at.rest), changed_next grown_of change now was i x (omega (arith, at.within, at.same)) at.changed read)

  -- and where a call on it refused, all are bound as before
  module _ (x e : AnyGrowable) (kept : SameBound (grown_of (get_or now i e)) (grown_of x)) where
    bound_here : (k : ℕ) (d : AnyGrowable) → (i ≡ k) ⊎ (i < k) → SameBound (grown_of (get_or was k d)) (grown_of (get_or (set now i x) k d))
    bound_here k d (inl is) =
        let new : get_or (set now i x) k d ≡ x = ap (λ j. get_or (set now i x) j d) (sym is) ∙ get_or-set_same now i x d (omega (arith, at.within, at.same)) in
        let old : get_or now i e ≡ get_or was k d = at.rest i e (omega arith) ∙ (get_or_default was i e d at.within ∙ ap (λ j. get_or was j d) is) in
        subst {A = AnyGrowable × AnyGrowable} (λ q. SameBound (grown_of q.0) (grown_of q.1)) (λ j. (old j, sym new j)) kept
    bound_here k d (inr behind) =
        let new : get_or (set now i x) k d ≡ get_or was k d = get_or-set_other now i k x d (λ is. omega (arith, behind, is)) ∙ at.rest k d (omega (arith, behind)) in
        record { same_type = ap (λ y. (grown_of y).arrow_type) new; same_sources = ap (λ y. (grown_of y).sources) new }

    bound_at : (k : ℕ) (d : AnyGrowable) → (k < i) ⊎ (i ≤ k) → SameBound (grown_of (get_or was k d)) (grown_of (get_or (set now i x) k d))
    bound_at k d (inl before) =
        let new : grown_of (get_or (set now i x) k d) ≡ change (grown_of (get_or was k d)) = ap grown_of (get_or-set_other now i k x d (λ is. omega (arith, before, is))) ∙ at.changed k d before in
        record { same_type = ap (λ g. g.arrow_type) new ∙ at.types (grown_of (get_or was k d)); same_sources = ap (λ g. g.sources) new ∙ at.sources (grown_of (get_or was k d)) }
    bound_at k d (inr behind) = bound_here k d (eq-or-lt_of_le behind)

    pub bound_after : AreBoundAs (map grown_of was) (map grown_of (set now i x))
    bound_after =
        bound_each (set now i x) was (length-set now i x ∙ at.same) (λ k d among. bound_at k d (cases_lt k i))

-- as many as before
pub as_many_items : (was now : List AnyGrowable) → AreBoundAs (map grown_of was) (map grown_of now) → length now ≡ length was
as_many_items was now kept =
    omega (arith, length-map now grown_of, length-map was grown_of, length-map (map grown_of now) (λ (g : Grown). g.arrow_type), length-map (map grown_of was) (λ (g : Grown). g.arrow_type), ap length kept.same_types)

-- the arrays of one child more
pub taken_next : {B : Type 0} (f : Grown → B) (h : AnyArray → B) (was : List AnyGrowable) (done : List AnyArray) (a : AnyArray) (i : ℕ) (e : AnyGrowable) → i < length was → h a ≡ f (grown_of (get_or was i e)) → map h done ≡ map f (take i (map grown_of was)) → map h (done ++ a ∷ []) ≡ map f (take (i + 1) (map grown_of was))
taken_next f h was done a i e within new so_far =
    let read : get_or (map grown_of was) i (grown_of (get_or was i e)) ≡ grown_of (get_or was i e) = get_or-map grown_of was i e _ within in
    taken_more h f done (map grown_of was) a (grown_of (get_or was i e)) i (omega (arith, within, length-map was grown_of)) (sym read) new so_far
