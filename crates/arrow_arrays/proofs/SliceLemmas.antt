-- Elements of a list that are changed one by one.
use Rattle.std.proofs.Common.{◌≡◌, ℕ, zero, suc, ◌+◌, ◌<◌, ◌≤◌, List, [], ◌∷◌, ◌++◌, length, map, take, drop, get_or, refl, ap, ◌∙◌, arith, inl, inr}
use lib.ListN.{set}
use Rattle.std.specs.Prelude.{◌⊎◌}
use Rattle.std.specs.List.{All}
use Rattle.std.proofs.Math.Nat.{eq-or-lt_of_le}
use Rattle.std.proofs.Math.Seq.{take-append_seam}
use Rattle.std.proofs.lemmas.List.{length-map, get_or-set_same, get_or-set_other, get_or_default}

-- the elements before one are as a change makes them, by what f says of each
abbrev pub ChangedUpTo : {A B : Type 0} → (A → B) → (B → B) → List A → List A → ℕ → Type 0
ChangedUpTo f change now was i =
    (k : ℕ) (d : _) → k < i → f (get_or now k d) ≡ change (f (get_or was k d))

changed_at : {A B : Type 0} (f : A → B) (change : B → B) (now was : List A) (i : ℕ) (x : A) → i < length now → ChangedUpTo f change now was i → ((d : A) → f x ≡ change (f (get_or was i d))) → (k : ℕ) (d : A) → (k ≡ i) ⊎ (k < i) → f (get_or (set now i x) k d) ≡ change (f (get_or was k d))
changed_at f change now was i x within changed new k d (inl same) =
    rw same (ap f (get_or-set_same now i x d within) ∙ new d)
changed_at f change now was i x within changed new k d (inr before) =
    ap f (get_or-set_other now i k x d (λ same. omega (arith, before, same))) ∙ changed k d before

pub changed_next : {A B : Type 0} (f : A → B) (change : B → B) (now was : List A) (i : ℕ) (x : A) → i < length now → ChangedUpTo f change now was i → ((d : A) → f x ≡ change (f (get_or was i d))) → ChangedUpTo f change (set now i x) was (i + 1)
changed_next f change now was i x within changed new k d before =
    changed_at f change now was i x within changed new k d (eq-or-lt_of_le (omega (arith, before)))

-- one that is read as it was, and changed
pub changed_read : {A B : Type 0} (f : A → B) (change : B → B) (now was : List A) (i : ℕ) (x e : A) → i < length was → get_or now i e ≡ get_or was i e → f x ≡ change (f (get_or now i e)) → (d : A) → f x ≡ change (f (get_or was i d))
changed_read f change now was i x e within same changed d =
    changed ∙ ap (λ y. change (f y)) (same ∙ get_or_default was i e d within)

-- what holds of each holds of one
pub in_map : {A B : Type 0} (f : A → B) (P : B → Type 0) (xs : List A) (k : ℕ) (d : A) → All P (map f xs) → k < length xs → P (f (get_or xs k d))
in_map f P [] k d all within = absurd (omega (arith, within))
in_map f P (x ∷ xs) zero d all within = all 0 (f d) (omega arith)
in_map f P (x ∷ xs) (suc k) d all within =
    in_map f P xs k d (λ j e among. all (suc j) e (omega (arith, among))) (omega (arith, within))

-- as many as there were
pub length_as : {A B : Type 0} (f : A → B) (change : B → B) (new old : List A) → map f new ≡ map change (map f old) → length new ≡ length old
length_as f change new old changed =
    omega (arith, ap length changed, length-map new f, length-map (map f old) change, length-map old f)

-- those behind one are as they were
pub rest_as_was : {A : Type 0} (now was : List A) (i : ℕ) (x : A) → ((k : ℕ) (d : A) → i ≤ k → get_or now k d ≡ get_or was k d) → (k : ℕ) (d : A) → i + 1 ≤ k → get_or (set now i x) k d ≡ get_or was k d
rest_as_was now was i x same k d behind =
    get_or-set_other now i k x d (λ e. omega (arith, behind, e)) ∙ same k d (omega (arith, behind))

pub all_changed : {A B : Type 0} (f : A → B) (change : B → B) (now was : List A) → length now ≡ length was → ChangedUpTo f change now was (length was) → map f now ≡ map change (map f was)
all_changed f change [] [] same changed = refl
all_changed f change [] (y ∷ was) same changed = absurd (omega (arith, same))
all_changed f change (x ∷ now) [] same changed = absurd (omega (arith, same))
all_changed f change (x ∷ now) (y ∷ was) same changed =
    let first = changed 0 x (omega arith) in
    let rest = all_changed f change now was (omega (arith, same)) (λ k d before. changed (suc k) d (omega (arith, before))) in
    λ j. first j ∷ rest j

-- what is written back of a list that was lent whole
pub written : {A : Type 0} (new old : List A) (n : ℕ) → length new ≡ n → take n (new ++ drop (length new) old) ≡ new
written new old n whole = rw (← whole) (take-append_seam new (drop (length new) old))
