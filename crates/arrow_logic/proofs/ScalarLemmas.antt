-- What a connective makes of rows and a scalar.
use Rattle.arrow_logic.proofs.Common.{◌≡◌, ℕ, Bool, true, false, not, Option, Some, None, List, [], ◌∷◌, length, map, replicate, if◌then◌else◌, refl, ap, sym, ◌∙◌, map-map, negated, mask, masked, Slot, Null, Boolean, slot_by, kleene_by, decider, decides, Connective, And, Or, map-masked}
use Rattle.arrow_logic.proofs.MaskedLemmas.{map-constant, masked-constant, masked-same, replicate-of, none-valid}

-- one row and a truth value, or null

by_decider : (op : Connective) (x : Bool) → slot_by op (Boolean x) (Boolean (decider op)) ≡ Boolean (decider op)
by_decider And true = refl
by_decider And false = refl
by_decider Or true = refl
by_decider Or false = refl

by_other : (op : Connective) (x : Bool) → slot_by op (Boolean x) (Boolean (not (decider op))) ≡ Boolean x
by_other And true = refl
by_other And false = refl
by_other Or true = refl
by_other Or false = refl

null_by : (op : Connective) (s : Slot) → slot_by op Null s ≡ Null
null_by And s = refl
null_by Or s = refl

by_null : (op : Connective) (x : Bool) → slot_by op (Boolean x) Null ≡ Null
by_null And x = refl
by_null Or x = refl

kleene_by_decider : (op : Connective) (x : Bool) → kleene_by op (Boolean x) (Boolean (decider op)) ≡ Boolean (decider op)
kleene_by_decider And true = refl
kleene_by_decider And false = refl
kleene_by_decider Or true = refl
kleene_by_decider Or false = refl

kleene_null_by_decider : (op : Connective) → kleene_by op Null (Boolean (decider op)) ≡ Boolean (decider op)
kleene_null_by_decider And = refl
kleene_null_by_decider Or = refl

kleene_by_other : (op : Connective) (x : Bool) → kleene_by op (Boolean x) (Boolean (not (decider op))) ≡ Boolean x
kleene_by_other And true = refl
kleene_by_other And false = refl
kleene_by_other Or true = refl
kleene_by_other Or false = refl

kleene_null_by_other : (op : Connective) → kleene_by op Null (Boolean (not (decider op))) ≡ Null
kleene_null_by_other And = refl
kleene_null_by_other Or = refl

-- ---- all rows

-- rows that are turned
pub turned_rows : (v : Option (List Bool)) (xs : List Bool) → masked v (map Boolean (map not xs)) ≡ map negated (masked v (map Boolean xs))
turned_rows v xs =
    sym (map-masked negated refl v (map Boolean xs) ∙ ap (masked v) (map-map negated Boolean xs ∙ sym (map-map Boolean not xs)))

-- with the truth value that decides
pub decided_rows : (op : Connective) (v : Option (List Bool)) (xs : List Bool) (value : Bool) → value ≡ decider op → masked v (map Boolean (replicate (length xs) value)) ≡ map (λ s. slot_by op s (Boolean value)) (masked v (map Boolean xs))
decided_rows op v xs value is =
    let d = decider op in
    let stored = replicate-of Boolean (length xs) d ∙ sym (map-constant (λ s. slot_by op s (Boolean d)) (Boolean d) (by_decider op) xs) in
    let rows : masked v (map Boolean (replicate (length xs) d)) ≡ map (λ s. slot_by op s (Boolean d)) (masked v (map Boolean xs)) = ap (masked v) stored ∙ sym (map-masked (λ s. slot_by op s (Boolean d)) (null_by op (Boolean d)) v (map Boolean xs)) in
    rw is rows

-- with the other one
not_decider : (op : Connective) (value : Bool) → (value ≡ decider op → ⊥) → value ≡ not (decider op)
not_decider And true other = refl
not_decider And false other = absurd (other refl)
not_decider Or true other = absurd (other refl)
not_decider Or false other = refl

pub kept_rows : (op : Connective) (v : Option (List Bool)) (xs : List Bool) (value : Bool) → (value ≡ decider op → ⊥) → masked v (map Boolean xs) ≡ map (λ s. slot_by op s (Boolean value)) (masked v (map Boolean xs))
kept_rows op v xs value other =
    let d = not (decider op) in
    rw (not_decider op value other) (sym (masked-same (λ s. slot_by op s (Boolean d)) (by_other op) (null_by op (Boolean d)) v xs))

-- with a null
pub null_rows : (op : Connective) (v : Option (List Bool)) (xs : List Bool) (n : ℕ) → n ≡ length (masked v (map Boolean xs)) → mask (replicate n false) (map Boolean (replicate n false)) ≡ map (λ s. slot_by op s Null) (masked v (map Boolean xs))
null_rows op v xs n long =
    none-valid n ∙ (ap (λ k. replicate k Null) long ∙ sym (masked-constant (λ s. slot_by op s Null) Null (by_null op) (null_by op Null) v xs))

-- the same in Kleene's logic
pub kleene_decided_rows : (op : Connective) (v : Option (List Bool)) (xs : List Bool) (value : Bool) (n : ℕ) → value ≡ decider op → n ≡ length (masked v (map Boolean xs)) → map Boolean (replicate n value) ≡ map (λ s. kleene_by op s (Boolean value)) (masked v (map Boolean xs))
kleene_decided_rows op v xs value n is long =
    let d = decider op in
    rw is (replicate-of Boolean n d ∙ (ap (λ k. replicate k (Boolean d)) long ∙ sym (masked-constant (λ s. kleene_by op s (Boolean d)) (Boolean d) (kleene_by_decider op) (kleene_null_by_decider op) v xs)))

pub kleene_kept_rows : (op : Connective) (v : Option (List Bool)) (xs : List Bool) (value : Bool) → (value ≡ decider op → ⊥) → masked v (map Boolean xs) ≡ map (λ s. kleene_by op s (Boolean value)) (masked v (map Boolean xs))
kleene_kept_rows op v xs value other =
    let d = not (decider op) in
    rw (not_decider op value other) (sym (masked-same (λ s. kleene_by op s (Boolean d)) (kleene_by_other op) (kleene_null_by_other op) v xs))

-- with a null only what decides is known
known_by_null : (op : Connective) (x : Bool) → (if decides op (Boolean x) then Boolean x else Null) ≡ kleene_by op (Boolean x) Null
known_by_null And true = refl
known_by_null And false = refl
known_by_null Or true = refl
known_by_null Or false = refl

null_decides_not : (op : Connective) → decides op Null ≡ false
null_decides_not And = refl
null_decides_not Or = refl

kleene_null_by_null : (op : Connective) → Null ≡ kleene_by op Null Null
kleene_null_by_null And = refl
kleene_null_by_null Or = refl

null_row : (op : Connective) (x : Bool) → (if decides op Null then Boolean x else Null) ≡ kleene_by op Null Null
null_row op x = ap (λ b. if b then Boolean x else Null) (null_decides_not op) ∙ kleene_null_by_null op

pub kleene_null_rows : (op : Connective) (v : Option (List Bool)) (xs : List Bool) → mask (map (decides op) (masked v (map Boolean xs))) (map Boolean xs) ≡ map (λ s. kleene_by op s Null) (masked v (map Boolean xs))
kleene_null_rows op None [] = refl
kleene_null_rows op None (x ∷ xs) = λ i. known_by_null op x i ∷ kleene_null_rows op None xs i
kleene_null_rows op (Some []) xs = refl
kleene_null_rows op (Some (b ∷ bits)) [] = refl
kleene_null_rows op (Some (true ∷ bits)) (x ∷ xs) = λ i. known_by_null op x i ∷ kleene_null_rows op (Some bits) xs i
kleene_null_rows op (Some (false ∷ bits)) (x ∷ xs) = λ i. null_row op x i ∷ kleene_null_rows op (Some bits) xs i
