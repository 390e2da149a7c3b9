-- Rows that become null where they equal others, by what is stored and two validities.
use Rattle.arrow_logic.proofs.Common.{◌≡◌, ◌∙◌, ◌&&◌, Bool, true, false, not, Option, None, Some, List, [], ◌∷◌, length, map, if◌then◌else◌, ap, subst, sym, refl, IsTrue, length-map, eq, is_null, nulled, related, same, mask, masked, Slot, Boolean, Null, FitsRows, IsValue, valid_but, within_valid, row_by_row, ◌↔◌}
use Rattle.arrow_logic.proofs.SameLemmas.{same_slots, slot_is_value}

-- ---- one row

turned : (s : Slot) (b : Bool) → (if b then Null else s) ≡ (if not b then s else Null)
turned s true = refl
turned s false = refl

-- of two values, by whether they are equal
pub nulled_values : (s r : Slot) (b : Bool) → IsValue r → same s r ≡ b → nulled s r ≡ (if not b then s else Null)
nulled_values s r b value is =
    ap (λ n. if not n && same s r then Null else s) value ∙ (ap (λ e. if e then Null else s) is ∙ turned s b)

-- a null stays, whatever the other row is
either_null : (b : Bool) → (if b then Null else Null) ≡ Null
either_null true = refl
either_null false = refl

null_stays : (r : Slot) → nulled Null r ≡ Null
null_stays r = either_null (not (is_null r) && same Null r)

-- what each pair of values gives
abbrev pub NullsEqual : {A : Type 0} → (A → Slot) → (A → A → Bool) → Type 0
NullsEqual {A} slot equal = (x y : A) → nulled (slot x) (slot y) ≡ (if not (equal x y) then slot x else Null)

pub nulls_equal : {A : Type 0} (slot : A → Slot) (equal : A → A → Bool) → ((x y : A) → related eq (slot x) (slot y) ≡ Boolean (equal x y)) → ((x y : A) → IsTrue (equal x y) ↔ (x ≡ y)) → NullsEqual slot equal
nulls_equal slot equal answers decides x y =
    nulled_values (slot x) (slot y) (equal x y) (slot_is_value slot equal answers y) (same_slots slot equal answers decides x y)

row : {A : Type 0} (slot : A → Slot) (equal : A → A → Bool) → NullsEqual slot equal → (a b : Bool) (x y : A) → (if a && not (b && equal x y) then slot x else Null) ≡ nulled (if a then slot x else Null) (if b then slot y else Null)
row slot equal gives true true x y = sym (gives x y)
row slot equal gives true false x y = refl
row slot equal gives false true x y = sym (null_stays (slot y))
row slot equal gives false false x y = refl

-- ---- all rows

-- by the rows of another array
pub nulled_rows : {A : Type 0} (slot : A → Slot) (equal : A → A → Bool) → NullsEqual slot equal → (v w : Option (List Bool)) (xs ys : List A) → mask (valid_but v (within_valid w (row_by_row equal xs ys))) (map slot xs) ≡ row_by_row nulled (masked v (map slot xs)) (masked w (map slot ys))
nulled_rows slot equal gives None None (x ∷ xs) (y ∷ ys) =
    λ i. row slot equal gives true true x y i ∷ nulled_rows slot equal gives None None xs ys i
nulled_rows slot equal gives None (Some (b ∷ ws)) (x ∷ xs) (y ∷ ys) =
    λ i. row slot equal gives true b x y i ∷ nulled_rows slot equal gives None (Some ws) xs ys i
nulled_rows slot equal gives (Some (a ∷ vs)) None (x ∷ xs) (y ∷ ys) =
    λ i. row slot equal gives a true x y i ∷ nulled_rows slot equal gives (Some vs) None xs ys i
nulled_rows slot equal gives (Some (a ∷ vs)) (Some (b ∷ ws)) (x ∷ xs) (y ∷ ys) =
    λ i. row slot equal gives a b x y i ∷ nulled_rows slot equal gives (Some vs) (Some ws) xs ys i
nulled_rows slot equal gives v w [] ys = refl
nulled_rows slot equal gives v w xs ys = refl

-- by one value
pub nulled_by_value : {A : Type 0} (slot : A → Slot) (equal : A → A → Bool) → NullsEqual slot equal → (v : Option (List Bool)) (xs : List A) (y : A) → mask (valid_but v (map (λ x. equal x y) xs)) (map slot xs) ≡ map (λ s. nulled s (slot y)) (masked v (map slot xs))
nulled_by_value slot equal gives None (x ∷ xs) y =
    λ i. row slot equal gives true true x y i ∷ nulled_by_value slot equal gives None xs y i
nulled_by_value slot equal gives (Some (a ∷ vs)) (x ∷ xs) y =
    λ i. row slot equal gives a true x y i ∷ nulled_by_value slot equal gives (Some vs) xs y i
nulled_by_value slot equal gives v xs y = refl

-- ---- how many bits there are

-- a validity that is lent has a bit for each value
pub lent_bits : {A : Type 0} (slot : A → Slot) (v : Option (List Bool)) (bits : List Bool) (values stored : List A) → v ≡ Some bits → FitsRows v (length (map slot values)) → length stored ≡ length values → length bits ≡ length stored
lent_bits slot v bits values stored is fits long =
    let many : length bits ≡ length (map slot values) = subst (λ v. FitsRows v (length (map slot values))) is fits in
    many ∙ (length-map values slot ∙ sym long)
