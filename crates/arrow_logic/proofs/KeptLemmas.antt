-- What is stored of each row: one row at a time, and as slots.
use Rattle.arrow_logic.proofs.Common.{◌≡◌, ℕ, zero, suc, ◌<◌, Bool, true, false, Option, Some, None, List, [], ◌∷◌, length, map, get_or, if◌then◌else◌, refl, ap, sym, arith, All, get_or-map, length-map, mask, masked, valid_at, Slot, Null, FitsRows, kept, kept_by}

module _ {A B : Type 0} (spare : B) (f : A → B) where
  length-kept_by : (bits : List Bool) (xs : List A) → length bits ≡ length xs → length (kept_by spare f bits xs) ≡ length xs
  length-kept_by [] [] fits = refl
  length-kept_by (b ∷ bits) (x ∷ xs) fits = ap suc (length-kept_by bits xs (omega (arith, fits)))
  length-kept_by bits xs fits = absurd (omega (arith, fits))

  -- one of each row
  pub length-kept : (v : Option (List Bool)) (xs : List A) → FitsRows v (length xs) → length (kept spare f v xs) ≡ length xs
  length-kept None xs fits = length-map xs f
  length-kept (Some bits) xs fits = length-kept_by bits xs fits

  at-kept_by : (bits : List Bool) (xs : List A) (i : ℕ) (d : A) → length bits ≡ length xs → i < length xs → get_or (kept_by spare f bits xs) i spare ≡ (if get_or bits i true then f (get_or xs i d) else spare)
  at-kept_by (b ∷ bits) (x ∷ xs) zero d fits within = refl
  at-kept_by (b ∷ bits) (x ∷ xs) (suc i) d fits within =
      at-kept_by bits xs i d (omega (arith, fits)) (omega (arith, within))
  at-kept_by bits xs i d fits within = absurd (omega (arith, within, fits))

  -- what is kept of row i
  pub at-kept : (v : Option (List Bool)) (xs : List A) (i : ℕ) (d : A) → FitsRows v (length xs) → i < length xs → get_or (kept spare f v xs) i spare ≡ (if valid_at v i then f (get_or xs i d) else spare)
  at-kept None xs i d fits within = get_or-map f xs i d spare within
  at-kept (Some bits) xs i d fits within = at-kept_by bits xs i d fits within

  -- something holds of all that is kept
  pub all-kept : (P : B → Type 0) (Q : A → Type 0) → P spare → ((x : A) → Q x → P (f x)) → (v : Option (List Bool)) (xs : List A) → All Q xs → All P (kept spare f v xs)
  all-kept P Q none each None (x ∷ xs) all = elim [ zero ↦ λ d within. each x (all 0 x (omega arith)) | suc k ↦ λ d within. all-kept P Q none each None xs (λ j e there. all (suc j) e (omega (arith, there))) k d (omega (arith, within)) ]
  all-kept P Q none each (Some (true ∷ bits)) (x ∷ xs) all = elim [ zero ↦ λ d within. each x (all 0 x (omega arith)) | suc k ↦ λ d within. all-kept P Q none each (Some bits) xs (λ j e there. all (suc j) e (omega (arith, there))) k d (omega (arith, within)) ]
  all-kept P Q none each (Some (false ∷ bits)) (x ∷ xs) all = elim [ zero ↦ λ d within. none | suc k ↦ λ d within. all-kept P Q none each (Some bits) xs (λ j e there. all (suc j) e (omega (arith, there))) k d (omega (arith, within)) ]
  all-kept P Q none each v xs all = λ k d within. absurd (omega (arith, within))

  -- ---- as slots: of a row s x the slot h (s x) is stored, as g (f x)
  module _ (g : B → Slot) (s : A → Slot) (h : Slot → Slot) (each : (x : A) → g (f x) ≡ h (s x)) where
    every : (xs : List A) → map g (map f xs) ≡ map h (map s xs)
    every [] = refl
    every (x ∷ xs) = λ i. each x i ∷ every xs i

    rows-kept_by : h Null ≡ Null → (bits : List Bool) (xs : List A) → mask bits (map g (kept_by spare f bits xs)) ≡ map h (mask bits (map s xs))
    rows-kept_by null (true ∷ bits) (x ∷ xs) = λ i. each x i ∷ rows-kept_by null bits xs i
    rows-kept_by null (false ∷ bits) (x ∷ xs) = λ i. sym null i ∷ rows-kept_by null bits xs i
    rows-kept_by _ bits xs = refl

    -- under the validity that is h of each row
    pub rows-kept : h Null ≡ Null → (v : Option (List Bool)) (xs : List A) → masked v (map g (kept spare f v xs)) ≡ map h (masked v (map s xs))
    rows-kept null None xs = every xs
    rows-kept null (Some bits) xs = rows-kept_by null bits xs

    stored-kept_by : h Null ≡ g spare → (bits : List Bool) (xs : List A) → map g (kept_by spare f bits xs) ≡ map h (mask bits (map s xs))
    stored-kept_by null (true ∷ bits) (x ∷ xs) = λ i. each x i ∷ stored-kept_by null bits xs i
    stored-kept_by null (false ∷ bits) (x ∷ xs) = λ i. sym null i ∷ stored-kept_by null bits xs i
    stored-kept_by _ bits xs = refl

    -- and without it, where h of a null is what is kept beneath one
    pub stored-kept : h Null ≡ g spare → (v : Option (List Bool)) (xs : List A) → map g (kept spare f v xs) ≡ map h (masked v (map s xs))
    stored-kept null None xs = every xs
    stored-kept null (Some bits) xs = stored-kept_by null bits xs
