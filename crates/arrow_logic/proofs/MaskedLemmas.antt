-- Truth values under a validity: what a function of each row gives, and validities as bits.
use Rattle.arrow_logic.proofs.Common.{◌≡◌, ℕ, suc, ◌||◌, Bool, true, false, Option, Some, None, List, [], ◌∷◌, length, map, replicate, refl, ap, sym, ◌∙◌, length-map, length-replicate, mask, masked, Slot, Null, Boolean, both_bits, either_bits, length-paired, FitsRows, known_side, AreOneLength, combined, map-masked}

-- ---- a function of each row

-- where it gives the same of each truth value and of Null
pub map-constant : (f : Slot → Slot) (c : Slot) → ((x : Bool) → f (Boolean x) ≡ c) → (xs : List Bool) → map f (map Boolean xs) ≡ replicate (length xs) c
map-constant f c each [] = refl
map-constant f c each (x ∷ xs) = λ i. each x i ∷ map-constant f c each xs i

mask-constant : (f : Slot → Slot) (c : Slot) → ((x : Bool) → f (Boolean x) ≡ c) → f Null ≡ c → (bits xs : List Bool) → map f (mask bits (map Boolean xs)) ≡ replicate (length (mask bits (map Boolean xs))) c
mask-constant f c each none (true ∷ bits) (x ∷ xs) = λ i. each x i ∷ mask-constant f c each none bits xs i
mask-constant f c each none (false ∷ bits) (x ∷ xs) = λ i. none i ∷ mask-constant f c each none bits xs i
mask-constant f c each none bits xs = refl

pub masked-constant : (f : Slot → Slot) (c : Slot) → ((x : Bool) → f (Boolean x) ≡ c) → f Null ≡ c → (v : Option (List Bool)) (xs : List Bool) → map f (masked v (map Boolean xs)) ≡ replicate (length (masked v (map Boolean xs))) c
masked-constant f c each none None xs = map-constant f c each xs ∙ ap (λ n. replicate n c) (sym (length-map xs Boolean))
masked-constant f c each none (Some bits) xs = mask-constant f c each none bits xs

-- where it changes no truth value and not Null
map-same : (f : Slot → Slot) → ((x : Bool) → f (Boolean x) ≡ Boolean x) → (xs : List Bool) → map f (map Boolean xs) ≡ map Boolean xs
map-same f each [] = refl
map-same f each (x ∷ xs) = λ i. each x i ∷ map-same f each xs i

pub masked-same : (f : Slot → Slot) → ((x : Bool) → f (Boolean x) ≡ Boolean x) → f Null ≡ Null → (v : Option (List Bool)) (xs : List Bool) → map f (masked v (map Boolean xs)) ≡ masked v (map Boolean xs)
masked-same f each none v xs = map-masked f none v (map Boolean xs) ∙ ap (masked v) (map-same f each xs)

pub replicate-of : {A B : Type 0} (f : A → B) (n : ℕ) (x : A) → map f (replicate n x) ≡ replicate n (f x)
replicate-of f ℕ.zero x = refl
replicate-of f (suc n) x = ap (λ ys. f x ∷ ys) (replicate-of f n x)

-- rows of which none is valid
pub none-valid : (n : ℕ) → mask (replicate n false) (map Boolean (replicate n false)) ≡ replicate n Null
none-valid ℕ.zero = refl
none-valid (suc n) = ap (λ ys. Null ∷ ys) (none-valid n)

-- ---- a validity as bits: as many set ones where it is absent

abbrev pub bits_of : Option (List Bool) → ℕ → List Bool
bits_of None n = replicate n true
bits_of (Some bits) n = bits

all-valid : (xs : List Bool) → mask (replicate (length xs) true) (map Boolean xs) ≡ map Boolean xs
all-valid [] = refl
all-valid (x ∷ xs) = ap (λ ys. Boolean x ∷ ys) (all-valid xs)

pub masked-by_bits : (v : Option (List Bool)) (xs : List Bool) → masked v (map Boolean xs) ≡ mask (bits_of v (length xs)) (map Boolean xs)
masked-by_bits None xs = sym (all-valid xs)
masked-by_bits (Some bits) xs = refl

pub length-bits_of : (v : Option (List Bool)) (n : ℕ) → FitsRows v n → length (bits_of v n) ≡ n
length-bits_of None n fits = length-replicate n true
length-bits_of (Some bits) n fits = fits

-- two of them together
ones-both : (n : ℕ) → replicate n true ≡ both_bits (replicate n true) (replicate n true)
ones-both ℕ.zero = refl
ones-both (suc n) = ap (λ bs. true ∷ bs) (ones-both n)

ones-left : (bits : List Bool) → bits ≡ both_bits (replicate (length bits) true) bits
ones-left [] = refl
ones-left (b ∷ bits) = ap (λ bs. b ∷ bs) (ones-left bits)

ones-right : (bits : List Bool) → bits ≡ both_bits bits (replicate (length bits) true)
ones-right [] = refl
ones-right (true ∷ bits) = ap (λ bs. true ∷ bs) (ones-right bits)
ones-right (false ∷ bits) = ap (λ bs. false ∷ bs) (ones-right bits)

pub bits_of-combined : (v w : Option (List Bool)) (n : ℕ) → FitsRows v n → FitsRows w n → bits_of (combined v w) n ≡ both_bits (bits_of v n) (bits_of w n)
bits_of-combined None None n fits other = ones-both n
bits_of-combined None (Some ws) n fits other = ones-left ws ∙ ap (λ k. both_bits (replicate k true) ws) other
bits_of-combined (Some vs) None n fits other = ones-right vs ∙ ap (λ k. both_bits vs (replicate k true)) fits
bits_of-combined (Some vs) (Some ws) n fits other = refl

-- one with the rows at which the other side decides
ones-either : (bits : List Bool) → replicate (length bits) true ≡ either_bits (replicate (length bits) true) bits
ones-either [] = refl
ones-either (b ∷ bits) = ap (λ bs. true ∷ bs) (ones-either bits)

pub bits_of-known_side : (v : Option (List Bool)) (deciding : List Bool) (n : ℕ) → length deciding ≡ n → bits_of (known_side v deciding) n ≡ either_bits (bits_of v n) deciding
bits_of-known_side None deciding n long = (λ i. replicate (sym long i) true) ∙ (ones-either deciding ∙ (λ i. either_bits (replicate (long i) true) deciding))
bits_of-known_side (Some bits) deciding n long = refl

pub fits_known_side : (v : Option (List Bool)) (deciding : List Bool) (n : ℕ) → FitsRows v n → length deciding ≡ n → FitsRows (known_side v deciding) n
fits_known_side None deciding n fits long = tt
fits_known_side (Some bits) deciding n fits long = length-paired (λ x y. x || y) bits deciding (fits ∙ sym long) ∙ fits

-- two that fit as many rows
pub one_length : (v w : Option (List Bool)) (n : ℕ) → FitsRows v n → FitsRows w n → AreOneLength v w
one_length (Some vs) (Some ws) n fits other = fits ∙ sym other
one_length v w n fits other = tt
