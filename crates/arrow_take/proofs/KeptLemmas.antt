-- What a mask keeps of a list: behind one row more, under a validity, and of places that indices name.
use Rattle.arrow_take.proofs.Common.{arith, ◌≡◌, ◌+◌, ◌<◌, ◌≤◌, ℕ, zero, suc, ℤ, Bool, true, false, Some, None, Option, List, [], ◌∷◌, ◌++◌, length, map, get_or, set, take, if◌then◌else◌, refl, ap, sym, subst, ◌∙◌, bool_byte, cond, option_map, All, int_eq, append-nil, take-set, take_more_set, All-cons, All-nil, ArrowType, dense_part, gathered, mask, masked, Slot, Null, Variant, FitsRows, kept}

-- the row more that is kept, if it is
abbrev pub one_kept : {A : Type 0} → Bool → A → List A
one_kept is_kept x = if is_kept then x ∷ [] else []

front : {A : Type 0} (b : Bool) (x : A) (xs ys : List A) → (if b then x ∷ (xs ++ ys) else (xs ++ ys)) ≡ (if b then x ∷ xs else xs) ++ ys
front true x xs ys = refl
front false x xs ys = refl

pub kept-more : {A : Type 0} (bits : List Bool) (xs : List A) (i : ℕ) (b : Bool) (x : A) → i < length bits → i < length xs → get_or bits i b ≡ b → get_or xs i x ≡ x → kept (take (i + 1) bits) (take (i + 1) xs) ≡ kept (take i bits) (take i xs) ++ one_kept b x
kept-more (c ∷ bits) (y ∷ xs) zero b x low high bit is =
    λ j. if bit j then is j ∷ [] else []
kept-more (c ∷ bits) (y ∷ xs) (suc i) b x low high bit is =
    let next = kept-more bits xs i b x (omega (arith, low)) (omega (arith, high)) bit is in
    let at : suc i + 1 ≡ suc (i + 1) = omega arith in
    ap (λ n. kept (take n (c ∷ bits)) (take n (y ∷ xs))) at ∙ (ap (λ zs. if c then y ∷ zs else zs) next ∙ front c y (kept (take i bits) (take i xs)) (one_kept b x))
kept-more bits xs i b x low high bit is = absurd (omega (arith, low, high))

-- a bit as a number
pub byte_of : (b : Bool) → bool_byte b ≡ cond b 1 0
byte_of true = refl
byte_of false = refl

-- a value that is written, and counted where it is kept
pub kept_written : {A : Type 0} (b : Bool) (own done : List A) (count : ℕ) (x : A) → count < length own → take count own ≡ done → take (count + cond b 1 0) (set own count x) ≡ done ++ one_kept b x
kept_written true own done count x room so_far =
    take_more_set own count x room ∙ ap (λ zs. zs ++ x ∷ []) so_far
kept_written false own done count x room so_far =
    let at : count + 0 ≡ count = omega arith in
    ap (λ n. take n (set own count x)) at ∙ (take-set own count x ∙ (so_far ∙ sym (append-nil done)))

pub one_more : (b : Bool) → cond b 1 0 ≤ 1
one_more true = omega arith
one_more false = omega arith

pub kept-map : {A B : Type 0} (f : A → B) (bits : List Bool) (xs : List A) → map f (kept bits xs) ≡ kept bits (map f xs)
kept-map f (true ∷ bits) (x ∷ xs) = ap (λ ys. f x ∷ ys) (kept-map f bits xs)
kept-map f (false ∷ bits) (x ∷ xs) = kept-map f bits xs
kept-map f bits xs = refl

kept_as_many : {A B : Type 0} (bits : List Bool) (xs : List A) (ys : List B) → length xs ≡ length ys → length (kept bits xs) ≡ length (kept bits ys)
kept_as_many (b ∷ bits) [] (y ∷ ys) same = absurd (omega (arith, same))
kept_as_many (b ∷ bits) (x ∷ xs) [] same = absurd (omega (arith, same))
kept_as_many (true ∷ bits) (x ∷ xs) (y ∷ ys) same =
    ap suc (kept_as_many bits xs ys (omega (arith, same)))
kept_as_many (false ∷ bits) (x ∷ xs) (y ∷ ys) same = kept_as_many bits xs ys (omega (arith, same))
kept_as_many bits xs ys same = refl

-- rows that are kept under a validity have what is kept of it
kept-mask : (bits v : List Bool) (xs : List Slot) → length v ≡ length xs → mask (kept bits v) (kept bits xs) ≡ kept bits (mask v xs)
kept-mask (b ∷ bits) [] (x ∷ xs) long = absurd (omega (arith, long))
kept-mask (b ∷ bits) (w ∷ v) [] long = absurd (omega (arith, long))
kept-mask (true ∷ bits) (w ∷ v) (x ∷ xs) long =
    ap (λ ys. (if w then x else Null) ∷ ys) (kept-mask bits v xs (omega (arith, long)))
kept-mask (false ∷ bits) (w ∷ v) (x ∷ xs) long = kept-mask bits v xs (omega (arith, long))
kept-mask bits v xs long = refl

-- an array of what is kept of the values and the validity of another
pub kept_fits : {A : Type 0} (bits : List Bool) (v taken : Option (List Bool)) (values items : List A) → taken ≡ option_map (kept bits) v → items ≡ kept bits values → FitsRows v (length values) → FitsRows taken (length items)
kept_fits bits None taken values items is are fits = subst (λ o. FitsRows o (length items)) (sym is) tt
kept_fits bits (Some v) taken values items is are fits =
    subst (λ o. FitsRows o (length items)) (sym is) (kept_as_many bits v values fits ∙ sym (ap length are))

pub kept_rows : {A : Type 0} (slot : A → Slot) (bits : List Bool) (v : Option (List Bool)) (values : List A) (taken : Option (List Bool)) (items : List A) → FitsRows v (length (map slot values)) → taken ≡ option_map (kept bits) v → items ≡ kept bits values → masked taken (map slot items) ≡ kept bits (masked v (map slot values))
kept_rows slot bits None values taken items fits is are =
    (λ j. masked (is j) (map slot (are j))) ∙ kept-map slot bits values
kept_rows slot bits (Some v) values taken items fits is are =
    (λ j. masked (is j) (map slot (are j))) ∙ (ap (masked (Some (kept bits v))) (kept-map slot bits values) ∙ kept-mask bits v (map slot values) fits)

-- places that are kept where an id is, of rows that are those places
first_of : (told : Bool) (col : List Slot) (u : ArrowType) (w o : Slot) (ks ds : List Slot) → (told ≡ true → w ≡ gathered col u o) → map (gathered col u) ks ≡ ds → map (gathered col u) (if told then o ∷ ks else ks) ≡ (if told then w ∷ ds else ds)
first_of true col u w o ks ds same rest = λ j. sym (same refl) j ∷ rest j
first_of false col u w o ks ds same rest = rest

pub kept_gathered : (id : ℤ) (col : List Slot) (u : ArrowType) (row : Slot → Slot) (id_of : Slot → ℤ) (indices places : List Slot) → length places ≡ length indices → ((i : ℕ) → i < length indices → (w : Slot) × (row (get_or indices i Null) ≡ Variant (id_of (get_or indices i Null)) w) × (int_eq id (id_of (get_or indices i Null)) ≡ true → w ≡ gathered col u (get_or places i Null))) → map (gathered col u) (kept (map (int_eq id) (map id_of indices)) places) ≡ dense_part id (map row indices)
kept_gathered id col u row id_of [] places long each = refl
kept_gathered id col u row id_of (s ∷ indices) [] long each = absurd (omega (arith, long))
kept_gathered id col u row id_of (s ∷ indices) (o ∷ places) long each =
    let here = each 0 (omega arith) in
    let rest = kept_gathered id col u row id_of indices places (omega (arith, long)) (λ i within. each (suc i) (omega (arith, within))) in
    first_of (int_eq id (id_of s)) col u here.0 o _ _ here.2 rest ∙ ap (λ y. dense_part id (y ∷ map row indices)) (sym here.1)

-- what holds of the rows that are kept
all_first : {A : Type 0} (P : A → Type 0) (b : Bool) (x : A) (xs : List A) → (b ≡ true → P x) → All P xs → All P (if b then x ∷ xs else xs)
all_first P true x xs here rest = All-cons P x xs (here refl) rest
all_first P false x xs here rest = rest

pub kept_all : (P : Slot → Type 0) (bits : List Bool) (xs : List Slot) → ((i : ℕ) → i < length xs → get_or bits i false ≡ true → P (get_or xs i Null)) → All P (kept bits xs)
kept_all P (b ∷ bits) (x ∷ xs) each =
    all_first P b x (kept bits xs) (λ told. each 0 (omega arith) told) (kept_all P bits xs (λ i within told. each (suc i) (omega (arith, within)) told))
kept_all P bits xs each = All-nil P
