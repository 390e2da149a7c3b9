-- Arrays that are given together: the type of each, and the rows of all.
use Rattle.arrow_select.proofs.Common.{arith, ◌≡◌, ℕ, ◌<◌, List, [], ◌∷◌, Some, length, map, ap, sym, subst, ◌∙◌, slice_get, Contains, get_or-map, length-map, get_or_from_slice_get, ArrowType, Layout, type_of_layout, AreOfOneType, first_type, All}

pub Contains-read : {A : Type 0} (xs : List A) (i : ℕ) (x : A) → slice_get xs i ≡ Some x → i < length xs → Contains xs x
Contains-read xs i x read within = (i, within, get_or_from_slice_get xs i x x read)

-- the types of all are one where each is the same
pub of_one_type : {A : Type 0} (f : A → Layout) (arrays : List A) (t : ArrowType) → All (λ u. u ≡ t) (map (λ x. type_of_layout (f x)) arrays) → AreOfOneType (map f arrays)
of_one_type f [] t same k d within = absurd (omega (arith, within))
of_one_type f (x ∷ arrays) t same k d within =
    let bound : k < length (x ∷ arrays) = omega (arith, within, length-map (x ∷ arrays) f) in
    let here = get_or-map f (x ∷ arrays) k x d bound in
    let there = get_or-map (λ y. type_of_layout (f y)) (x ∷ arrays) k x t bound in
    let long = length-map (x ∷ arrays) (λ y. type_of_layout (f y)) in
    ap type_of_layout here ∙ (sym there ∙ (same k t (omega (arith, bound, long)) ∙ sym (same 0 t (omega arith))))

-- what holds of the first type holds of all, where each is the same
pub all_as_first : {A : Type 0} (f : A → Layout) (arrays : List A) (t : ArrowType) (P : ArrowType → Type 0) → All (λ u. u ≡ t) (map (λ x. type_of_layout (f x)) arrays) → P (first_type (map f arrays)) → All P (map (λ x. type_of_layout (f x)) arrays)
all_as_first f [] t P same held k d within = absurd (omega (arith, within))
all_as_first f (x ∷ arrays) t P same held k d within =
    subst P (same 0 t (omega arith) ∙ sym (same k d within)) held
