-- Rows that are compared with those before them.
use Rattle.uses.proofs.Common.{All-contains, All-from_recursion, AllByRecursion, AreApart, AreApartFrom, ArrowType, Boolean, Contains, HasEquality, List, Null, Slot, [], ap, arith, eq, get_or_default, length, null_slot, null_slot-no_union, physical_type_of, pos, recursion_from_All, refl, related, row_by_row, shifted, subst, take, true, ◌-◌, ◌↔◌, ◌∙◌, ◌∷◌, ◌≡◌}

abbrev IsNotTrue : Slot → Type 0
IsNotTrue x = x ≡ Boolean true → ⊥

-- no row is true where each is not
none_true : (xs : List Slot) → (Contains xs (Boolean true) → ⊥) ↔ AllByRecursion IsNotTrue xs
none_true xs =
    (λ none. recursion_from_All IsNotTrue xs (λ k d within is. none (k, within, get_or_default xs k (Boolean true) d within ∙ is)), λ each there. All-contains IsNotTrue xs (Boolean true) (All-from_recursion IsNotTrue xs each) there refl)

-- rows beside those before them
apart_from : (x : Slot) (xs : List Slot) → AllByRecursion IsNotTrue (row_by_row (related eq) xs (take (length xs) (x ∷ xs))) ≡ AreApartFrom x xs
apart_from x [] = refl
apart_from x (y ∷ ys) = ap (λ (others : Type 0). IsNotTrue (related eq y x) × others) (apart_from y ys)

null_apart : (x : Slot) → IsNotTrue (related eq x Null)
null_apart Null is = cc
null_apart _ is = cc

shifted_apart : (t : ArrowType) (xs : List Slot) → null_slot t ≡ Null → AllByRecursion IsNotTrue (row_by_row (related eq) xs (shifted xs (pos 1) t)) ↔ AreApart xs
shifted_apart t [] null = (λ none. tt, λ apart. tt)
shifted_apart t (x ∷ xs) null =
    let less : length (x ∷ xs) - 1 ≡ length xs = omega arith in
    rw (null, less, apart_from x xs) (λ each. each.1, λ apart. (null_apart x, apart))

-- rows of a type with equality, which is no union, beside those that a shift by one moves in front of them
pub apart : (t : ArrowType) (xs ys : List Slot) → HasEquality (physical_type_of t) → ys ≡ row_by_row (related eq) xs (shifted xs (pos 1) t) → (Contains ys (Boolean true) → ⊥) ↔ AreApart xs
apart t xs ys has is =
    let null = null_slot-no_union t (λ same. subst HasEquality same has) in
    let each = none_true ys in
    let rows : AllByRecursion IsNotTrue ys ↔ AreApart xs = rw is (shifted_apart t xs null) in
    (λ none. rows.0 (each.0 none), λ distinct. each.1 (rows.1 distinct))
