-- Which rows of an array of any type are null, by its validity.
use Rattle.arrow_logic.proofs.Common.{◌≡◌, ◌↔◌, ℕ, suc, Bool, true, false, not, Some, None, List, [], ◌∷◌, length, map, replicate, refl, ap, sym, ◌∙◌, arith, IsTrue, All, length-replicate, map-map, not-not, is_null, Slot, IsValue, MarksArray, any_array_rows, kind_of, null_kind, AnyArray}
use Rattle.arrow_types.specs.Slot.{Null as null}
use Rattle.arrow_arrays.specs.declared.array.any.AnyArray.TheVariants.{Null}
use Rattle.arrow_logic.proofs.MaskedLemmas.{replicate-of}

-- no row is null, and each is
values_are_not_null : (xs : List Slot) (r : Bool) → All IsValue xs → (IsTrue r → ⊥) → map is_null xs ≡ replicate (length xs) r
values_are_not_null [] r values not_null = refl
values_are_not_null (x ∷ xs) true values not_null = absurd (not_null refl)
values_are_not_null (x ∷ xs) false values not_null =
    let first : is_null x ≡ false = values 0 x (omega arith) in
    let rest = values_are_not_null xs false (λ k d within. values (suc k) d (omega (arith, within))) not_null in
    λ i. first i ∷ rest i

nulls_are_null : (n : ℕ) (r : Bool) → IsTrue r → map is_null (replicate n null) ≡ replicate (length (replicate n null)) r
nulls_are_null n r is =
    replicate-of is_null n null ∙ (λ i. replicate (sym (length-replicate n null) i) (sym is i))

-- where there is no validity
pub unmarked_rows : (array : AnyArray) (r : Bool) → MarksArray array None → (IsTrue r ↔ (kind_of array ≡ null_kind)) → map is_null (any_array_rows array) ≡ replicate (length (any_array_rows array)) r
unmarked_rows (Null p) r marks told = nulls_are_null p.count r (told.1 refl)
unmarked_rows array r marks told =
    values_are_not_null (any_array_rows array) r marks (λ e. let k = told.0 e in cc)

-- where there is one
pub marked_rows : (array : AnyArray) (bits : List Bool) → MarksArray array (Some bits) → bits ≡ map (λ s. not (is_null s)) (any_array_rows array)
marked_rows (Null p) bits marks = absurd (cc)
marked_rows array bits marks = marks

-- and turned
pub valid_rows : (rows : List Slot) (n : ℕ) (r : Bool) → map is_null rows ≡ replicate n r → replicate n (not r) ≡ map (λ s. not (is_null s)) rows
valid_rows rows n r nulls = sym (replicate-of not n r) ∙ (ap (map not) (sym nulls) ∙ map-map not is_null rows)

pub turned_marks : (xs : List Slot) → map not (map (λ s. not (is_null s)) xs) ≡ map is_null xs
turned_marks [] = refl
turned_marks (x ∷ xs) = λ i. not-not (is_null x) i ∷ turned_marks xs i
