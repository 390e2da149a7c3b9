-- Two lists, one pair of members after the other.
use Rattle.std.specs.Prelude.{◌≡◌, List, [], ◌∷◌, length, map}
use Rattle.arrow_types.specs.Slot.{Slot}

-- what each pair of members gives, as far as both lists go
abbrev pub row_by_row : {A B C : Type 0} → (A → B → C) → List A → List B → List C
row_by_row give (x ∷ xs) (y ∷ ys) = give x y ∷ row_by_row give xs ys
row_by_row give _ _ = []

-- two lists of batches have as many, each pair of one length
abbrev pub AreAlikeLong : List (List Slot) → List (List Slot) → Type 0
AreAlikeLong lefts rights = map (λ (xs : List Slot). length xs) lefts ≡ map (λ (ys : List Slot). length ys) rights
