-- Rows that are chosen by whether others are null.
use Rattle.uses.proofs.Common.{ArrowType, Boolean, List, Null, Slot, [], ap, chosen, is_null, map, not, or_else, refl, row_by_row, ◌∷◌, ◌≡◌}

pub chosen_where_null : (t : ArrowType) (xs ys : List Slot) → chosen (map (λ s. Boolean (not (is_null s))) xs) xs ys t ≡ row_by_row or_else xs ys
chosen_where_null t [] ys = refl
chosen_where_null t (x ∷ xs) [] = refl
chosen_where_null t (Null ∷ xs) (y ∷ ys) = ap (λ zs. y ∷ zs) (chosen_where_null t xs ys)
chosen_where_null t (x ∷ xs) (y ∷ ys) = ap (λ zs. x ∷ zs) (chosen_where_null t xs ys)
