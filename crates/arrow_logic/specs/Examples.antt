-- Worked rows of both logics and of validities, computed from the definitions.
use Rattle.std.specs.Prelude.{◌≡◌, true, false, Some, None, List, refl, pos, [], ◌∷◌, map}
use Rattle.arrow_types.specs.Logic.{both, either, kleene_both, kleene_either}
use Rattle.arrow_types.specs.Part.{part}
use Rattle.arrow_types.specs.Relation.{is_null, nulled}
use Rattle.arrow_types.specs.SameTree.{same_by}
use Rattle.arrow_types.specs.Slot.{Slot, Boolean, Bytes, Dict, Null, Number}
use Rattle.arrow_logic.specs.Connective.{decides, known_side}
use Rattle.arrow_logic.specs.declared.connective.Connective.TheVariants.{And, Or}
use Rattle.arrow_logic.specs.Laws.{length_within}
use Rattle.arrow_logic.specs.Nullif.{valid_but, within_valid}
use Rattle.arrow_flat.specs.RowByRow.{row_by_row}
use Rattle.arrow_flat.specs.Validities.{combined}

-- the rows [f, t, _] and [t, t, f]
abbrev left : List Slot
left = Boolean false ∷ Boolean true ∷ Null ∷ []

abbrev right : List Slot
right = Boolean true ∷ Boolean true ∷ Boolean false ∷ []

-- in two-valued logic a null gives a null, and in Kleene's a false decides an `and`, and a true an `or`
both_of_three : row_by_row both left right ≡ Boolean false ∷ Boolean true ∷ Null ∷ []
both_of_three = refl

either_of_three : row_by_row either left right ≡ Boolean true ∷ Boolean true ∷ Null ∷ []
either_of_three = refl

kleene_both_of_three : row_by_row kleene_both left right ≡ Boolean false ∷ Boolean true ∷ Boolean false ∷ []
kleene_both_of_three = refl

kleene_either_of_three : row_by_row kleene_either left right ≡ Boolean true ∷ Boolean true ∷ Null ∷ []
kleene_either_of_three = refl

-- the shorter list ends the pairs
pairs_end : row_by_row both left [] ≡ []
pairs_end = refl

-- which of [f, t, _] decide
false_decides : map (decides And) left ≡ true ∷ false ∷ false ∷ []
false_decides = refl

true_decides : map (decides Or) left ≡ false ∷ true ∷ false ∷ []
true_decides = refl

-- a null is known where the other side decides
known_by_other : known_side (Some (true ∷ false ∷ false ∷ [])) (false ∷ true ∷ false ∷ []) ≡ Some (true ∷ true ∷ false ∷ [])
known_by_other = refl

-- an absent validity marks no null
one_validity : combined (Some (true ∷ false ∷ [])) None ≡ Some (true ∷ false ∷ [])
one_validity = refl

two_validities : combined (Some (true ∷ false ∷ [])) (Some (true ∷ true ∷ [])) ≡ Some (true ∷ false ∷ [])
two_validities = refl

-- a dictionary's row is null by its key alone
null_value : map is_null (Dict Null ∷ Null ∷ []) ≡ false ∷ true ∷ []
null_value = refl

-- rows that are null, or become so since they equal those of the other side; a null there is no value
nulled_of_five : row_by_row nulled (Null ∷ Null ∷ Number (pos 1) ∷ Number (pos 1) ∷ Number (pos 1) ∷ []) (Null ∷ Number (pos 1) ∷ Null ∷ Number (pos 1) ∷ Number (pos 0) ∷ []) ≡ Null ∷ Null ∷ Number (pos 1) ∷ Null ∷ Number (pos 1) ∷ []
unfolding same_by
nulled_of_five = refl

-- beside the validity [t, f, t] the last row becomes null
null_last : valid_but (Some (true ∷ false ∷ true ∷ [])) (within_valid None (false ∷ true ∷ true ∷ [])) ≡ true ∷ false ∷ false ∷ []
null_last = refl

-- of five bytes, three from the second on, and of these two from the third on at most: one is left
one_left : part (pos 2) (Some 2) (part (pos 1) (Some 3) (Bytes (1 ∷ 2 ∷ 3 ∷ 4 ∷ 5 ∷ []))) ≡ Bytes (4 ∷ [])
one_left = refl

one_within : length_within (Some 3) 2 (Some 2) ≡ Some 1
one_within = refl
