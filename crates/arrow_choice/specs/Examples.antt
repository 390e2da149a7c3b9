-- Worked choices, computed from the definitions.
use Rattle.std.specs.Prelude.{◌≡◌, ℕ, Bool, true, false, Some, refl, pos, List, [], ◌∷◌, replicate}
use Rattle.std.proofs.Common.{arith}
use Rattle.arrow_types.specs.declared.datatypes.IntegerType.TheVariants.{Int8, Int32}
use Rattle.arrow_types.specs.ArrowType.{boolean, dictionary, integer, plain, utf8}
use Rattle.arrow_types.specs.Ranges.{named_sides}
use Rattle.arrow_types.specs.Rows.{chosen}
use Rattle.arrow_types.specs.Slot.{Boolean, Null, Number}
use Rattle.arrow_flat.specs.Parts.{Parts, boolean_rows}
use Rattle.arrow_arrays.specs.Layout.{Layout, flat, keyed}
use Rattle.arrow_choice.specs.Choice.{ChosenIsCrowded}
use Rattle.arrow_choice.specs.Sides.{sides_from}

-- of [1, 2, 3] and [4, 5, 6], [t, null, f] chooses [1, null, 6]
three_chosen : chosen (Boolean true ∷ Null ∷ Boolean false ∷ []) (Number (pos 1) ∷ Number (pos 2) ∷ Number (pos 3) ∷ []) (Number (pos 4) ∷ Number (pos 5) ∷ Number (pos 6) ∷ []) (plain (integer Int32)) ≡ Number (pos 1) ∷ Null ∷ Number (pos 6) ∷ []
three_chosen = refl

-- of [1, null, null] and [null, 5, 6], [t, f, t] chooses [1, 5, null]
nulls_chosen : chosen (Boolean true ∷ Boolean false ∷ Boolean true ∷ []) (Number (pos 1) ∷ Null ∷ Null ∷ []) (Null ∷ Number (pos 5) ∷ Number (pos 6) ∷ []) (plain (integer Int32)) ≡ Number (pos 1) ∷ Number (pos 5) ∷ Null ∷ []
nulls_chosen = refl

-- [t, f, f, t] names row 0 of the left array, rows 1 and 2 of the right one, and row 3 of the left one
sides_named : named_sides ((0, 0, 1) ∷ (1, 1, 2) ∷ (0, 3, 1) ∷ []) ≡ sides_from 0 (Boolean true ∷ Boolean false ∷ Boolean false ∷ Boolean true ∷ [])
sides_named = refl

-- the predicate [t, null over true, f]
abbrev nulls_over_trues : Parts (List Bool)
nulls_over_trues =
    record { arrow_type = plain boolean; values = true ∷ true ∷ false ∷ []; validity = Some (true ∷ false ∷ true ∷ []) }

-- [t, null over true, f] names its null row on a side of its own, by its place
null_is_named : named_sides ((0, 0, 1) ∷ (2, 1, 1) ∷ (1, 2, 1) ∷ []) ≡ sides_from 0 (boolean_rows nulls_over_trues)
null_is_named = refl

nulls_are_named : named_sides ((2, 0, 3) ∷ (0, 3, 2) ∷ (1, 5, 1) ∷ []) ≡ sides_from 0 (Null ∷ Null ∷ Null ∷ Boolean true ∷ Boolean true ∷ Boolean false ∷ [])
nulls_are_named = refl

-- keys of 8 bits over a hundred values, and behind these key 28 of others: it is crowded where it is chosen
abbrev keys_over : ℕ → Layout
keys_over key =
    keyed (dictionary Int8 false (plain utf8)) (Some key ∷ []) (flat (plain utf8) (replicate 100 Null))

chosen_is_crowded : ChosenIsCrowded (Boolean false ∷ []) (keys_over 99) (keys_over 28)
chosen_is_crowded = (0, refl, (28, refl, omega arith))

-- [t, null, f] names the left side, nulls and the right side
three_sides : sides_from 0 (Boolean true ∷ Null ∷ Boolean false ∷ []) ≡ (0, 0) ∷ (2, 1) ∷ (1, 2) ∷ []
three_sides = refl
