-- The side that each row of a predicate names.
use Rattle.std.specs.Prelude.{ℕ, suc, true, false, List, [], ◌∷◌}
use Rattle.arrow_types.specs.Slot.{Slot, Boolean}

-- the side of a row of a predicate: the left array where it is true, the right one where it is false, and else nulls
abbrev pub side_of : Slot → ℕ
side_of (Boolean true) = 0
side_of (Boolean false) = 1
side_of _ = 2

-- each row of a predicate beside its side, where the first is row i
abbrev pub sides_from : ℕ → List Slot → List (ℕ × ℕ)
sides_from i [] = []
sides_from i (p ∷ ps) = (side_of p, i) ∷ sides_from (suc i) ps
