-- Rows in order, and rows of which none equals the one before it.
use Rattle.std.specs.Prelude.{◌≡◌, ◌≤ℤ◌, Bool, true, MatchBool, List, [], ◌∷◌, ◌++◌}
use Rattle.std.specs.List.Sorted.{IsPermutation}
use Rattle.gevaindy.specs.Relation.{eq, related}
use Rattle.gevaindy.specs.Slot.{Slot, Null, Boolean, Number}

-- a row may stand in front of another: a null in front of any, and numbers as they rise
abbrev pub MayPrecede : Slot → Slot → Type 0
MayPrecede Null y = Unit {0}
MayPrecede (Number m) (Number n) = m ≤ℤ n
MayPrecede _ _ = ⊥

-- the first of two rows may stand in front of the other, as a test says, or else the other way round
abbrev pub MatchesOrder : Bool → Slot → Slot → Type 0
MatchesOrder is_first x y = MatchBool is_first (MayPrecede x y) (MayPrecede y x)

-- a row may stand in front of the first of others, if there is one
abbrev pub LeadsTo : Slot → List Slot → Type 0
LeadsTo x [] = Unit {0}
LeadsTo x (y ∷ ys) = MayPrecede x y

-- each row may stand in front of the next
abbrev pub AreSorted : List Slot → Type 0
AreSorted [] = Unit {0}
AreSorted (x ∷ xs) = LeadsTo x xs × AreSorted xs

-- the rows of two lists, sorted where both are
pub record IsMerge (ls rs rows : List Slot) : Type 0 where
  pub same : IsPermutation (ls ++ rs) rows
  pub sorted : AreSorted ls → AreSorted rs → AreSorted rows

-- the first of some rows does not equal the one before them, nor does any other equal the one before it
abbrev pub AreApartFrom : Slot → List Slot → Type 0
AreApartFrom x [] = Unit {0}
AreApartFrom x (y ∷ ys) = (related eq y x ≡ Boolean true → ⊥) × AreApartFrom y ys

abbrev pub AreApart : List Slot → Type 0
AreApart [] = Unit {0}
AreApart (x ∷ xs) = AreApartFrom x xs
