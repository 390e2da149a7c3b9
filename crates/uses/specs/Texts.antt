-- Texts, and the numbers that they write.
use Rattle.std.specs.Prelude.{◌≡◌, ℕ, FitsSigned, List, ◌++◌, map}
use Rattle.std.specs.Borrow.{Bor}
use Rattle.std.specs.Str.Parse.{IsNumeral, signed_digits_value, without_leading_sign}
use Rattle.std.specs.Int.{w32}
use Rattle.std.specs.List.{AllZip}
use Rattle.gevaindy.specs.DataTypes.IntegerType.TheVariants.{Int32}
use Rattle.gevaindy.specs.ArrowType.{ArrowType, integer, plain}
use Rattle.gevaindy.specs.Slot.{Slot, Null, Number}

-- the bytes of borrowed texts
abbrev pub texts_in : List (Bor (List ℕ)) → List (List ℕ)
texts_in = map (λ text. text.now)

-- a text writes a number that 32 bits hold: digits, with a sign before them or none
abbrev pub IsNumber : List ℕ → Type 0
IsNumber bytes = IsNumeral 10 (without_leading_sign bytes) × FitsSigned w32 (signed_digits_value 10 bytes)

-- the row of a text: the number that it writes, and Null where it writes none
pub record IsRowOf (bytes : List ℕ) (row : Slot) : Type 0 where
  pub number : IsNumber bytes → row ≡ Number (signed_digits_value 10 bytes)
  pub none : (IsNumber bytes → ⊥) → row ≡ Null

-- the type of the numbers
abbrev pub int32 : ArrowType
int32 = plain (integer Int32)

-- the rows of texts, one each
abbrev pub AreRowsOf : List (Bor (List ℕ)) → List Slot → Type 0
AreRowsOf texts rows = AllZip IsRowOf (texts_in texts) rows

-- rows with those of texts behind them
pub record AppendsNumbers (old : List Slot) (texts : List (List ℕ)) (all : List Slot) : Type 0 where
  pub more : List Slot
  pub rows : all ≡ old ++ more
  pub each : AllZip IsRowOf texts more
