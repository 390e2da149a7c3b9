-- What a closure answered to the values that arrays store. R x y stands for: y is a value that it answers to x. A closure
-- may answer otherwise the next time, so this is a relation and no function.
use Rattle.std.specs.Prelude.{◌≡◌, Bool, Option, Result, Ok, Err, List, ◌∷◌, ◌++◌, map, unwrap_or, is_none}
use Rattle.std.specs.List.{All, AllZip}
use Rattle.arrow_types.specs.Relation.{is_null}
use Rattle.arrow_types.specs.Slot.{Slot}
use Rattle.arrow_memory.specs.Bits.{either_bits}

-- which rows are null
abbrev pub nulls : List Slot → List Bool
nulls = map is_null

-- the answer to a pair of arguments
abbrev pub to_pair : {X Y Z : Type 0} → (X → Y → Z → Type 0) → X × Y → Z → Type 0
to_pair R p z = R p.0 p.1 z

-- the answer is Ok of y
abbrev pub answers_ok : {X Y E : Type 0} → (X → Result Y E → Type 0) → X → Y → Type 0
answers_ok R x y = R x (Ok y)

-- the first refusal: e is answered to one of the arguments, and Ok of something to each before it
pub record RefusesFirst {X Y E : Type 0} (R : X → Result Y E → Type 0) (xs : List X) (e : E) : Type 0 where
  pub before : List X
  pub refused : X
  pub after : List X
  pub arguments : xs ≡ before ++ refused ∷ after
  pub accepts : All (λ x. (y : Y) × answers_ok R x y) before
  pub refuses : R refused (Err e)

-- one answer to each argument gives the values, the default where it is None, and the null rows: those from before, and where it is None
pub record AnswersSome {X Y : Type 0} (R : X → Option Y → Type 0) (default : Y) (xs : List X) (null_before : List Bool) (ys : List Y) (rows : List Slot) : Type 0 where
  pub answers : List (Option Y)
  pub each : AllZip R xs answers
  pub values : ys ≡ map (λ answer. unwrap_or answer default) answers
  pub null_rows : nulls rows ≡ either_bits null_before (map is_none answers)
