-- Worked answers of closures.
use Rattle.std.specs.Prelude.{◌≡◌, ℕ, zero, suc, ◌+◌, ◌*◌, ◌/◌, pos, false, true, Option, Some, None, Result, Ok, Err, [], ◌∷◌, refl}
use Rattle.std.specs.List.{AllZip}
use Rattle.std.proofs.lemmas.List.Elements.{All-cons, All-nil}
use Rattle.arrow_types.specs.Slot.{Null, Number}
use Rattle.arrow_logic.specs.Answers.{AnswersSome, RefusesFirst, nulls, to_pair}

-- the second row is null
null_second : nulls (Number (pos 1) ∷ Null ∷ []) ≡ false ∷ true ∷ []
null_second = refl

-- what ten by a number is, and nothing by 0
abbrev pub ten_by : ℕ → Option ℕ
ten_by zero = None
ten_by (suc n) = Some (10 / suc n)

abbrev pub is_ten_by : ℕ → Option ℕ → Type 0
is_ten_by x answer = answer ≡ ten_by x

-- of 1, 0 beneath a null, and 0: ten, and the default beneath two nulls
ten_by_each : AnswersSome is_ten_by 0 (1 ∷ 0 ∷ 0 ∷ []) (false ∷ true ∷ false ∷ []) (10 ∷ 0 ∷ 0 ∷ []) (Number (pos 10) ∷ Null ∷ Null ∷ [])
ten_by_each = record { answers = Some 10 ∷ None ∷ None ∷ []; each = (refl, (refl, (refl, tt))); values = refl; null_rows = refl }

-- a number, and an error at 0 and at 1
abbrev pub above_one : ℕ → Result ℕ ℕ
above_one zero = Err 7
above_one (suc zero) = Err 8
above_one (suc (suc n)) = Ok (suc (suc n))

abbrev pub is_above_one : ℕ → Result ℕ ℕ → Type 0
is_above_one x answer = answer ≡ above_one x

-- of 5, 1 and 0 the error at 1 is the first
first_of_two : RefusesFirst is_above_one (5 ∷ 1 ∷ 0 ∷ []) 8
first_of_two = record { before = 5 ∷ []; refused = 1; after = 0 ∷ []; arguments = refl; accepts = All-cons (λ x. (y : ℕ) × is_above_one x (Ok y)) 5 [] (5, refl) (All-nil (λ x. (y : ℕ) × is_above_one x (Ok y))); refuses = refl }

-- twice the first of a pair, and the second
abbrev pub is_twice_and : ℕ → ℕ → ℕ → Type 0
is_twice_and x y z = z ≡ x * 2 + y

-- one answer to each pair
sums : AllZip (to_pair is_twice_and) ((1, 3) ∷ (2, 4) ∷ []) (5 ∷ 8 ∷ [])
sums = (refl, (refl, tt))
