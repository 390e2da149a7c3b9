-- Answers as they are gathered, for private functions: to the numbers of rows in their order, and in values and bits.
use Rattle.std.specs.Prelude.{◌≡◌, ◌<◌, ℕ, suc, Bool, Option, Some, Result, Err, List, [], ◌∷◌, ◌++◌, length, unwrap_or, is_some, slice_get}
use Rattle.std.specs.List.{zip}
use Rattle.arrow_memory.specs.Words.{word_of}
use Rattle.arrow_logic.specs.Answers.{answers_ok}

-- the value and the bit that an answer gives
abbrev pub parts_of : {Y : Type 0} → Y → Option Y → Y × Bool
parts_of default answer = (unwrap_or answer default, is_some answer)

-- these parts are those of an answer
abbrev pub answers_parts : {X Y : Type 0} → (X → Option Y → Type 0) → Y → X → Y × Bool → Type 0
answers_parts {Y = Y} R default x parts = (answer : Option Y) × R x answer × (parts ≡ parts_of default answer)

-- the argument at a place, and what is answered to it
abbrev pub answers_at : {X Y : Type 0} → (X → Y → Type 0) → List X → ℕ → Y → Type 0
answers_at {X} R xs n y = (x : X) × (slice_get xs n ≡ Some x) × R x y

-- answers to n, to the number behind it, and so on
abbrev pub AnswersFrom : {Y : Type 0} → (ℕ → Y → Type 0) → ℕ → List Y → Type 0
AnswersFrom R n [] = Unit {0}
AnswersFrom R n (y ∷ ys) = R n y × AnswersFrom R (suc n) ys

-- e is answered to a number below n, and Ok of something to each before it
pub record RefusesBelow {Y E : Type 0} (R : ℕ → Result Y E → Type 0) (n : ℕ) (e : E) : Type 0 where
  pub accepted : List Y
  pub within : length accepted < n
  pub accepts : AnswersFrom (answers_ok R) 0 accepted
  pub refuses : R (length accepted) (Err e)

-- behind the old values stand those of so many answers to the numbers from one on, and the word holds their bits
pub record AppendsAnswers {Y : Type 0} (R : ℕ → Y × Bool → Type 0) (first count : ℕ) (old new : List Y) (word : ℕ) : Type 0 where
  pub more : List Y
  pub bits : List Bool
  pub values : new ≡ old ++ more
  pub values_count : length more ≡ count
  pub bits_count : length bits ≡ count
  pub gathered : word ≡ word_of bits
  pub each : AnswersFrom R first (zip more bits)
