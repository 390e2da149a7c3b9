-- A slice of an array, a bitmap or a buffer.
use Rattle.std.specs.Prelude.{ℕ, List, take, drop}

-- the `len` members of a list from place `offset` on
abbrev pub sliced : {A : Type 0} → List A → ℕ → ℕ → List A
sliced xs offset len = take len (drop offset xs)
