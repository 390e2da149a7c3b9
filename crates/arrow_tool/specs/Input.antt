-- What a run does to the bytes of its reader, where they are known.
use Rattle.std.specs.Prelude.{ℕ, ◌-◌, ◌^◌, ◌<◌, List, length, Option, Some, None}
use Rattle.std.specs.Io.KnownBytes.{IsAtEnd}

-- the input was read to its end, unless it is longer than 2 ^ 64 - 1 reads of a byte
abbrev pub ReadsToEnd : Option (List ℕ) → Option (List ℕ) → Type 0
ReadsToEnd None left = Unit {0}
ReadsToEnd (Some input) left = length input < 2 ^ 64 - 1 → IsAtEnd left
