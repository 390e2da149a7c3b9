-- Validities of two lists of rows, taken together ("Validity bitmaps").
use Rattle.std.specs.Prelude.{◌≡◌, Bool, Option, Some, None, List, length}
use Rattle.arrow_memory.specs.Bits.{both_bits}

-- two validities that are both there have as many bits
abbrev pub AreOneLength : Option (List Bool) → Option (List Bool) → Type 0
AreOneLength (Some left) (Some right) = length left ≡ length right
AreOneLength _ _ = Unit {0}

-- which rows are valid in both: absent where both are, and an absent one marks no row as null
abbrev pub combined : Option (List Bool) → Option (List Bool) → Option (List Bool)
combined None right = right
combined (Some left) None = Some left
combined (Some left) (Some right) = Some (both_bits left right)
