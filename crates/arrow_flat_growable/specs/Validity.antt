-- The validity that a growable keeps: a bit for each row, stored only once some bit is not set ("Validity bitmaps").
use Rattle.std.specs.Prelude.{ℕ, ◌≡◌, ◌+◌, Bool, true, List, Option, Some, None, length, replicate, IfSome, ◌++◌}
use Rattle.arrow_types.specs.Rows.{mask, masked}
use Rattle.arrow_types.specs.Slot.{Slot}
use Rattle.arrow_memory.specs.Bits.{both_bits}
use Rattle.arrow_flat.specs.Parts.{FitsRows}

-- the bits of so many rows: all set where none is stored
abbrev pub bits_by : Option (List Bool) → ℕ → List Bool
bits_by None n = replicate n true
bits_by (Some bits) n = bits

-- the bits of so many rows stay, and are as many, where some are stored
abbrev pub AreSameBits : Option (List Bool) → Option (List Bool) → ℕ → Type 0
AreSameBits old new n = (bits_by new n ≡ bits_by old n) × IfSome new (λ bits. length bits ≡ n)

-- more bits come behind those of so many rows
abbrev pub AppendsValidity : Option (List Bool) → Option (List Bool) → ℕ → List Bool → Type 0
AppendsValidity old new n more = (bits_by new (n + length more) ≡ bits_by old n ++ more) × IfSome new (λ bits. length bits ≡ n + length more)

-- a validity of rows whose bits are these: it may be absent where all are set
pub record IsValidityOf (bits : List Bool) (validity : Option (List Bool)) : Type 0 where
  pub fits : FitsRows validity (length bits)
  pub rows : (xs : List Slot) → length xs ≡ length bits → masked validity xs ≡ mask bits xs

-- the bits of a validity that are set in another one too, which may be absent
abbrev pub valid_in_both : Option (List Bool) → List Bool → List Bool
valid_in_both None bits = bits
valid_in_both (Some own) bits = both_bits own bits
