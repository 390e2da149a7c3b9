-- Rows of so many bytes each, as contracts see them: the bytes of row i from i * size to (i + 1) * size, as in a fixed-size list ("Fixed-Size List Layout").
use Rattle.std.specs.Prelude.{◌≡◌, ℕ, ◌*◌, ◌/◌, ◌%◌, ◌<◌, ◌^◌, Bool, Option, List, map, length, refl}
use Rattle.std.specs.Coded.{Coded, code_by, coded×, coded_list, coded_ℕ}
use Rattle.arrow_types.specs.ArrowType.{ArrowType, plain, extension, fixed_size_binary}
use Rattle.arrow_types.specs.Slot.{Slot, Bytes}
use Rattle.arrow_memory.specs.Sliced.{sliced}
use Rattle.arrow_flat.specs.Parts.{FitsRows}
use Rattle.arrow_flat.specs.Pieces.{chunks}

-- how many bytes a row has, how many rows there are, and the bytes of all
pub record FixedParts : Type 0 where
  pub size : ℕ
  pub count : ℕ
  pub bytes : List ℕ

-- the code that the logic asks for
abbrev pub fixed_parts_code : Coded FixedParts
fixed_parts_code =
    code_by (ℕ × (ℕ × List ℕ)) (coded× coded_ℕ (coded× coded_ℕ (coded_list coded_ℕ))) (λ p. (p.size, (p.count, p.bytes))) (λ t. record { size = t.0; count = t.1.0; bytes = t.1.1 }) (λ _. refl)

-- the bytes of each row
abbrev pub fixed_row_bytes : FixedParts → List (List ℕ)
fixed_row_bytes p = chunks p.count p.size p.bytes

-- the rows, where none is null
abbrev pub fixed_slots : FixedParts → List Slot
fixed_slots p = map Bytes (fixed_row_bytes p)

-- the parts of a slice
abbrev pub fixed_slice : FixedParts → ℕ → ℕ → FixedParts
fixed_slice p offset len = record { size = p.size; count = len; bytes = sliced p.bytes (offset * p.size) (len * p.size) }

-- a row has a byte at least, the rows are all bytes, and these can be counted
pub record AreFixedRows (p : FixedParts) : Type 0 where
  pub some : 0 < p.size
  pub whole : p.count * p.size ≡ length p.bytes
  pub fits : length p.bytes < 2 ^ 64

-- how many bytes a row of a type has; an extension has those of the type inside it
abbrev pub fixed_size_in : ArrowType → ℕ
fixed_size_in (plain (fixed_size_binary size)) = size
fixed_size_in (extension name metadata t) = fixed_size_in t
fixed_size_in _ = 0

-- bytes are rows without rest, and the validity has a bit for each row
abbrev pub FitsBytes : ℕ → ℕ → Option (List Bool) → Type 0
FitsBytes size n validity = (n % size ≡ 0) × FitsRows validity (n / size)
