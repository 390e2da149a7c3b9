-- Rows of bytes under offsets, as contracts see them ("Variable-size Binary Layout").
use Rattle.std.specs.Prelude.{ℕ, ◌+◌, ◌≤◌, List, map, length, refl}
use Rattle.std.specs.Coded.{Coded, code_by, coded×, coded_list, coded_ℕ}
use Rattle.std.specs.List.{All}
use Rattle.arrow_types.specs.Slot.{Slot}
use Rattle.arrow_memory.specs.Offsets.{IsOffsets, last_of}
use Rattle.arrow_memory.specs.Sliced.{sliced}
use Rattle.arrow_flat.specs.Pieces.{pieces}

-- where the rows lie, and the bytes that they lie in
pub record ByteParts : Type 0 where
  pub offsets : List ℕ
  pub bytes : List ℕ

-- the code that the logic asks for
abbrev pub byte_parts_code : Coded ByteParts
byte_parts_code =
    code_by (List ℕ × List ℕ) (coded× (coded_list coded_ℕ) (coded_list coded_ℕ)) (λ p. (p.offsets, p.bytes)) (λ t. record { offsets = t.0; bytes = t.1 }) (λ _. refl)

-- the bytes of each row
abbrev pub row_bytes : ByteParts → List (List ℕ)
row_bytes p = pieces p.offsets p.bytes

-- the rows, where none is null
abbrev pub byte_slots : (List ℕ → Slot) → ByteParts → List Slot
byte_slots slot p = map slot (row_bytes p)

-- the parts of a slice: the offsets of its rows, and all bytes
abbrev pub byte_slice : ByteParts → ℕ → ℕ → ByteParts
byte_slice p offset len = record { offsets = sliced p.offsets offset (len + 1); bytes = p.bytes }

-- the rows lie inside the bytes, and each is as its kind asks, null rows too
pub record AreByteRows (Allows : List ℕ → Type 0) (p : ByteParts) : Type 0 where
  pub offsets : IsOffsets p.offsets
  pub within : last_of p.offsets ≤ length p.bytes
  pub rows : All Allows (row_bytes p)
