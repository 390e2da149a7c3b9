-- The rows of arrays of one element type, as a caller's clauses name them.
use Rattle.std.specs.Prelude.{ℕ, ℤ, pos, List, map}
use Rattle.arrow_types.specs.Slot.{Slot, Number, Text, Bytes}
use Rattle.arrow_flat.specs.ByteRows.{ByteParts, byte_slots}
use Rattle.arrow_flat.specs.Parts.{Parts, rows_by}

-- the rows of signed numbers, as of `PrimitiveArray<i64>`
abbrev pub int_rows : Parts (List ℤ) → List Slot
int_rows = rows_by (map Number)

-- of unsigned ones, as of `PrimitiveArray<u32>`
abbrev pub uint_rows : Parts (List ℕ) → List Slot
uint_rows = rows_by (map (λ n. Number (pos n)))

-- of texts, as of `Utf8Array<i32>`, each by its bytes
abbrev pub text_rows : Parts ByteParts → List Slot
text_rows = rows_by (byte_slots Text)

-- of bytes
abbrev pub bytes_rows : Parts ByteParts → List Slot
bytes_rows = rows_by (byte_slots Bytes)
