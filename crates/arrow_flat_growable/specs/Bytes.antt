-- Rows of bytes that grow: what is stored where a row is null, and which layouts they have ("Variable-size Binary Layout").
use Rattle.std.specs.Prelude.{ℕ, ◌≡◌, ◌++◌, Bool, true, false, List, Option, sum_by}
use Rattle.arrow_types.specs.declared.datatypes.physical_type.PhysicalType.{PhysicalType}
use Rattle.arrow_types.specs.declared.datatypes.physical_type.PhysicalType.TheVariants as physical
use Rattle.arrow_types.specs.Fits.{byte_count}
use Rattle.arrow_types.specs.Rows.{mask}
use Rattle.arrow_types.specs.Slot.{Slot}
use Rattle.arrow_memory.specs.Sliced.{sliced}
use Rattle.arrow_flat.specs.ByteRows.{ByteParts, row_bytes}
use Rattle.arrow_flat_growable.specs.GrownRows.{AreGrown, filled}
use Rattle.arrow_flat.specs.Parts.{bits_of_slice}

-- what is stored of a part of an array: a null row has no bytes
abbrev pub stored_rows : Option (List Bool) → ByteParts → ℕ → ℕ → List (List ℕ)
stored_rows v xs start len = filled (bits_of_slice v start len) (sliced (row_bytes xs) start len)

-- bytes that begin with others
abbrev pub BeginsWith : List ℕ → List ℕ → Type 0
BeginsWith old new = (more : List ℕ) × (new ≡ old ++ more)

-- rows of bytes that grow, each as its kind asks
abbrev pub AreGrownBytes : (List ℕ → Type 0) → ByteParts → Type 0
AreGrownBytes Allows p = AreGrown Allows p.offsets p.bytes

-- nulls have no bytes
abbrev pub SparesBytes : List Bool → List Slot → Type 0
SparesBytes bits stored = sum_by byte_count (mask bits stored) ≡ sum_by byte_count stored

-- a physical type of texts or bytes, by whether its offsets are those of the large forms
abbrev pub IsBytesType : Bool → PhysicalType → Type 0
IsBytesType false physical.Utf8 = Unit {0}
IsBytesType false physical.Binary = Unit {0}
IsBytesType true physical.LargeUtf8 = Unit {0}
IsBytesType true physical.LargeBinary = Unit {0}
IsBytesType _ _ = ⊥
