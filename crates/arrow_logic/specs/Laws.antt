-- What the laws are stated by.
use Rattle.std.specs.Prelude.{ℕ, ◌≡◌, ◌-◌, map, min, Option, Some, None, List}
use Rattle.arrow_types.specs.declared.datatypes.physical_type.PhysicalType.{PhysicalType}
use Rattle.arrow_types.specs.declared.datatypes.physical_type.PhysicalType.TheVariants.{Binary, LargeBinary, LargeUtf8, Utf8}
use Rattle.arrow_types.specs.ArrowType.{ArrowType}
use Rattle.arrow_types.specs.Carried.{IsCarried}
use Rattle.arrow_types.specs.Physical.{physical_type_of}
use Rattle.arrow_types.specs.Rows.{joined}
use Rattle.arrow_types.specs.Slot.{Slot}
use Rattle.arrow_logic.specs.Nullif.{IsPrimitive}
use Rattle.arrow_flat.specs.RowByRow.{row_by_row}

-- how many units a part of a part has at most: what its length says, and no more than the first part has behind its beginning
abbrev pub length_within : Option ℕ → ℕ → Option ℕ → Option ℕ
length_within None begin length = length
length_within (Some whole) begin None = Some (whole - begin)
length_within (Some whole) begin (Some k) = Some (min k (whole - begin))

-- texts, of either width of offsets ("Variable-size Binary Layout")
abbrev pub IsTextLayout : PhysicalType → Type 0
IsTextLayout Utf8 = Unit {0}
IsTextLayout LargeUtf8 = Unit {0}
IsTextLayout _ = ⊥

-- and texts or bytes
abbrev pub IsByteLayout : PhysicalType → Type 0
IsByteLayout Binary = Unit {0}
IsByteLayout LargeBinary = Unit {0}
IsByteLayout physical_type = IsTextLayout physical_type

-- there are arrays of the type, and they are texts
abbrev pub AreTexts : ArrowType → Type 0
AreTexts t = IsCarried t × IsTextLayout (physical_type_of t)

-- and they are texts or bytes
abbrev pub AreTextsOrBytes : ArrowType → Type 0
AreTextsOrBytes t = IsCarried t × IsByteLayout (physical_type_of t)

-- there are arrays of the types, and `nullif` may be asked of them
abbrev pub MeetNullif : ArrowType → ArrowType → Type 0
MeetNullif left right = (left ≡ right) × IsCarried left × IsPrimitive (physical_type_of left)

-- whatever is given of two rows, it is the same list row by row of two lists as of two others
abbrev pub GiveAlike : List Slot × List Slot → List Slot × List Slot → Type 0
GiveAlike lists others = (give : Slot → Slot → Slot) → row_by_row give others.0 others.1 ≡ row_by_row give lists.0 lists.1

-- whatever is given of two rows, of batches that are joined it is what it is of each pair of batches, joined
abbrev pub GiveByBatch : List (List Slot) → List (List Slot) → Type 0
GiveByBatch lefts rights = (give : Slot → Slot → Slot) → row_by_row give (joined lefts) (joined rights) ≡ joined (row_by_row (row_by_row give) lefts rights)

-- the same of what is given of one row
abbrev pub GiveEachByBatch : List (List Slot) → Type 0
GiveEachByBatch batches = (give : Slot → Slot) → map give (joined batches) ≡ joined (map (map give) batches)
