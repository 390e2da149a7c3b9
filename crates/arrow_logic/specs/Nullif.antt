-- Rows that become null where they equal others: of which types, and their validity.
use Rattle.std.specs.Prelude.{◌≡◌, Bool, not, Option, None, Some, List, map}
use Rattle.arrow_types.specs.declared.datatypes.physical_type.PhysicalType.{PhysicalType}
use Rattle.arrow_types.specs.declared.datatypes.physical_type.PhysicalType.TheVariants.{Primitive}
use Rattle.arrow_types.specs.declared.types.PrimitiveType.TheVariants.{Float16, Float32, Float64}
use Rattle.arrow_types.specs.ArrowType.{ArrowType}
use Rattle.arrow_types.specs.Physical.{physical_type_of}
use Rattle.arrow_memory.specs.Bits.{both_bits, first_bits}

-- a primitive layout, of whatever element
abbrev pub IsPrimitive : PhysicalType → Type 0
IsPrimitive (Primitive element) = Unit {0}
IsPrimitive _ = ⊥

-- one of floats
abbrev pub IsFloat : PhysicalType → Type 0
IsFloat (Primitive Float16) = Unit {0}
IsFloat (Primitive Float32) = Unit {0}
IsFloat (Primitive Float64) = Unit {0}
IsFloat _ = ⊥

-- the types that are offered: equal ones of a primitive layout, and no floats
abbrev pub CanNullif : ArrowType → ArrowType → Type 0
CanNullif left right =
    (left ≡ right) × IsPrimitive (physical_type_of left) × (IsFloat (physical_type_of left) → ⊥)

-- the bits at valid rows
abbrev pub within_valid : Option (List Bool) → List Bool → List Bool
within_valid None bits = bits
within_valid (Some valid) bits = both_bits valid bits

-- which rows are valid when those are null whose bit is set, beside those that were
abbrev pub valid_but : Option (List Bool) → List Bool → List Bool
valid_but None nulls = map not nulls
valid_but (Some valid) nulls = first_bits valid nulls
