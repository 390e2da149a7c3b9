-- The greatest number of each integer type ("Dictionary-encoded Layout", "Variable-size Binary Layout").
use Rattle.std.specs.Prelude.{ℕ, ◌^◌, ◌-◌, Bool, true, false}
use Rattle.arrow_types.specs.declared.datatypes.IntegerType.{IntegerType}
use Rattle.arrow_types.specs.declared.datatypes.IntegerType.TheVariants.{Int8, Int16, Int32, Int64, UInt8, UInt16, UInt32, UInt64}

-- the greatest key of a dictionary, by the type of its keys
abbrev pub greatest_number : IntegerType → ℕ
greatest_number Int8 = 2 ^ 7 - 1
greatest_number Int16 = 2 ^ 15 - 1
greatest_number Int32 = 2 ^ 31 - 1
greatest_number Int64 = 2 ^ 63 - 1
greatest_number UInt8 = 2 ^ 8 - 1
greatest_number UInt16 = 2 ^ 16 - 1
greatest_number UInt32 = 2 ^ 32 - 1
greatest_number UInt64 = 2 ^ 64 - 1

-- the greatest offset: of 64 bits in the large forms, and of 32 bits in the others
abbrev pub greatest_offset : Bool → ℕ
greatest_offset true = 2 ^ 63 - 1
greatest_offset false = 2 ^ 31 - 1
