-- The types of arrays that a line can write.
use Rattle.arrow_types.specs.declared.datatypes.IntegerType.TheVariants.{Int32}
use Rattle.arrow_types.specs.ArrowType.{ArrowType, plain, integer, boolean, utf8}

abbrev pub IsWritten : ArrowType → Type 0
IsWritten (plain (integer Int32)) = Unit {0}
IsWritten (plain boolean) = Unit {0}
IsWritten (plain utf8) = Unit {0}
IsWritten _ = ⊥
