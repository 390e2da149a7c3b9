-- What is asked of the parts of an array, and which of it fails first.
use Rattle.std.specs.Prelude.{◌≡◌}
use Rattle.arrow_types.specs.declared.error.Error.{Error}
use Rattle.arrow_types.specs.declared.error.Error.TheVariants.{OutOfSpec}
use Rattle.arrow_types.specs.declared.error.SpecPart.TheVariants.{Kind, Length, Offsets, Utf8}
use Rattle.arrow_types.specs.declared.datatypes.physical_type.PhysicalType.{PhysicalType}
use Rattle.arrow_types.specs.ArrowType.{ArrowType}
use Rattle.arrow_types.specs.Carried.{IsCarried}
use Rattle.arrow_types.specs.Physical.{physical_type_of}

-- a type that is carried, and lies in memory so
abbrev pub IsCarriedAs : PhysicalType → ArrowType → Type 0
IsCarriedAs physical_type t = IsCarried t × (physical_type_of t ≡ physical_type)

-- the error names the first of these that does not hold: kind of the type, lengths, offsets, text
abbrev pub NamesFirst : Type 0 → Type 0 → Type 0 → Type 0 → Error → Type 0
NamesFirst kind length offsets text (OutOfSpec Kind) = kind → ⊥
NamesFirst kind length offsets text (OutOfSpec Length) = kind × (length → ⊥)
NamesFirst kind length offsets text (OutOfSpec Offsets) = kind × length × (offsets → ⊥)
NamesFirst kind length offsets text (OutOfSpec Utf8) = kind × length × offsets × (text → ⊥)
NamesFirst kind length offsets text _ = ⊥

-- of an array whose values have no offsets and no text
abbrev pub NamesKindOrLength : Type 0 → Type 0 → Error → Type 0
NamesKindOrLength kind length = NamesFirst kind length (Unit {0}) (Unit {0})
