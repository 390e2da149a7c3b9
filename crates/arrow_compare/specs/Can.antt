-- The types that the calls named `can_` list.
use Rattle.std.specs.Prelude.{◌⊎◌}
use Rattle.arrow_types.specs.declared.datatypes.IntervalUnit.{IntervalUnit}
use Rattle.arrow_types.specs.declared.datatypes.IntervalUnit.TheVariants as unit
use Rattle.arrow_types.specs.ArrowType.{ArrowType, PlainType, plain, dictionary, extension, boolean, integer, timestamp, date32, date64, time32, time64, duration, interval, binary, large_binary, utf8, large_utf8, decimal}

-- an interval of months stands in an order
abbrev pub IsOrderedUnit : IntervalUnit → Type 0
IsOrderedUnit unit.YearMonth = Unit {0}
IsOrderedUnit _ = ⊥

-- truth values, integers, dates, times, such intervals, decimals of 128 bits, texts and bytes
abbrev pub IsOrderedPlain : PlainType → Type 0
IsOrderedPlain boolean = Unit {0}
IsOrderedPlain (integer k) = Unit {0}
IsOrderedPlain date32 = Unit {0}
IsOrderedPlain date64 = Unit {0}
IsOrderedPlain (time32 u) = Unit {0}
IsOrderedPlain (time64 u) = Unit {0}
IsOrderedPlain (timestamp u timezone) = Unit {0}
IsOrderedPlain (duration u) = Unit {0}
IsOrderedPlain (interval u) = IsOrderedUnit u
IsOrderedPlain (decimal precision scale) = Unit {0}
IsOrderedPlain utf8 = Unit {0}
IsOrderedPlain large_utf8 = Unit {0}
IsOrderedPlain binary = Unit {0}
IsOrderedPlain large_binary = Unit {0}
IsOrderedPlain _ = ⊥

-- these types; extensions are not looked through
abbrev pub IsOrdered : ArrowType → Type 0
IsOrdered (plain p) = IsOrderedPlain p
IsOrdered _ = ⊥

-- and dictionaries of these, at any depth, also where extensions are around a dictionary
abbrev mutual
  pub IsOrderedThrough : ArrowType → Type 0
  IsOrderedThrough (dictionary keys ordered t) = IsOrderedThrough t
  IsOrderedThrough (extension name metadata t) = IsOrderedDictionary t
  IsOrderedThrough t = IsOrdered t

  -- what stands inside an extension is such a dictionary
  pub IsOrderedDictionary : ArrowType → Type 0
  IsOrderedDictionary (dictionary keys ordered t) = IsOrderedThrough t
  IsOrderedDictionary (extension name metadata t) = IsOrderedDictionary t
  IsOrderedDictionary _ = ⊥

-- an interval that stands in none
abbrev pub IsUnorderedUnit : IntervalUnit → Type 0
IsUnorderedUnit unit.YearMonth = ⊥
IsUnorderedUnit _ = Unit {0}

-- an interval of days and milliseconds, or of months, days and nanoseconds, extensions around it apart
abbrev pub IsUnorderedInterval : ArrowType → Type 0
IsUnorderedInterval (plain (interval u)) = IsUnorderedUnit u
IsUnorderedInterval (extension name metadata t) = IsUnorderedInterval t
IsUnorderedInterval _ = ⊥

-- the types that `can_lt`, `can_lt_eq`, `can_gt` and `can_gt_eq` list, and those of `can_eq` and `can_neq`
abbrev pub CanOrder : ArrowType → Type 0
CanOrder = IsOrdered

abbrev pub CanEqual : ArrowType → Type 0
CanEqual t = IsOrdered t ⊎ IsUnorderedInterval t

-- and those of the same with a scalar
abbrev pub CanOrderScalar : ArrowType → Type 0
CanOrderScalar = IsOrderedThrough

abbrev pub CanEqualScalar : ArrowType → Type 0
CanEqualScalar t = IsOrderedThrough t ⊎ IsUnorderedInterval t
