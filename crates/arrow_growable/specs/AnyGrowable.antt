-- An array of any type under construction, as contracts see it.
use Rattle.arrow_flat_growable.specs.Grown.{Grown}
use Rattle.arrow_growable.specs.declared.growable.any.AnyGrowable.{AnyGrowable}
use Rattle.arrow_growable.specs.declared.growable.any.AnyGrowable.TheVariants.{Null, Boolean, Primitive, Utf8, LargeUtf8, Binary, LargeBinary, FixedSizeBinary, Nested, Dictionary, Union}
use Rattle.arrow_growable.specs.declared.growable.any.AnyGrowablePrimitive.{AnyGrowablePrimitive}
use Rattle.arrow_growable.specs.declared.growable.any.AnyGrowablePrimitive.TheVariants.{Int8, Int16, Int32, Int64, Int128, Int256, UInt8, UInt16, UInt32, UInt64, DaysMs, MonthDayNano}

abbrev pub primitive_grown_of : AnyGrowablePrimitive → Grown
primitive_grown_of (Int8 g) = g
primitive_grown_of (Int16 g) = g
primitive_grown_of (Int32 g) = g
primitive_grown_of (Int64 g) = g
primitive_grown_of (Int128 g) = g
primitive_grown_of (Int256 g) = g
primitive_grown_of (UInt8 g) = g
primitive_grown_of (UInt16 g) = g
primitive_grown_of (UInt32 g) = g
primitive_grown_of (UInt64 g) = g
primitive_grown_of (DaysMs g) = g
primitive_grown_of (MonthDayNano g) = g

abbrev pub grown_of : AnyGrowable → Grown
grown_of (Null g) = g
grown_of (Boolean g) = g
grown_of (Primitive g) = primitive_grown_of g
grown_of (Utf8 g) = g
grown_of (LargeUtf8 g) = g
grown_of (Binary g) = g
grown_of (LargeBinary g) = g
grown_of (FixedSizeBinary g) = g
grown_of (Nested g) = g
grown_of (Dictionary g) = g
grown_of (Union g) = g

-- one without children, whose null slots are null
abbrev pub IsFlat : AnyGrowable → Type 0
IsFlat (Null g) = ⊥
IsFlat (Boolean g) = Unit {0}
IsFlat (Primitive g) = Unit {0}
IsFlat (Utf8 g) = Unit {0}
IsFlat (LargeUtf8 g) = Unit {0}
IsFlat (Binary g) = Unit {0}
IsFlat (LargeBinary g) = Unit {0}
IsFlat (FixedSizeBinary g) = Unit {0}
IsFlat (Nested g) = ⊥
IsFlat (Dictionary g) = ⊥
IsFlat (Union g) = ⊥
