-- A primitive array of any element type as contracts see it.
use Rattle.std.specs.Prelude.{pos, List, map}
use Rattle.arrow_types.specs.ArrowType.{ArrowType}
use Rattle.arrow_types.specs.Slot.{Slot, Number, DayTime, MonthDayNano as Months}
use Rattle.arrow_types.specs.declared.types.PrimitiveType.{PrimitiveType}
use Rattle.arrow_types.specs.declared.types.PrimitiveType.TheVariants as element
use Rattle.arrow_flat.specs.Parts.{Parts, rows_by}
use Rattle.arrow_flat.specs.declared.array.any_primitive.AnyPrimitive.{AnyPrimitive}
use Rattle.arrow_flat.specs.declared.array.any_primitive.AnyPrimitive.TheVariants.{Int8, Int16, Int32, Int64, Int128, Int256, UInt8, UInt16, UInt32, UInt64, DaysMs, MonthDayNano}

-- the parts of an array, each value by its slot
abbrev pub seen_by : {T : Type 0} → (T → Slot) → Parts (List T) → Parts (List Slot)
seen_by slot p = record { arrow_type = p.arrow_type; values = map slot p.values; validity = p.validity }

abbrev pub any_parts : AnyPrimitive → Parts (List Slot)
any_parts (Int8 p) = seen_by Number p
any_parts (Int16 p) = seen_by Number p
any_parts (Int32 p) = seen_by Number p
any_parts (Int64 p) = seen_by Number p
any_parts (Int128 p) = seen_by Number p
any_parts (Int256 p) = seen_by Number p
any_parts (UInt8 p) = seen_by (λ n. Number (pos n)) p
any_parts (UInt16 p) = seen_by (λ n. Number (pos n)) p
any_parts (UInt32 p) = seen_by (λ n. Number (pos n)) p
any_parts (UInt64 p) = seen_by (λ n. Number (pos n)) p
any_parts (DaysMs p) = seen_by (λ v. DayTime v.0 v.1) p
any_parts (MonthDayNano p) = seen_by (λ v. Months v.0 v.1 v.2) p

-- its type, its rows, and both
abbrev pub any_type : AnyPrimitive → ArrowType
any_type array = (any_parts array).arrow_type

abbrev pub any_rows : AnyPrimitive → List Slot
any_rows array = rows_by (λ slots. slots) (any_parts array)

abbrev pub any_meaning : AnyPrimitive → ArrowType × List Slot
any_meaning array = (any_type array, any_rows array)

-- its element type
abbrev pub element_of : AnyPrimitive → PrimitiveType
element_of (Int8 p) = element.Int8
element_of (Int16 p) = element.Int16
element_of (Int32 p) = element.Int32
element_of (Int64 p) = element.Int64
element_of (Int128 p) = element.Int128
element_of (Int256 p) = element.Int256
element_of (UInt8 p) = element.UInt8
element_of (UInt16 p) = element.UInt16
element_of (UInt32 p) = element.UInt32
element_of (UInt64 p) = element.UInt64
element_of (DaysMs p) = element.DaysMs
element_of (MonthDayNano p) = element.MonthDayNano
