-- A scalar of any element type as contracts see it.
use Rattle.std.specs.Prelude.{pos}
use Rattle.arrow_types.specs.ArrowType.{ArrowType}
use Rattle.arrow_types.specs.Slot.{Slot, Number, DayTime, MonthDayNano as Months}
use Rattle.arrow_types.specs.declared.types.PrimitiveType.{PrimitiveType}
use Rattle.arrow_types.specs.declared.types.PrimitiveType.TheVariants as element
use Rattle.arrow_flat.specs.Scalars.{slot_by}
use Rattle.arrow_flat.specs.declared.scalar.primitive.AnyPrimitiveScalar.{AnyPrimitiveScalar}
use Rattle.arrow_flat.specs.declared.scalar.primitive.AnyPrimitiveScalar.TheVariants.{Int8, Int16, Int32, Int64, Int128, Int256, UInt8, UInt16, UInt32, UInt64, DaysMs, MonthDayNano}

-- its type
abbrev pub any_scalar_type : AnyPrimitiveScalar → ArrowType
any_scalar_type (Int8 p) = p.arrow_type
any_scalar_type (Int16 p) = p.arrow_type
any_scalar_type (Int32 p) = p.arrow_type
any_scalar_type (Int64 p) = p.arrow_type
any_scalar_type (Int128 p) = p.arrow_type
any_scalar_type (Int256 p) = p.arrow_type
any_scalar_type (UInt8 p) = p.arrow_type
any_scalar_type (UInt16 p) = p.arrow_type
any_scalar_type (UInt32 p) = p.arrow_type
any_scalar_type (UInt64 p) = p.arrow_type
any_scalar_type (DaysMs p) = p.arrow_type
any_scalar_type (MonthDayNano p) = p.arrow_type

-- its slot
abbrev pub any_scalar_slot : AnyPrimitiveScalar → Slot
any_scalar_slot (Int8 p) = slot_by Number p.value
any_scalar_slot (Int16 p) = slot_by Number p.value
any_scalar_slot (Int32 p) = slot_by Number p.value
any_scalar_slot (Int64 p) = slot_by Number p.value
any_scalar_slot (Int128 p) = slot_by Number p.value
any_scalar_slot (Int256 p) = slot_by Number p.value
any_scalar_slot (UInt8 p) = slot_by (λ n. Number (pos n)) p.value
any_scalar_slot (UInt16 p) = slot_by (λ n. Number (pos n)) p.value
any_scalar_slot (UInt32 p) = slot_by (λ n. Number (pos n)) p.value
any_scalar_slot (UInt64 p) = slot_by (λ n. Number (pos n)) p.value
any_scalar_slot (DaysMs p) = slot_by (λ v. DayTime v.0 v.1) p.value
any_scalar_slot (MonthDayNano p) = slot_by (λ v. Months v.0 v.1 v.2) p.value

-- its element type
abbrev pub element_of : AnyPrimitiveScalar → PrimitiveType
element_of (Int8 p) = element.Int8
element_of (Int16 p) = element.Int16
element_of (Int32 p) = element.Int32
element_of (Int64 p) = element.Int64
element_of (Int128 p) = element.Int128
element_of (Int256 p) = element.Int256
element_of (UInt8 p) = element.UInt8
element_of (UInt16 p) = element.UInt16
element_of (UInt32 p) = element.UInt32
element_of (UInt64 p) = element.UInt64
element_of (DaysMs p) = element.DaysMs
element_of (MonthDayNano p) = element.MonthDayNano
