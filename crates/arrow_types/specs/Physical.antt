-- How a type lies in memory: the layouts of Arrow's columnar format ("Physical Memory Layout"), and the element types of its primitive layout.
use Rattle.arrow_types.specs.declared.datatypes.IntegerType.{IntegerType}
use Rattle.arrow_types.specs.declared.datatypes.IntegerType.TheVariants as key
use Rattle.arrow_types.specs.declared.datatypes.IntervalUnit.{IntervalUnit}
use Rattle.arrow_types.specs.declared.datatypes.IntervalUnit.TheVariants as interval_unit
use Rattle.arrow_types.specs.declared.datatypes.physical_type.PhysicalType.{PhysicalType}
use Rattle.arrow_types.specs.declared.datatypes.physical_type.PhysicalType.TheVariants as physical
use Rattle.arrow_types.specs.declared.types.PrimitiveType.{PrimitiveType}
use Rattle.arrow_types.specs.declared.types.PrimitiveType.TheVariants as primitive
use Rattle.arrow_types.specs.ArrowType.{ArrowType, PlainType, ListForm, plain, list, struct, union, dictionary, extension, null, boolean, integer, float16, float32, float64, timestamp, date32, date64, time32, time64, duration, interval, binary, large_binary, utf8, large_utf8, fixed_size_binary, decimal, decimal256, small, large, fixed_size, mapped}

-- an integer lies as it is
abbrev pub integer_element : IntegerType → PrimitiveType
integer_element key.Int8 = primitive.Int8
integer_element key.Int16 = primitive.Int16
integer_element key.Int32 = primitive.Int32
integer_element key.Int64 = primitive.Int64
integer_element key.UInt8 = primitive.UInt8
integer_element key.UInt16 = primitive.UInt16
integer_element key.UInt32 = primitive.UInt32
integer_element key.UInt64 = primitive.UInt64

-- months in 32 bits, days and milliseconds, or months, days and nanoseconds
abbrev pub interval_element : IntervalUnit → PrimitiveType
interval_element interval_unit.YearMonth = primitive.Int32
interval_element interval_unit.DayTime = primitive.DaysMs
interval_element interval_unit.MonthDayNano = primitive.MonthDayNano

-- dates, times and decimals lie as integers of their width
abbrev pub plain_physical_type : PlainType → PhysicalType
plain_physical_type null = physical.Null
plain_physical_type boolean = physical.Boolean
plain_physical_type float16 = physical.Primitive primitive.Float16
plain_physical_type float32 = physical.Primitive primitive.Float32
plain_physical_type float64 = physical.Primitive primitive.Float64
plain_physical_type date32 = physical.Primitive primitive.Int32
plain_physical_type date64 = physical.Primitive primitive.Int64
plain_physical_type binary = physical.Binary
plain_physical_type large_binary = physical.LargeBinary
plain_physical_type utf8 = physical.Utf8
plain_physical_type large_utf8 = physical.LargeUtf8
plain_physical_type (integer k) = physical.Primitive (integer_element k)
plain_physical_type (timestamp unit timezone) = physical.Primitive primitive.Int64
plain_physical_type (time32 unit) = physical.Primitive primitive.Int32
plain_physical_type (time64 unit) = physical.Primitive primitive.Int64
plain_physical_type (duration unit) = physical.Primitive primitive.Int64
plain_physical_type (interval unit) = physical.Primitive (interval_element unit)
plain_physical_type (fixed_size_binary size) = physical.FixedSizeBinary
plain_physical_type (decimal precision scale) = physical.Primitive primitive.Int128
plain_physical_type (decimal256 precision scale) = physical.Primitive primitive.Int256

-- the lists, one layout a form
abbrev pub list_physical_type : ListForm → PhysicalType
list_physical_type small = physical.List
list_physical_type large = physical.LargeList
list_physical_type (fixed_size size) = physical.FixedSizeList
list_physical_type (mapped sorted) = physical.Map

-- the physical type; an extension lies as the type inside it does
abbrev pub physical_type_of : ArrowType → PhysicalType
physical_type_of (plain p) = plain_physical_type p
physical_type_of (list form f) = list_physical_type form
physical_type_of (struct fs) = physical.Struct
physical_type_of (union mode ids fs) = physical.Union
physical_type_of (dictionary keys ordered t) = physical.Dictionary keys
physical_type_of (extension name metadata t) = physical_type_of t
