-- The type that a `DataType` stands for, and the field that a `Field` does.
use Rattle.std.specs.Prelude.{ℤ, List, Vec, Option, map, option_map, string_bytes}
use Rattle.std.specs.declared.alloc.Global.{Global}
use Rattle.arrow_types.specs.declared.datatypes.IntegerType.TheVariants.{Int8, Int16, Int32, Int64, UInt8, UInt16, UInt32, UInt64}
use Rattle.arrow_types.specs.declared.datatypes.DataType.{DataType, fold-DataType}
use Rattle.arrow_types.specs.declared.datatypes.DataType.TheOpen.{DataType-F, Field-F}
use Rattle.arrow_types.specs.declared.datatypes.Field.{Field, fold-Field}
use Rattle.arrow_types.specs.ArrowType.{ArrowType, ArrowField, ArrowFields, plain, list, struct, union, dictionary, extension, field, null, boolean, integer, float16, float32, float64, timestamp, date32, date64, time32, time64, duration, interval, binary, large_binary, utf8, large_utf8, fixed_size_binary, decimal, decimal256, small, large, fixed_size, mapped, to_fields}

-- the type ids of a union, where they are given
abbrev pub ids_of : Option (Vec ℤ Global) → Option (List ℤ)
ids_of = option_map (λ ids. ids.items)

-- one level of a type, with the types inside it already seen as trees
abbrev pub type_step : DataType-F ArrowType ArrowField → ArrowType
type_step DataType-F.Null = plain null
type_step DataType-F.Boolean = plain boolean
type_step DataType-F.Int8 = plain (integer Int8)
type_step DataType-F.Int16 = plain (integer Int16)
type_step DataType-F.Int32 = plain (integer Int32)
type_step DataType-F.Int64 = plain (integer Int64)
type_step DataType-F.UInt8 = plain (integer UInt8)
type_step DataType-F.UInt16 = plain (integer UInt16)
type_step DataType-F.UInt32 = plain (integer UInt32)
type_step DataType-F.UInt64 = plain (integer UInt64)
type_step DataType-F.Float16 = plain float16
type_step DataType-F.Float32 = plain float32
type_step DataType-F.Float64 = plain float64
type_step (DataType-F.Timestamp unit timezone) = plain (timestamp unit (option_map string_bytes timezone))
type_step DataType-F.Date32 = plain date32
type_step DataType-F.Date64 = plain date64
type_step (DataType-F.Time32 unit) = plain (time32 unit)
type_step (DataType-F.Time64 unit) = plain (time64 unit)
type_step (DataType-F.Duration unit) = plain (duration unit)
type_step (DataType-F.Interval unit) = plain (interval unit)
type_step DataType-F.Binary = plain binary
type_step (DataType-F.FixedSizeBinary size) = plain (fixed_size_binary size)
type_step DataType-F.LargeBinary = plain large_binary
type_step DataType-F.Utf8 = plain utf8
type_step DataType-F.LargeUtf8 = plain large_utf8
type_step (DataType-F.List f) = list small f.value
type_step (DataType-F.FixedSizeList f size) = list (fixed_size size) f.value
type_step (DataType-F.LargeList f) = list large f.value
type_step (DataType-F.Struct fs) = struct (to_fields fs.items)
type_step (DataType-F.Union fs ids mode) = union mode (ids_of ids) (to_fields fs.items)
type_step (DataType-F.Map f sorted) = list (mapped sorted) f.value
type_step (DataType-F.Dictionary keys values ordered) = dictionary keys ordered values.value
type_step (DataType-F.Decimal precision scale) = plain (decimal precision scale)
type_step (DataType-F.Decimal256 precision scale) = plain (decimal256 precision scale)
type_step (DataType-F.Extension name inner metadata) = extension (string_bytes name) (option_map string_bytes metadata) inner.value

-- a field, with its type already seen as a tree
abbrev pub field_step : Field-F ArrowType ArrowField → ArrowField
field_step f = field (string_bytes f.name) f.data_type f.is_nullable

-- the type that a `DataType` stands for: the same tree, without capacities and pointers
abbrev pub type_of : DataType → ArrowType
type_of = fold-DataType ArrowType ArrowField type_step field_step

-- the field that a `Field` stands for, and fields of several
abbrev pub field_of : Field → ArrowField
field_of = fold-Field ArrowType ArrowField type_step field_step

abbrev pub fields_of : List Field → ArrowFields
fields_of fs = to_fields (map field_of fs)
