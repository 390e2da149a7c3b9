-- An array of any type as contracts see it: its layout, and which of the kinds of arrays it is.
use Rattle.std.specs.Prelude.{◌≡◌, ℕ, Bool, Option, None, List, map, if◌then◌else◌}
use Rattle.std.specs.Borrow.{Bor}
use Rattle.arrow_types.specs.declared.datatypes.physical_type.PhysicalType.{PhysicalType}
use Rattle.arrow_types.specs.declared.datatypes.physical_type.PhysicalType.TheVariants as physical
use Rattle.arrow_types.specs.declared.types.PrimitiveType.{PrimitiveType}
use Rattle.arrow_types.specs.ArrowType.{ArrowType}
use Rattle.arrow_types.specs.Slot.{Slot, Text, Bytes}
use Rattle.arrow_flat.specs.AnyPrimitive.{any_parts, any_type, any_rows, element_of}
use Rattle.arrow_flat.specs.ByteRows.{ByteParts, byte_slots}
use Rattle.arrow_flat.specs.FixedRows.{fixed_slots}
use Rattle.arrow_flat.specs.NullParts.{null_rows}
use Rattle.arrow_flat.specs.Parts.{Parts, MarksNulls, boolean_rows, rows_by}
use Rattle.arrow_arrays.specs.Layout.{Layout, flat, rows, type_of_layout}
use Rattle.arrow_arrays.specs.FixedListParts.{fixed_list_layout}
use Rattle.arrow_arrays.specs.KeyedParts.{keyed_layout}
use Rattle.arrow_arrays.specs.ListParts.{list_layout}
use Rattle.arrow_arrays.specs.StructParts.{struct_layout}
use Rattle.arrow_arrays.specs.UnionParts.{union_layout}
use Rattle.arrow_arrays.specs.declared.array.any.AnyArray.{AnyArray}
use Rattle.arrow_arrays.specs.declared.array.any.AnyArray.TheVariants.{Null, Boolean, Primitive, Utf8, LargeUtf8, Binary, LargeBinary, FixedSizeBinary, List as ListOf, FixedSizeList, Struct, Union, Map, Dictionary}

-- an array of texts or of bytes, each row by its bytes
abbrev pub byte_layout : (List ℕ → Slot) → Parts ByteParts → Layout
byte_layout slot p = flat p.arrow_type (rows_by (byte_slots slot) p)

abbrev pub layout_of : AnyArray → Layout
layout_of (Null p) = flat p.arrow_type (null_rows p)
layout_of (Boolean p) = flat p.arrow_type (boolean_rows p)
layout_of (Primitive p) = flat (any_type p) (any_rows p)
layout_of (Utf8 p) = byte_layout Text p
layout_of (LargeUtf8 p) = byte_layout Text p
layout_of (Binary p) = byte_layout Bytes p
layout_of (LargeBinary p) = byte_layout Bytes p
layout_of (FixedSizeBinary p) = flat p.arrow_type (rows_by fixed_slots p)
layout_of (ListOf p) = list_layout p
layout_of (FixedSizeList p) = fixed_list_layout p
layout_of (Struct p) = struct_layout p
layout_of (Union p) = union_layout p
layout_of (Map p) = list_layout p
layout_of (Dictionary p) = keyed_layout p

-- the layouts of borrowed arrays
abbrev pub layouts_in : List (Bor AnyArray) → List Layout
layouts_in = map (λ array. layout_of array.now)

-- its type, its rows, and both
abbrev pub any_array_type : AnyArray → ArrowType
any_array_type array = type_of_layout (layout_of array)

abbrev pub any_array_rows : AnyArray → List Slot
any_array_rows array = rows (layout_of array)

abbrev pub any_array_meaning : AnyArray → ArrowType × List Slot
any_array_meaning array = (any_array_type array, any_array_rows array)

-- its validity, if there is one: that of the keys of a dictionary, and none of an array of the null type or of a union
abbrev pub any_array_validity : AnyArray → Option (List Bool)
any_array_validity (Null p) = None
any_array_validity (Boolean p) = p.validity
any_array_validity (Primitive p) = (any_parts p).validity
any_array_validity (Utf8 p) = p.validity
any_array_validity (LargeUtf8 p) = p.validity
any_array_validity (Binary p) = p.validity
any_array_validity (LargeBinary p) = p.validity
any_array_validity (FixedSizeBinary p) = p.validity
any_array_validity (ListOf p) = p.validity
any_array_validity (FixedSizeList p) = p.validity
any_array_validity (Struct p) = p.validity
any_array_validity (Union p) = None
any_array_validity (Map p) = p.validity
any_array_validity (Dictionary p) = p.validity

-- a validity that marks the null rows; an array of the null type, all of whose rows are null, has none
abbrev pub MarksArray : AnyArray → Option (List Bool) → Type 0
MarksArray (Null p) v = v ≡ None
MarksArray array v = MarksNulls v (any_array_rows array)

-- the kinds of arrays: one for each variant, and of primitives one for each element type
pub data Kind : Type 0 where
  null_kind : Kind
  boolean_kind : Kind
  primitive_kind : PrimitiveType → Kind
  utf8_kind : Kind
  large_utf8_kind : Kind
  binary_kind : Kind
  large_binary_kind : Kind
  fixed_size_binary_kind : Kind
  list_kind : Kind
  fixed_size_list_kind : Kind
  struct_kind : Kind
  union_kind : Kind
  map_kind : Kind
  dictionary_kind : Kind

-- the kinds of texts and of bytes, by whether their offsets are those of the large forms
abbrev pub text_kind : Bool → Kind
text_kind is_large = if is_large then large_utf8_kind else utf8_kind

abbrev pub bytes_kind : Bool → Kind
bytes_kind is_large = if is_large then large_binary_kind else binary_kind

abbrev pub kind_of : AnyArray → Kind
kind_of (Null p) = null_kind
kind_of (Boolean p) = boolean_kind
kind_of (Primitive p) = primitive_kind (element_of p)
kind_of (Utf8 p) = utf8_kind
kind_of (LargeUtf8 p) = large_utf8_kind
kind_of (Binary p) = binary_kind
kind_of (LargeBinary p) = large_binary_kind
kind_of (FixedSizeBinary p) = fixed_size_binary_kind
kind_of (ListOf p) = list_kind
kind_of (FixedSizeList p) = fixed_size_list_kind
kind_of (Struct p) = struct_kind
kind_of (Union p) = union_kind
kind_of (Map p) = map_kind
kind_of (Dictionary p) = dictionary_kind

-- the kind of arrays that lie in memory so
abbrev pub kind_in : PhysicalType → Kind
kind_in physical.Null = null_kind
kind_in physical.Boolean = boolean_kind
kind_in (physical.Primitive element) = primitive_kind element
kind_in physical.Utf8 = utf8_kind
kind_in physical.LargeUtf8 = large_utf8_kind
kind_in physical.Binary = binary_kind
kind_in physical.LargeBinary = large_binary_kind
kind_in physical.FixedSizeBinary = fixed_size_binary_kind
kind_in physical.List = list_kind
kind_in physical.LargeList = list_kind
kind_in physical.FixedSizeList = fixed_size_list_kind
kind_in physical.Struct = struct_kind
kind_in physical.Union = union_kind
kind_in physical.Map = map_kind
kind_in (physical.Dictionary keys) = dictionary_kind
