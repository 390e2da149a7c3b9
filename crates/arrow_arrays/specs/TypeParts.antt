-- What a nested type says of its children, through the extensions around it.
use Rattle.std.specs.Prelude.{ℕ, List, [], map}
use Rattle.arrow_types.specs.declared.datatypes.UnionMode.{UnionMode}
use Rattle.arrow_types.specs.declared.datatypes.UnionMode.TheVariants.{Sparse}
use Rattle.arrow_types.specs.declared.datatypes.physical_type.PhysicalType.{PhysicalType}
use Rattle.arrow_types.specs.declared.datatypes.physical_type.PhysicalType.TheVariants as physical
use Rattle.arrow_types.specs.ArrowType.{ArrowType, list, struct, union, extension, fixed_size, type_in, from_fields}

-- the type of the items of a list or a map
abbrev pub item_type : ArrowType → ArrowType
item_type (list form f) = type_in f
item_type (extension name metadata t) = item_type t
item_type t = t

-- how many items a row of a fixed-size list has
abbrev pub list_size : ArrowType → ℕ
list_size (list (fixed_size size) f) = size
list_size (extension name metadata t) = list_size t
list_size _ = 0

-- the types of the fields of a struct or a union
abbrev pub field_types : ArrowType → List ArrowType
field_types (struct fs) = map type_in (from_fields fs)
field_types (union mode ids fs) = map type_in (from_fields fs)
field_types (extension name metadata t) = field_types t
field_types _ = []

-- the mode of a union
abbrev pub mode_in : ArrowType → UnionMode
mode_in (union mode ids fs) = mode
mode_in (extension name metadata t) = mode_in t
mode_in _ = Sparse

-- the physical type of arrays without children
abbrev pub IsFlatType : PhysicalType → Type 0
IsFlatType physical.Null = Unit {0}
IsFlatType physical.Boolean = Unit {0}
IsFlatType (physical.Primitive element) = Unit {0}
IsFlatType physical.Utf8 = Unit {0}
IsFlatType physical.LargeUtf8 = Unit {0}
IsFlatType physical.Binary = Unit {0}
IsFlatType physical.LargeBinary = Unit {0}
IsFlatType physical.FixedSizeBinary = Unit {0}
IsFlatType _ = ⊥
