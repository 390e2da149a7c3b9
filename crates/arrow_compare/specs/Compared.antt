-- Which types compare, by how they lie in memory ("Physical Memory Layout").
use Rattle.arrow_types.specs.declared.datatypes.physical_type.PhysicalType.{PhysicalType}
use Rattle.arrow_types.specs.declared.datatypes.physical_type.PhysicalType.TheVariants as physical
use Rattle.arrow_types.specs.declared.types.PrimitiveType.{PrimitiveType}
use Rattle.arrow_types.specs.declared.types.PrimitiveType.TheVariants as element
use Rattle.arrow_types.specs.ArrowType.{ArrowType, dictionary, extension}
use Rattle.arrow_types.specs.Physical.{physical_type_of}
use Rattle.arrow_types.specs.Relation.{Relation, eq, neq}

-- truth values, primitives, texts and bytes are equal or not
abbrev pub HasEquality : PhysicalType → Type 0
HasEquality physical.Boolean = Unit {0}
HasEquality (physical.Primitive element) = Unit {0}
HasEquality physical.Utf8 = Unit {0}
HasEquality physical.LargeUtf8 = Unit {0}
HasEquality physical.Binary = Unit {0}
HasEquality physical.LargeBinary = Unit {0}
HasEquality _ = ⊥

-- primitives that stand in an order: all but intervals of days and milliseconds, and of months, days and nanoseconds
abbrev pub HasOrderElement : PrimitiveType → Type 0
HasOrderElement element.DaysMs = ⊥
HasOrderElement element.MonthDayNano = ⊥
HasOrderElement _ = Unit {0}

-- what is equal or not stands in an order, but for these intervals
abbrev pub HasOrder : PhysicalType → Type 0
HasOrder (physical.Primitive element) = HasOrderElement element
HasOrder p = HasEquality p

-- what a relation compares: equality, or the order
abbrev pub HasRelation : Relation → PhysicalType → Type 0
HasRelation eq = HasEquality
HasRelation neq = HasEquality
HasRelation _ = HasOrder

-- the type of the values through dictionaries, at any depth, without the extensions around each
abbrev pub type_through : ArrowType → ArrowType
type_through (dictionary keys ordered t) = type_through t
type_through (extension name metadata t) = type_through t
type_through t = t

-- the same of what a dictionary's rows are through it, at any depth
abbrev pub HasEqualityThrough : ArrowType → Type 0
HasEqualityThrough t = HasEquality (physical_type_of (type_through t))

abbrev pub HasOrderThrough : ArrowType → Type 0
HasOrderThrough t = HasOrder (physical_type_of (type_through t))

abbrev pub HasRelationThrough : Relation → ArrowType → Type 0
HasRelationThrough op t = HasRelation op (physical_type_of (type_through t))
