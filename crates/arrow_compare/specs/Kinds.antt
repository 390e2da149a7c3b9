-- Kinds of arrays and of scalars that compare, and what a scalar is through its dictionaries.
use Rattle.std.specs.Prelude.{◌≡◌, false}
use Rattle.arrow_types.specs.ArrowType.{ArrowType}
use Rattle.arrow_types.specs.Physical.{physical_type_of}
use Rattle.arrow_types.specs.Relation.{Relation, eq, neq, is_null, through}
use Rattle.arrow_types.specs.Slot.{Slot}
use Rattle.arrow_flat.specs.AnyPrimitiveScalar.{element_of}
use Rattle.arrow_flat.specs.AnyScalar.{meaning_of}
use Rattle.arrow_flat.specs.declared.scalar.dictionary.AnyScalar.{AnyScalar}
use Rattle.arrow_flat.specs.declared.scalar.dictionary.AnyScalar.TheVariants.{Boolean, Primitive, Utf8, LargeUtf8, Binary, LargeBinary, Dictionary}
use Rattle.arrow_arrays.specs.Any.{Kind, boolean_kind, primitive_kind, utf8_kind, large_utf8_kind, binary_kind, large_binary_kind, dictionary_kind, kind_in}
use Rattle.arrow_compare.specs.Compared.{HasOrderElement, type_through}

-- the kinds of arrays whose rows are equal or not, and those whose rows stand in an order
abbrev pub KindHasEquality : Kind → Type 0
KindHasEquality boolean_kind = Unit {0}
KindHasEquality (primitive_kind element) = Unit {0}
KindHasEquality utf8_kind = Unit {0}
KindHasEquality large_utf8_kind = Unit {0}
KindHasEquality binary_kind = Unit {0}
KindHasEquality large_binary_kind = Unit {0}
KindHasEquality _ = ⊥

abbrev pub KindHasOrder : Kind → Type 0
KindHasOrder (primitive_kind element) = HasOrderElement element
KindHasOrder k = KindHasEquality k

abbrev pub KindHasRelation : Relation → Kind → Type 0
KindHasRelation eq = KindHasEquality
KindHasRelation neq = KindHasEquality
KindHasRelation _ = KindHasOrder

-- a relation that needs no order
abbrev pub IsEquality : Relation → Type 0
IsEquality eq = Unit {0}
IsEquality neq = Unit {0}
IsEquality _ = ⊥

-- the kind of the arrays that have rows of a scalar's type
abbrev pub scalar_kind : AnyScalar → Kind
scalar_kind (Boolean p) = boolean_kind
scalar_kind (Primitive p) = primitive_kind (element_of p)
scalar_kind (Utf8 p) = utf8_kind
scalar_kind (LargeUtf8 p) = large_utf8_kind
scalar_kind (Binary p) = binary_kind
scalar_kind (LargeBinary p) = large_binary_kind
scalar_kind (Dictionary p) = dictionary_kind

-- the scalar that a type and a slot are through their dictionaries: no null, and of the kind of their values
pub record IsThrough (m : ArrowType × Slot) (value : AnyScalar) : Type 0 where
  pub slot : through m.1 ≡ (meaning_of value).1
  pub valid : is_null (meaning_of value).1 ≡ false
  pub kind : scalar_kind value ≡ kind_in (physical_type_of (type_through m.0))
