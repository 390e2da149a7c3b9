-- Types that the calls named `can_` list, and what such types compare.
use Rattle.std.proofs.Common.{rules, inl, inr}
use Rattle.arrow_types.specs.declared.datatypes.IntegerType.{IntegerType}
use Rattle.arrow_types.specs.declared.datatypes.IntegerType.TheVariants.{Int8}
use Rattle.arrow_types.specs.declared.datatypes.IntervalUnit.{IntervalUnit}
use Rattle.arrow_types.specs.declared.datatypes.IntervalUnit.TheVariants.{YearMonth}
use Rattle.arrow_types.specs.declared.datatypes.physical_type.PhysicalType.{PhysicalType}
use Rattle.arrow_types.specs.declared.datatypes.physical_type.PhysicalType.TheVariants as physical
use Rattle.arrow_types.specs.ArrowType.{ArrowType, PlainType, plain, dictionary, extension, integer, interval}
use Rattle.arrow_types.specs.Physical.{integer_element, interval_element, physical_type_of, plain_physical_type}
use Rattle.arrow_compare.specs.Can.{CanEqual, CanEqualScalar, IsOrdered, IsOrderedDictionary, IsOrderedPlain, IsOrderedThrough, IsOrderedUnit, IsUnorderedInterval}
use Rattle.arrow_compare.specs.Compared.{HasEquality, HasEqualityThrough, HasOrder, HasOrderElement, HasOrderThrough, type_through}

integer_order : (k : IntegerType) → HasOrderElement (integer_element k)
integer_order Int8 = tt
integer_order k = tt

interval_order : (u : IntervalUnit) → IsOrderedUnit u → HasOrderElement (interval_element u)
interval_order YearMonth is = is
interval_order u is = is

plain_order : (p : PlainType) → IsOrderedPlain p → HasOrder (plain_physical_type p)
plain_order (integer k) is = integer_order k
plain_order (interval u) is = interval_order u is
plain_order p is = search rules

-- what stands in an order is equal or not
order_equality : (p : PhysicalType) → HasOrder p → HasEquality p
order_equality (physical.Primitive element) has = tt
order_equality p has = has

pub ordered : (t : ArrowType) → IsOrdered t → HasOrder (physical_type_of t)
ordered (plain p) is = plain_order p is
ordered t is = absurd is

mutual
  pub ordered_through : (t : ArrowType) → IsOrderedThrough t → HasOrderThrough t
  ordered_through (plain p) is = plain_order p is
  ordered_through (dictionary keys sorted t) is = ordered_through t is
  ordered_through (extension name metadata t) is = ordered_dictionary t is
  ordered_through t is = absurd is

  ordered_dictionary : (t : ArrowType) → IsOrderedDictionary t → HasOrderThrough t
  ordered_dictionary (dictionary keys sorted t) is = ordered_through t is
  ordered_dictionary (extension name metadata t) is = ordered_dictionary t is
  ordered_dictionary t is = absurd is

-- and such an interval is equal or not
interval_equality : (t : ArrowType) → IsUnorderedInterval t → HasEquality (physical_type_of t) × HasEqualityThrough t
interval_equality (plain (interval u)) is = (tt, tt)
interval_equality (extension name metadata t) is = interval_equality t is
interval_equality t is = absurd is

pub equal : (t : ArrowType) → CanEqual t → HasEquality (physical_type_of t)
equal t (inl is) = order_equality (physical_type_of t) (ordered t is)
equal t (inr is) = (interval_equality t is).0

pub equal_through : (t : ArrowType) → CanEqualScalar t → HasEqualityThrough t
equal_through t (inl is) = order_equality (physical_type_of (type_through t)) (ordered_through t is)
equal_through t (inr is) = (interval_equality t is).1

pub ruleset listed = (ordered, ordered_through, equal, equal_through)
