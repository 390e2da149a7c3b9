-- A growable is less deep than the one that holds it, by its type.
use Rattle.std.specs.Prelude.{◌≡◌, ◌+◌, ◌≤◌, List, [], ◌∷◌, map, max}
use Rattle.std.proofs.Common.{arith, ap}
use denote.Param.Weighed.{most}
use Rattle.arrow_types.specs.ArrowType.{ArrowType}
use Rattle.arrow_arrays.specs.TypeDepth.{deepest, type_depth}
use Rattle.arrow_arrays.specs.TypeParts.{field_types}
use Rattle.arrow_growable.specs.FormLaws.{deepest_child, deepest_of_fields}
use Rattle.arrow_growable.specs.AnyGrowable.{grown_of}
use Rattle.arrow_growable.specs.Form.{child_types}
use Rattle.arrow_growable.specs.declared.growable.any.AnyGrowable.{AnyGrowable}
use Rattle.arrow_growable.specs.declared.growable.any.AnyGrowable.TheVariants.{Null, Boolean, Primitive, Utf8, LargeUtf8, Binary, LargeBinary, FixedSizeBinary, Nested, Dictionary, Union}
use Rattle.arrow_growable.specs.declared.growable.nested.GrowableNested.TheDeep.{deep-AnyGrowable}

pub deep_le-depth : (g : AnyGrowable) → deep-AnyGrowable g ≤ type_depth ((grown_of g).arrow_type) + 1
deep_le-depth (Null g) = omega arith
deep_le-depth (Boolean g) = omega arith
deep_le-depth (Primitive g) = omega arith
deep_le-depth (Utf8 g) = omega arith
deep_le-depth (LargeUtf8 g) = omega arith
deep_le-depth (Binary g) = omega arith
deep_le-depth (LargeBinary g) = omega arith
deep_le-depth (FixedSizeBinary g) = omega arith
deep_le-depth (Nested g) = omega arith
deep_le-depth (Dictionary g) = omega arith
deep_le-depth (Union g) = omega arith

most_le : (xs : List AnyGrowable) → most deep-AnyGrowable xs ≤ deepest (map (λ g. g.arrow_type) (map grown_of xs))
most_le [] = omega arith
most_le (x ∷ xs) = omega (arith, deep_le-depth x, most_le xs)

-- the children of a type are less deep than it
pub children_fall : (xs : List AnyGrowable) (t : ArrowType) → map (λ g. g.arrow_type) (map grown_of xs) ≡ child_types t → max (most deep-AnyGrowable xs) 0 ≤ type_depth t
children_fall xs t types = omega (arith, most_le xs, ap deepest types, deepest_child t)

-- and so are those of the fields of a union
pub fields_fall : (xs : List AnyGrowable) (t : ArrowType) → map (λ g. g.arrow_type) (map grown_of xs) ≡ field_types t → max (most deep-AnyGrowable xs) 0 ≤ type_depth t
fields_fall xs t types = omega (arith, most_le xs, ap deepest types, deepest_of_fields t)
