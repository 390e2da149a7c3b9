-- A child is less deep than the array that holds it.
use Rattle.std.specs.Prelude.{◌+◌, ◌≤◌, max, suc, List, [], ◌∷◌, map}
use Rattle.std.proofs.Common.{arith}
use denote.Param.Weighed.{most}
use Rattle.arrow_arrays.specs.declared.array.any.AnyArray.{AnyArray}
use Rattle.arrow_arrays.specs.declared.array.any.AnyArray.TheVariants.{Null, Boolean, Primitive, Utf8, LargeUtf8, Binary, LargeBinary, FixedSizeBinary, List as ListOf, FixedSizeList, Struct, Union, Map, Dictionary}
use Rattle.arrow_arrays.specs.declared.array.dictionary.DictionaryArray.TheDeep.{deep-AnyArray}
use Rattle.arrow_arrays.specs.Layout.{depth, depth_of_all, to_layouts}
use Rattle.arrow_arrays.specs.Any.{layout_of}

pub deep_le-depth : (a : AnyArray) → deep-AnyArray a ≤ depth (layout_of a) + 1
deep_le-depth (Null p) = omega arith
deep_le-depth (Boolean p) = omega arith
deep_le-depth (Primitive p) = omega arith
deep_le-depth (Utf8 p) = omega arith
deep_le-depth (LargeUtf8 p) = omega arith
deep_le-depth (Binary p) = omega arith
deep_le-depth (LargeBinary p) = omega arith
deep_le-depth (FixedSizeBinary p) = omega arith
deep_le-depth (ListOf p) = omega arith
deep_le-depth (FixedSizeList p) = omega arith
deep_le-depth (Struct p) = omega arith
deep_le-depth (Union p) = omega arith
deep_le-depth (Map p) = omega arith
deep_le-depth (Dictionary p) = omega arith

-- of the one child of a list, a map or a dictionary
pub child_falls : (a : AnyArray) → max (deep-AnyArray a) 0 ≤ suc (depth (layout_of a))
child_falls a = omega (arith, deep_le-depth a)

most_le : (xs : List AnyArray) → most deep-AnyArray xs ≤ suc (depth_of_all (to_layouts (map layout_of xs)))
most_le [] = omega arith
most_le (a ∷ xs) = omega (arith, deep_le-depth a, most_le xs)

-- of the children of a struct
pub children_fall : (xs : List AnyArray) → max (most deep-AnyArray xs) 0 ≤ suc (depth_of_all (to_layouts (map layout_of xs)))
children_fall xs = omega (arith, most_le xs)
