-- A dictionary's value is less deep than the scalar that holds it.
use Rattle.std.specs.Prelude.{◌+◌, ◌≤◌, Option, None, Some}
use Rattle.std.specs.Global.{Box}
use Rattle.std.proofs.Common.{arith}
use Rattle.arrow_types.specs.declared.datatypes.DataType.{DataType}
use Rattle.arrow_flat.specs.declared.scalar.dictionary.AnyScalar.{AnyScalar}
use Rattle.arrow_flat.specs.declared.scalar.dictionary.AnyScalar.TheVariants.{Boolean, Primitive, Utf8, LargeUtf8, Binary, LargeBinary, Dictionary}
use Rattle.arrow_flat.specs.declared.scalar.dictionary.DictionaryScalar.TheDeep.{deep-AnyScalar, deep-DictionaryScalar}
use Rattle.arrow_flat.specs.AnyScalar.{meaning_of, inner_of}
use Rattle.arrow_flat.specs.DictionaryScalar.{slot_depth, dict_by}

deep_le : (a : AnyScalar) → deep-AnyScalar a ≤ slot_depth (meaning_of a).1 + 1
deep_le (Boolean p) = omega arith
deep_le (Primitive p) = omega arith
deep_le (Utf8 p) = omega arith
deep_le (LargeUtf8 p) = omega arith
deep_le (Binary p) = omega arith
deep_le (LargeBinary p) = omega arith
deep_le (Dictionary p) = omega arith

-- the value is less deep
pub value_falls : (t : DataType) (v : Option (Box AnyScalar)) → deep-DictionaryScalar (record { data_type = t; value = v }) ≤ slot_depth (dict_by (inner_of v))
value_falls t None = omega arith
value_falls t (Some scalar) = omega (arith, deep_le scalar.value)
