-- A scalar of any type as contracts see it: its type and its slot.
use Rattle.std.specs.Prelude.{Option, option_map}
use Rattle.std.specs.Global.{Box}
use Rattle.arrow_types.specs.ArrowType.{ArrowType}
use Rattle.arrow_types.specs.Slot.{Slot, Boolean as truth, Text, Bytes}
use Rattle.arrow_flat.specs.AnyPrimitiveScalar.{any_scalar_type, any_scalar_slot}
use Rattle.arrow_flat.specs.DictionaryScalar.{dict_slot}
use Rattle.arrow_flat.specs.Scalars.{slot_by}
use Rattle.arrow_flat.specs.declared.scalar.dictionary.AnyScalar.{AnyScalar}
use Rattle.arrow_flat.specs.declared.scalar.dictionary.AnyScalar.TheVariants.{Boolean, Primitive, Utf8, LargeUtf8, Binary, LargeBinary, Dictionary}

abbrev pub meaning_of : AnyScalar → ArrowType × Slot
meaning_of (Boolean p) = (p.arrow_type, slot_by truth p.value)
meaning_of (Primitive p) = (any_scalar_type p, any_scalar_slot p)
meaning_of (Utf8 p) = (p.arrow_type, slot_by Text p.value)
meaning_of (LargeUtf8 p) = (p.arrow_type, slot_by Text p.value)
meaning_of (Binary p) = (p.arrow_type, slot_by Bytes p.value)
meaning_of (LargeBinary p) = (p.arrow_type, slot_by Bytes p.value)
meaning_of (Dictionary p) = (p.arrow_type, dict_slot p)

-- the meaning of a boxed scalar, if there is one
abbrev pub inner_of : Option (Box AnyScalar) → Option (ArrowType × Slot)
inner_of = option_map (λ scalar. meaning_of scalar.value)
