-- Which arrays and scalars have a primitive layout, and which types are carried as they lie.
use Rattle.arrow_logic.proofs.Common.{◌≡◌, ◌≢◌, ◌∙◌, refl, sym, PhysicalType, PrimitiveType, ArrowType, plain, dictionary, extension, utf8, large_utf8, binary, large_binary, IsCarried, IsCarriedElement, physical_type_of, carried_as_element, AnyPrimitive, HasDictionary, kind_in, kind_of, primitive_kind, AnyArray, Primitive, AreTexts, AreTextsOrBytes, HasLength, IsFloat, IsPrimitive, HasParts}
use Rattle.arrow_types.specs.declared.datatypes.physical_type.PhysicalType.TheVariants as physical
use Rattle.arrow_types.specs.declared.types.PrimitiveType.TheVariants as element

primitive_in : (p : PhysicalType) → IsPrimitive p → (e : PrimitiveType) × (kind_in p ≡ primitive_kind e)
primitive_in (physical.Primitive e) is = (e, refl)
primitive_in _ is = absurd is

-- an array of the kind of primitives is one
primitive_by_kind : (array : AnyArray) (e : PrimitiveType) → primitive_kind e ≡ kind_of array → ((p : AnyPrimitive) → array ≢ Primitive p) → ⊥
primitive_by_kind (Primitive p) e is others = others p refl
primitive_by_kind _ e is others = cc

pub is_primitive : (array : AnyArray) (p : PhysicalType) → IsPrimitive p → kind_in p ≡ kind_of array → ((x : AnyPrimitive) → array ≢ Primitive x) → ⊥
is_primitive array p is kind =
    let layout = primitive_in p is in
    primitive_by_kind array layout.0 (sym layout.1 ∙ kind)

-- a dictionary's type, also in extensions, has another layout
pub no_keys : (t : ArrowType) → HasDictionary t → IsPrimitive (physical_type_of t) → ⊥
no_keys (dictionary keys ordered t) has is = is
no_keys (extension name metadata t) has is = no_keys t has is
no_keys _ has is = has

-- texts and bytes are carried
pub lengths_supported : (t : ArrowType) → HasLength t → AreTexts t
lengths_supported (plain utf8) has = (tt, tt)
lengths_supported (plain large_utf8) has = (tt, tt)
lengths_supported _ has = absurd has

pub parts_supported : (t : ArrowType) → HasParts t → AreTextsOrBytes t
parts_supported (plain utf8) has = (tt, tt)
parts_supported (plain large_utf8) has = (tt, tt)
parts_supported (plain binary) has = (tt, tt)
parts_supported (plain large_binary) has = (tt, tt)
parts_supported _ has = absurd has

-- and so are numbers and intervals
no_float : (e : PrimitiveType) → (IsFloat (physical.Primitive e) → ⊥) → IsCarriedElement e
no_float element.Float16 other = other tt
no_float element.Float32 other = other tt
no_float element.Float64 other = other tt
no_float _ other = tt

pub carried_layout : (p : PhysicalType) (t : ArrowType) → physical_type_of t ≡ p → IsPrimitive p → (IsFloat p → ⊥) → IsCarried t
carried_layout (physical.Primitive e) t same is other = carried_as_element e t (no_float e other) same
carried_layout _ t same is other = absurd is
