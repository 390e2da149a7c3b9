-- What types of one shape say of their children, through the extensions around them.
use Rattle.std.proofs.Common.{◌≡◌, suc, ◌<◌, ◌≤◌, max, length, map, refl, ap, sym, ◌∙◌, arith}
use Rattle.std.specs.List.{All}
use Rattle.std.proofs.lemmas.List.Elements.{All-cons}
use Rattle.arrow_types.specs.declared.datatypes.physical_type.PhysicalType.{PhysicalType}
use Rattle.arrow_types.specs.declared.datatypes.physical_type.PhysicalType.TheVariants as physical
use Rattle.arrow_types.specs.ArrowType.{ArrowType, ArrowFields, PlainType, ListForm, plain, list, struct, union, dictionary, extension, null, small, field, no_fields, more_fields, type_in, from_fields}
use Rattle.arrow_types.specs.Carried.{HasField, IsCarried, AreCarried}
use Rattle.arrow_types.specs.Physical.{physical_type_of, plain_physical_type, list_physical_type}
use Rattle.arrow_types.specs.Slot.{Null, null_slot}
use Rattle.arrow_types.proofs.SlotLemmas.{null_slot-no_union}
use Rattle.arrow_flat.specs.DictionaryScalar.{values_in}
use Rattle.arrow_arrays.specs.TypeDepth.{type_depth, fields_depth, deepest}
use Rattle.arrow_arrays.specs.TypeParts.{item_type, field_types}

pub data Shape : Type 0 where
  flat_shape : Shape
  list_shape : Shape
  struct_shape : Shape
  union_shape : Shape
  dictionary_shape : Shape

abbrev pub shape_of : PhysicalType → Shape
shape_of physical.List = list_shape
shape_of physical.LargeList = list_shape
shape_of physical.FixedSizeList = list_shape
shape_of physical.Map = list_shape
shape_of physical.Struct = struct_shape
shape_of physical.Union = union_shape
shape_of (physical.Dictionary keys) = dictionary_shape
shape_of _ = flat_shape

abbrev pub shape_in : ArrowType → Shape
shape_in t = shape_of (physical_type_of t)

pub plain_shape : (p : PlainType) → shape_of (plain_physical_type p) ≡ flat_shape
plain_shape null = refl
plain_shape p = refl

pub list_shaped : (form : ListForm) → shape_of (list_physical_type form) ≡ list_shape
list_shaped small = refl
list_shaped form = refl

-- a null slot is Null but for unions
pub null_slot-shape : (t : ArrowType) (s : Shape) → shape_in t ≡ s → (s ≡ union_shape → ⊥) → null_slot t ≡ Null
null_slot-shape t s is other = null_slot-no_union t (λ union. other (sym is ∙ ap shape_of union))

-- the items of a list: of a carried type that is less deep
pub list_child : (t : ArrowType) → IsCarried t → shape_in t ≡ list_shape → IsCarried (item_type t) × (type_depth (item_type t) < type_depth t)
list_child (plain p) carried shape = cc (plain_shape p)
list_child (list form (field name t nullable)) carried shape = (carried.1, omega arith)
list_child (extension name metadata t) carried shape = list_child t carried shape
list_child t carried shape = cc

-- and the values of a dictionary
pub dictionary_child : (t : ArrowType) → IsCarried t → shape_in t ≡ dictionary_shape → IsCarried (values_in t) × (type_depth (values_in t) < type_depth t)
dictionary_child (plain p) carried shape = cc (plain_shape p)
dictionary_child (list form f) carried shape = cc (list_shaped form)
dictionary_child (struct fs) carried shape = cc
dictionary_child (union mode ids fs) carried shape = cc
dictionary_child (dictionary keys ordered t) carried shape = (carried, omega arith)
dictionary_child (extension name metadata t) carried shape = dictionary_child t carried shape

-- the fields of a struct or a union: carried, one at least, and each less deep
pub record HasColumns (t : ArrowType) : Type 0 where
  pub carried : All IsCarried (field_types t)
  pub some : 0 < length (field_types t)
  pub depth : deepest (field_types t) ≤ type_depth t

all_carried : (fs : ArrowFields) → AreCarried fs → All IsCarried (map type_in (from_fields fs))
all_carried no_fields carried = λ k d within. absurd (omega (arith, within))
all_carried (more_fields (field name t nullable) fs) carried =
    All-cons IsCarried t (map type_in (from_fields fs)) carried.0 (all_carried fs carried.1)

some_field : (fs : ArrowFields) → HasField fs → 0 < length (map type_in (from_fields fs))
some_field no_fields has = absurd has
some_field (more_fields f fs) has = omega arith

deepest_field : (fs : ArrowFields) → deepest (map type_in (from_fields fs)) ≡ fields_depth fs
deepest_field no_fields = refl
deepest_field (more_fields (field name t nullable) fs) = ap (max (suc (type_depth t))) (deepest_field fs)

pub struct_columns : (t : ArrowType) → IsCarried t → shape_in t ≡ struct_shape → HasColumns t
struct_columns (plain p) carried shape = cc (plain_shape p)
struct_columns (list form f) carried shape = cc (list_shaped form)
struct_columns (struct fs) carried shape =
    record { carried = all_carried fs carried.1; some = some_field fs carried.0; depth = omega (arith, deepest_field fs) }
struct_columns (union mode ids fs) carried shape = cc
struct_columns (dictionary keys ordered t) carried shape = cc
struct_columns (extension name metadata t) carried shape =
    let inner = struct_columns t carried shape in
    record { carried = inner.carried; some = inner.some; depth = inner.depth }

pub union_columns : (t : ArrowType) → IsCarried t → shape_in t ≡ union_shape → HasColumns t
union_columns (plain p) carried shape = cc (plain_shape p)
union_columns (list form f) carried shape = cc (list_shaped form)
union_columns (struct fs) carried shape = cc
union_columns (union mode ids fs) carried shape =
    record { carried = all_carried fs carried.1.1; some = some_field fs carried.1.0; depth = omega (arith, deepest_field fs) }
union_columns (dictionary keys ordered t) carried shape = cc
union_columns (extension name metadata t) carried shape =
    let inner = union_columns t carried shape in
    record { carried = inner.carried; some = inner.some; depth = inner.depth }
