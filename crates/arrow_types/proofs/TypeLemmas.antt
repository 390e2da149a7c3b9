-- What the types of src/ stand for, lists of fields, and what makes a type carried.
use Rattle.std.proofs.Common.{◌≡◌, ◌↔◌, ℕ, zero, suc, ◌+◌, ◌<◌, List, [], ◌∷◌, length, take, get_or, refl, ap, sym, ◌∙◌, subst, arith, rules, Vec, Global, Option, ℤ}
use Rattle.arrow_types.specs.ArrowType.{ArrowType, ArrowField, ArrowFields, PlainType, plain, list, struct, union, extension, float16, float32, float64, fixed_size_binary, small, field, no_fields, more_fields, type_in, to_fields, from_fields}
use Rattle.arrow_types.specs.Carried.{HasField, IsPair, AreTypeIds, IsCarried, IsCarriedPlain, IsCarriedElement, AreCarried}
use Rattle.arrow_types.specs.Physical.{physical_type_of, plain_physical_type}
use Rattle.arrow_types.specs.TypeOf.{type_of, field_of, fields_of, ids_of}
use Rattle.arrow_types.specs.declared.datatypes.Field.{Field}
use Rattle.arrow_types.specs.declared.datatypes.DataType.{Struct, Union, the_lemmas}
use Rattle.arrow_types.specs.declared.datatypes.UnionMode.{UnionMode}
use Rattle.arrow_types.specs.declared.datatypes.physical_type.PhysicalType.{PhysicalType}
use Rattle.arrow_types.specs.declared.datatypes.physical_type.PhysicalType.TheVariants as physical
use Rattle.arrow_types.specs.declared.types.PrimitiveType.{PrimitiveType}

-- what some values of `DataType` and `Field` stand for
pub type_of-Struct : (fs : Vec Field Global) → type_of (Struct fs) ≡ struct (fields_of fs.items)
type_of-Struct fs = search (rules, the_lemmas)

pub type_of-Union : (fs : Vec Field Global) (ids : Option (Vec ℤ Global)) (mode : UnionMode) → type_of (Union fs ids mode) ≡ union mode (ids_of ids) (fields_of fs.items)
type_of-Union fs ids mode = search (rules, the_lemmas)

pub type_in-field_of : (f : Field) → type_in (field_of f) ≡ type_of f.data_type
type_in-field_of f = search (rules, the_lemmas)

-- fields as a list, and back
pub from_fields-to_fields : (fs : List ArrowField) → from_fields (to_fields fs) ≡ fs
from_fields-to_fields [] = refl
from_fields-to_fields (f ∷ fs) = ap (λ gs. f ∷ gs) (from_fields-to_fields fs)

pub to_fields-from_fields : (fs : ArrowFields) → to_fields (from_fields fs) ≡ fs
to_fields-from_fields no_fields = refl
to_fields-from_fields (more_fields f fs) = ap (λ gs. more_fields f gs) (to_fields-from_fields fs)

pub to_fields_same : (fs gs : List ArrowField) → to_fields fs ≡ to_fields gs → fs ≡ gs
to_fields_same fs gs same = sym (from_fields-to_fields fs) ∙ (ap from_fields same ∙ from_fields-to_fields gs)

-- the first field, and the others
pub AreCarried-first : (f : ArrowField) (fs : ArrowFields) → AreCarried (more_fields f fs) ↔ (IsCarried (type_in f) × AreCarried fs)
AreCarried-first (field name t nullable) fs = (λ h. h, λ h. h)

-- one field, read at its place
pub IsCarried-read : (fs : List Field) (i : ℕ) (f : Field) → i < length fs → f ≡ get_or fs i f → AreCarried (fields_of fs) → IsCarried (type_in (field_of f))
IsCarried-read [] i f within is h = absurd (omega arith)
IsCarried-read (g ∷ fs) zero f within is h =
    subst (λ (x : Field). IsCarried (type_in (field_of x))) (sym is) ((AreCarried-first (field_of g) (fields_of fs)).0 h).0
IsCarried-read (g ∷ fs) (suc i) f within is h =
    IsCarried-read fs i f (omega arith) is ((AreCarried-first (field_of g) (fields_of fs)).0 h).1

-- the fields so far, and one more
pub AreCarried-next : (fs : List Field) (i : ℕ) (f : Field) → i < length fs → f ≡ get_or fs i f → AreCarried (fields_of (take i fs)) → IsCarried (type_in (field_of f)) → AreCarried (fields_of (take (i + 1) fs))
AreCarried-next [] i f within is h one = absurd (omega arith)
AreCarried-next (g ∷ fs) zero f within is h one =
    (AreCarried-first (field_of g) no_fields).1 (subst (λ (x : Field). IsCarried (type_in (field_of x))) is one, tt)
AreCarried-next (g ∷ fs) (suc i) f within is h one =
    let all = (AreCarried-first (field_of g) (fields_of (take i fs))).0 h in
    let next : suc i + 1 ≡ suc (i + 1) = omega arith in
    rw next ((AreCarried-first (field_of g) (fields_of (take (i + 1) fs))).1 (all.0, AreCarried-next fs i f (omega arith) is all.1 one))

pub HasField-fields_of : (fs : List Field) → HasField (fields_of fs) ↔ (0 < length fs)
HasField-fields_of [] = (λ h. absurd h, λ h. absurd (omega arith))
HasField-fields_of (f ∷ fs) = (λ h. omega arith, λ h. tt)

pub IsPair-fields_of : (fs : List Field) → IsPair (struct (fields_of fs)) ↔ (length fs ≡ 2)
IsPair-fields_of (f ∷ g ∷ []) = (λ h. refl, λ h. tt)
IsPair-fields_of fs = (λ h. absurd h, λ h. absurd (omega (arith, h)))

-- as many fields in the tree
pub length-fields_of : (fs : List Field) → length (from_fields (fields_of fs)) ≡ length fs
length-fields_of [] = refl
length-fields_of (f ∷ fs) = ap suc (length-fields_of fs)

-- a union, by the number of its fields
pub IsCarried-union : (mode : UnionMode) (ids : Option (List ℤ)) (fs : List Field) (count : ℕ) → count ≡ length fs → IsCarried (union mode ids (fields_of fs)) ↔ (AreTypeIds ids count × (HasField (fields_of fs) × AreCarried (fields_of fs)))
IsCarried-union mode ids fs count is = rw (is ∙ sym (length-fields_of fs)) (λ h. h, λ h. h)

-- a type lies as values of one element type, which is no float
abbrev IsOfElement : PhysicalType → Type 0
IsOfElement (physical.Primitive element) = IsCarriedElement element
IsOfElement _ = ⊥

plain_of_element : (p : PlainType) → IsOfElement (plain_physical_type p) → IsCarriedPlain p
plain_of_element float16 h = h
plain_of_element float32 h = h
plain_of_element float64 h = h
plain_of_element (fixed_size_binary size) h = absurd h
plain_of_element _ h = tt

of_element : (t : ArrowType) → IsOfElement (physical_type_of t) → IsCarried t
of_element (plain p) h = plain_of_element p h
of_element (extension name metadata t) h = of_element t h
of_element (list small f) h = absurd h
of_element t h = absurd h

-- then it is carried
pub carried_as_element : (element : PrimitiveType) (t : ArrowType) → IsCarriedElement element → physical_type_of t ≡ physical.Primitive element → IsCarried t
carried_as_element element t carried same = of_element t (subst IsOfElement (sym same) carried)

-- lists of fields that stand for the same have the same length, and the same fields at each place
pub length_same : (fs gs : List Field) → fields_of fs ≡ fields_of gs → length fs ≡ length gs
length_same fs gs same = sym (length-fields_of fs) ∙ (ap (λ all. length (from_fields all)) same ∙ length-fields_of gs)

pub field_of_same : (fs gs : List Field) (i : ℕ) (f g : Field) → i < length fs → i < length gs → f ≡ get_or fs i f → g ≡ get_or gs i g → fields_of fs ≡ fields_of gs → field_of f ≡ field_of g
field_of_same [] gs i f g within other is are same = absurd (omega arith)
field_of_same (x ∷ fs) [] i f g within other is are same = absurd (omega arith)
field_of_same (x ∷ fs) (y ∷ gs) zero f g within other is are same = cc
field_of_same (x ∷ fs) (y ∷ gs) (suc i) f g within other is are same =
    let rest : fields_of fs ≡ fields_of gs = cc in
    field_of_same fs gs i f g (omega arith) (omega arith) is are rest
