-- The kinds of arrays and scalars, by their types.
use Rattle.std.proofs.Common.{rules, ◌≡◌, ◌∙◌, ap, refl, sym, subst}
use Rattle.arrow_types.specs.declared.datatypes.physical_type.PhysicalType.{PhysicalType}
use Rattle.arrow_types.specs.declared.datatypes.physical_type.PhysicalType.TheVariants as physical
use Rattle.arrow_types.specs.ArrowType.{ArrowType, extension, logical}
use Rattle.arrow_types.specs.Physical.{physical_type_of}
use Rattle.arrow_types.specs.Relation.{Relation, eq}
use Rattle.arrow_types.specs.Slot.{Slot}
use Rattle.arrow_flat.specs.DictionaryScalar.{HasDictionary, values_in}
use Rattle.arrow_flat.specs.declared.scalar.dictionary.AnyScalar.{AnyScalar}
use Rattle.arrow_arrays.specs.Any.{Kind, any_array_type, dictionary_kind, kind_in, kind_of, layout_of, primitive_kind}
use Rattle.arrow_arrays.specs.KeyedParts.{KeyedParts}
use Rattle.arrow_arrays.specs.Layout.{type_of_layout}
use Rattle.arrow_arrays.specs.declared.array.any.AnyArray.{AnyArray}
use Rattle.arrow_arrays.specs.declared.array.any.AnyArray.TheVariants.{Dictionary}
use Rattle.arrow_compare.specs.Compared.{HasRelation, HasRelationThrough, type_through}
use Rattle.arrow_compare.specs.Kinds.{IsThrough, KindHasEquality, KindHasRelation, scalar_kind}

-- ---- extensions and dictionaries around a type

-- what no extension changes is the same of types that are logically one
module _ {A : Type 0} (f : ArrowType → A) (same : (name : _) (metadata : _) (t : ArrowType) → f (extension name metadata t) ≡ f t) where
  of_logical : (t : ArrowType) → f (logical t) ≡ f t
  of_logical (extension name metadata t) = of_logical t ∙ sym (same name metadata t)
  of_logical t = refl

  pub of_one : (t u : ArrowType) → logical t ≡ logical u → f t ≡ f u
  of_one t u one = sym (of_logical t) ∙ (ap f one ∙ of_logical u)

-- as the kind of their arrays
pub one_kind : (t u : ArrowType) (k l : Kind) → logical t ≡ logical u → kind_in (physical_type_of t) ≡ k → kind_in (physical_type_of u) ≡ l → k ≡ l
one_kind t u k l one here there =
    sym here ∙ (of_one (λ t. kind_in (physical_type_of t)) (λ name metadata t. refl) t u one ∙ there)

-- and their type through dictionaries
pub one_through : (t u : ArrowType) → logical t ≡ logical u → type_through t ≡ type_through u
one_through = of_one type_through (λ name metadata t. refl)

-- a dictionary's type is that of its values through dictionaries
pub values_through : (t : ArrowType) → type_through (values_in t) ≡ type_through t
values_through (extension name metadata t) = values_through t
values_through t = refl

-- and any other type is itself, as it lies
pub lies_through : (t : ArrowType) → (kind_in (physical_type_of t) ≡ dictionary_kind → ⊥) → physical_type_of (type_through t) ≡ physical_type_of t
lies_through (extension name metadata t) other = lies_through t other
lies_through t other = search rules

-- a dictionary's type lies as one
pub dictionary_lies : (t : ArrowType) → HasDictionary t → kind_in (physical_type_of t) ≡ dictionary_kind
dictionary_lies (extension name metadata t) has = dictionary_lies t has
dictionary_lies t has = search rules

-- ---- arrays that are dictionaries, and those that are none

-- the values of a dictionary are of its type through dictionaries
pub dictionary_values : (a v : AnyArray) (p : KeyedParts) → a ≡ Dictionary p → layout_of v ≡ p.child → type_of_layout p.child ≡ values_in p.arrow_type → type_through (any_array_type v) ≡ type_through (any_array_type a)
dictionary_values a v p is child values =
    ap (λ l. type_through (type_of_layout l)) child ∙ (ap type_through values ∙ (values_through p.arrow_type ∙ ap (λ array. type_through (any_array_type array)) (sym is)))

no_dictionary_kind : (a : AnyArray) → ((p : KeyedParts) → a ≡ Dictionary p → ⊥) → kind_of a ≡ dictionary_kind → ⊥
no_dictionary_kind (Dictionary p) other is = other p refl
no_dictionary_kind a other is = cc

-- the kind of any other array is that of its type through dictionaries
pub own_kind : (a : AnyArray) → kind_in (physical_type_of (any_array_type a)) ≡ kind_of a → ((p : KeyedParts) → a ≡ Dictionary p → ⊥) → kind_of a ≡ kind_in (physical_type_of (type_through (any_array_type a)))
own_kind a kind other =
    sym kind ∙ ap kind_in (sym (lies_through (any_array_type a) (λ is. no_dictionary_kind a other (sym kind ∙ is))))

-- ---- what a relation compares

pub kind_relation : (p : PhysicalType) (op : Relation) → HasRelation op p → KindHasRelation op (kind_in p)
kind_relation (physical.Primitive e) eq has = has
kind_relation p eq has = has
kind_relation p op has = has

-- it is equal or not
pub relation_equality : (k : Kind) (op : Relation) → KindHasRelation op k → KindHasEquality k
relation_equality (primitive_kind e) op has = tt
relation_equality k eq has = has
relation_equality k op has = has

-- ---- a scalar through its dictionaries

-- it is of the kind of an array's type through its own, where the types are one
pub value_kind : (t : ArrowType) (m : ArrowType × Slot) (value : AnyScalar) → logical t ≡ logical m.0 → IsThrough m value → scalar_kind value ≡ kind_in (physical_type_of (type_through t))
value_kind t m value one is =
    is.kind ∙ ap (λ u. kind_in (physical_type_of u)) (sym (one_through t m.0 one))

-- and a relation compares it that compares the array's type
pub value_relation : (op : Relation) (t : ArrowType) (m : ArrowType × Slot) (value : AnyScalar) → logical t ≡ logical m.0 → IsThrough m value → HasRelationThrough op t → KindHasRelation op (scalar_kind value)
value_relation op t m value one is has =
    subst (KindHasRelation op) (sym (value_kind t m value one is)) (kind_relation (physical_type_of (type_through t)) op has)
