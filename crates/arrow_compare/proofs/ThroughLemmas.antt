-- Rows and scalars that are themselves through dictionaries, since none is around them.
use Rattle.std.proofs.Common.{rules, ◌≡◌, Bool, false, Option, Some, None, List, map, refl, ap, subst, sym, ◌∙◌}
use Rattle.std.specs.Borrow.{Bor}
use Rattle.std.specs.Option.{MatchOption}
use Rattle.std.proofs.lemmas.Simd.{map-map}
use Rattle.arrow_types.specs.ArrowType.{logical}
use Rattle.arrow_types.specs.Physical.{physical_type_of}
use Rattle.arrow_types.specs.Relation.{Relation, eq, is_null, through}
use Rattle.arrow_types.specs.Rows.{masked}
use Rattle.arrow_types.specs.Slot.{Slot, Null}
use Rattle.arrow_flat.specs.AnyPrimitive.{any_rows}
use Rattle.arrow_flat.specs.AnyPrimitiveScalar.{any_scalar_slot}
use Rattle.arrow_flat.specs.AnyScalar.{meaning_of}
use Rattle.arrow_flat.specs.DictionaryScalar.{DictionaryParts, IsDictionary, IsOf, dict_by, values_in}
use Rattle.arrow_flat.specs.Scalars.{slot_by}
use Rattle.arrow_flat.specs.declared.array.any_primitive.AnyPrimitive.{AnyPrimitive}
use Rattle.arrow_flat.specs.declared.array.any_primitive.AnyPrimitive.TheVariants as element
use Rattle.arrow_flat.specs.declared.scalar.dictionary.AnyScalar.{AnyScalar}
use Rattle.arrow_flat.specs.declared.scalar.dictionary.AnyScalar.TheVariants as scalar
use Rattle.arrow_flat.specs.declared.scalar.primitive.AnyPrimitiveScalar.{AnyPrimitiveScalar}
use Rattle.arrow_flat.specs.declared.scalar.primitive.AnyPrimitiveScalar.TheVariants as number
use Rattle.arrow_arrays.specs.Any.{Kind, any_array_rows, any_array_type, dictionary_kind, kind_in, kind_of}
use Rattle.arrow_arrays.specs.KeyedParts.{KeyedParts}
use Rattle.arrow_arrays.specs.declared.array.any.AnyArray.{AnyArray}
use Rattle.arrow_arrays.specs.declared.array.any.AnyArray.TheVariants as array
use Rattle.arrow_flat.proofs.RowLemmas.{map-masked}
use Rattle.arrow_relate.proofs.RowLemmas.{row_by_row-replicate}
use Rattle.arrow_compare.specs.Compared.{HasEquality, type_through}
use Rattle.arrow_compare.specs.Kinds.{IsThrough, KindHasEquality, KindHasRelation, scalar_kind}
use Rattle.arrow_compare.specs.Laws.{IsAsRepeated}
use Rattle.arrow_compare.proofs.KindLemmas.{kind_relation, lies_through, one_kind, one_through, own_kind, relation_equality, values_through}
use Rattle.arrow_compare.proofs.RelationLemmas.{IsComparable}

-- ---- rows that are stored, under a validity

rows_through : {A : Type 0} (g : A → Slot) → ((x : A) → through (g x) ≡ g x) → (v : Option (List Bool)) (xs : List A) → map through (masked v (map g xs)) ≡ masked v (map g xs)
rows_through g one v xs =
    map-masked through refl v (map g xs) ∙ ap (masked v) (map-map through g xs ∙ (λ i. map (λ x. one x i) xs))

primitive_through : (p : AnyPrimitive) → map through (any_rows p) ≡ any_rows p
primitive_through (element.Int8 p) = rows_through _ (λ x. refl) p.validity p.values
primitive_through p = rows_through _ (λ x. refl) _ _

-- the rows of an array of a kind that has equality
flat_through : (a : AnyArray) → KindHasEquality (kind_of a) → map through (any_array_rows a) ≡ any_array_rows a
flat_through (array.Primitive p) has = primitive_through p
flat_through a has = search (rules, rows_through)

flat_rows : (a : AnyArray) → KindHasEquality (kind_of a) → (f : Slot → Slot) → map (λ s. f (through s)) (any_array_rows a) ≡ map f (any_array_rows a)
flat_rows a has f = sym (map-map f through (any_array_rows a)) ∙ ap (map f) (flat_through a has)

-- and of one that is no dictionary, of a kind that a relation compares
pub own_rows : (a : AnyArray) → kind_in (physical_type_of (any_array_type a)) ≡ kind_of a → ((p : KeyedParts) → a ≡ array.Dictionary p → ⊥) → (k : Kind) → k ≡ kind_in (physical_type_of (type_through (any_array_type a))) → (op : Relation) → KindHasRelation op k → (f : Slot → Slot) → map (λ s. f (through s)) (any_array_rows a) ≡ map f (any_array_rows a)
own_rows a kind other k is op has =
    flat_rows a (relation_equality (kind_of a) op (subst (KindHasRelation op) (is ∙ sym (own_kind a kind other)) has))

-- ---- scalars that are no dictionary's

-- a slot that is itself through dictionaries, and null, or a value that has equality
record IsFlat (s : Slot) : Type 0 where
  own : through s ≡ s
  compares : is_null s ≡ false → IsComparable s

slot_flat : {A : Type 0} (g : A → Slot) → ((x : A) → through (g x) ≡ g x) → ((x : A) → IsComparable (g x)) → (v : Option A) → IsFlat (slot_by g v)
slot_flat g own compares None = record { own = refl; compares = λ valid. cc }
slot_flat g own compares (Some x) = record { own = own x; compares = λ valid. compares x }

number_flat : (p : AnyPrimitiveScalar) → IsFlat (any_scalar_slot p)
number_flat (number.Int8 p) = slot_flat _ (λ x. refl) (λ x. refl) p.value
number_flat p = search (rules, slot_flat)

scalar_flat : (s : AnyScalar) → KindHasEquality (scalar_kind s) → IsFlat (meaning_of s).1
scalar_flat (scalar.Primitive p) has = number_flat p
scalar_flat (scalar.Dictionary p) has = absurd has
scalar_flat s has = search (rules, slot_flat)

pub scalar_compares : (s : AnyScalar) → KindHasEquality (scalar_kind s) → is_null (meaning_of s).1 ≡ false → IsComparable (meaning_of s).1
scalar_compares s has = (scalar_flat s has).compares

-- ---- scalars through their dictionaries

-- a scalar that is no dictionary's has equality
pub scalar_equality : (s : AnyScalar) → ((p : DictionaryParts) → s ≡ scalar.Dictionary p → ⊥) → KindHasEquality (scalar_kind s)
scalar_equality (scalar.Dictionary p) other = absurd (other p refl)
scalar_equality s other = tt

-- and is itself through dictionaries, if it is no null
pub itself_through : (s : AnyScalar) → KindHasEquality (scalar_kind s) → is_null (meaning_of s).1 ≡ false → kind_in (physical_type_of (meaning_of s).0) ≡ scalar_kind s → IsThrough (meaning_of s) s
itself_through s has valid kind =
    let other : kind_in (physical_type_of (meaning_of s).0) ≡ dictionary_kind → ⊥ = λ is. subst KindHasEquality (sym kind ∙ is) has in
    record { slot = (scalar_flat s has).own; valid = valid; kind = sym kind ∙ ap kind_in (sym (lies_through (meaning_of s).0 other)) }

-- what the value of a dictionary's scalar is through dictionaries, the scalar is
pub entry_through : (s : AnyScalar) (p : DictionaryParts) (value : Bor AnyScalar) (read : Option (Bor AnyScalar)) → s ≡ scalar.Dictionary p → Some (meaning_of value.now) ≡ p.value → IsDictionary p → MatchOption read (through (meaning_of value.now).1 ≡ Null) (λ found. IsThrough (meaning_of value.now) found.now) → MatchOption read (through (meaning_of s).1 ≡ Null) (λ found. IsThrough (meaning_of s) found.now)
entry_through s p value None is held sound found =
    ap (λ x. through (meaning_of x).1) is ∙ (ap (λ o. through (dict_by o)) (sym held) ∙ found)
entry_through s p value (Some inner) is held sound found =
    let slot = ap (λ x. through (meaning_of x).1) is ∙ ap (λ o. through (dict_by o)) (sym held) in
    let one : logical (meaning_of value.now).0 ≡ logical (values_in p.arrow_type) = subst (IsOf (values_in p.arrow_type)) (sym held) sound.child in
    let types = ap (λ x. type_through (meaning_of x).0) is ∙ (sym (values_through p.arrow_type) ∙ sym (one_through (meaning_of value.now).0 (values_in p.arrow_type) one)) in
    record { slot = slot ∙ found.slot; valid = found.valid; kind = found.kind ∙ ap (λ t. kind_in (physical_type_of t)) (sym types) }

-- ---- a scalar beside each row of an array, of types that are logically one
pub scalar_repeated : (a : AnyArray) (v : AnyScalar) (f : Slot → Slot → Slot) → logical (any_array_type a) ≡ logical (meaning_of v).0 → HasEquality (physical_type_of (any_array_type a)) → kind_in (physical_type_of (any_array_type a)) ≡ kind_of a → kind_in (physical_type_of (meaning_of v).0) ≡ scalar_kind v → IsAsRepeated f (any_array_rows a) (meaning_of v).1
scalar_repeated a v f one has kind scalar_is =
    let t = any_array_type a in
    let r = (meaning_of v).1 in
    let equality : KindHasEquality (kind_of a) = subst KindHasEquality kind (kind_relation (physical_type_of t) eq has) in
    let kinds = one_kind t (meaning_of v).0 (kind_of a) (scalar_kind v) one kind scalar_is in
    ap (λ slot. map (λ s. f (through s) slot) (any_array_rows a)) (scalar_flat v (subst KindHasEquality kinds equality)).own ∙ (flat_rows a equality (λ s. f s r) ∙ sym (row_by_row-replicate f (any_array_rows a) r))
