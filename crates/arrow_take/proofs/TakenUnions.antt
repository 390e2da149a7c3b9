-- Unions by index, of either mode: an array of the type ids, the offsets and what each field has of the rows that are named.
use Rattle.arrow_take.proofs.Common.{arith, ◌≡◌, ◌<◌, ◌^◌, ℕ, zero, suc, ℤ, pos, Some, None, Option, List, [], ◌∷◌, length, map, sym, subst, ◌∙◌, All, ints, get_or_default, length-map, UnionMode, Dense, Sparse, ArrowType, plain, list, union, extension, from_fields, type_in, AreTypeIds, IsCarried, IsTypeId, Fits, physical_type_of, gather, Slot, id_at, AnyArray, any_array_rows, any_array_type, layout_of, field_ids, field_types, mode_in, FitsMode, UnionParts, union_rows, list_shaped, plain_shape, variant_fits, HasOffsets, NamesPart, PartDoesNotFit, SomePartDoesNotFit}
use Rattle.arrow_types.specs.declared.datatypes.physical_type.PhysicalType.TheVariants as physical
use Rattle.arrow_take.proofs.DenseRows.{dense_made}
use Rattle.arrow_take.proofs.MadeUnions.{KnownRows, MakesUnion, PartsOf, made_known, made_typed}
use Rattle.arrow_take.proofs.SparseRows.{arrays_fit, arrays_long, arrays_rows}
use Rattle.arrow_take.proofs.TakenVariants.{TakesUnion, known_rows}

-- each type id of a union is one from 0 to 127
given_id : (ids : List ℤ) (f : ℕ) → f < length ids → All IsTypeId ids → IsTypeId (id_at (Some ids) f)
given_id [] f within all = absurd (omega (arith, within))
given_id (id ∷ ids) zero within all = all 0 id (omega arith)
given_id (id ∷ ids) (suc f) within all = given_id ids f (omega (arith, within)) (λ k d inside. all (suc k) d (omega (arith, inside)))

id_of_field : (ids : Option (List ℤ)) (count f : ℕ) → AreTypeIds ids count → f < count → IsTypeId (id_at ids f)
id_of_field None count f are within = (omega (arith, ints), omega (arith, ints, are, within))
id_of_field (Some ids) count f are within = given_id ids f (omega (arith, are.0, within)) are.1.1

id_of_type : (t : ArrowType) (f : ℕ) → IsCarried t → physical_type_of t ≡ physical.Union → f < length (field_types t) → IsTypeId (id_at (field_ids t) f)
id_of_type (plain p) f carried kind within = cc (plain_shape p)
id_of_type (list form g) f carried kind within = cc (list_shaped form)
id_of_type (union mode ids fs) f carried kind within =
    id_of_field ids (length (from_fields fs)) f carried.0 (omega (arith, within, length-map (from_fields fs) type_in))
id_of_type (extension name metadata t) f carried kind within = id_of_type t f carried kind within
id_of_type t f carried kind within = cc

-- a part of rows that is too much for its field
pub part_passes : {p : UnionParts} {indices : List Slot} {f : ℕ} {q : AnyArray} {own : List Slot} → NamesPart p indices f q own → (Fits (any_array_type q) (gather (any_array_rows q) own (any_array_type q)) → ⊥) → PartDoesNotFit p.arrow_type (gather (union_rows p) indices p.arrow_type) f
part_passes names over fits =
    over (subst {A = ArrowType × List Slot} (λ r. Fits r.0 r.1) (λ i. (sym names.array_type i, sym names.rows i)) fits)

-- rows by index have ids from 0 to 127
pub ids_counted : {p : UnionParts} {indices : List Slot} {types : List ℤ} → TakesUnion p indices types → All IsTypeId types
ids_counted {p} {indices} {types} takes i d within =
    let known = ((known_rows takes).named i (omega (arith, within, (known_rows takes).long))).2 in
    subst IsTypeId (known.2 ∙ get_or_default types i (pos 0) d within) (id_of_type p.arrow_type known.0 takes.held.kind.0 takes.held.kind.1 known.1)

-- a part that does not fit
pub parts_pass : {t : ArrowType} {made : List Slot} {types : List ℤ} → KnownRows t made types → SomePartDoesNotFit t made → Fits t made → ⊥
parts_pass {t} {made} known some_part fits =
    some_part.2 (variant_fits t some_part.0 made known.kind.1 some_part.1 fits).1

-- arrays of what each field has are a union of the rows
module _ {t : ArrowType} {made : List Slot} {types : List ℤ} {arrays : List AnyArray} (parts : PartsOf t made types arrays) (counted : length made < 2 ^ 64) where
  sparse_made : mode_in t ≡ Sparse → MakesUnion t made types None arrays
  sparse_made mode =
      let known = parts.known in
      record {
        holds = (known.kind, made_typed parts, subst (λ m. FitsMode m types None (map layout_of arrays)) (sym mode) (arrays_long t known.kind mode made types known.long known.named arrays parts.count parts.have), tt, made_known parts);
        rows = arrays_rows t known.kind mode made types known.long known.named arrays parts.count parts.have;
        fits = arrays_fit t known.kind mode made types known.long known.named arrays parts.count parts.have counted;
      }

  pub union_made : (m : UnionMode) (offsets : Option (List ℤ)) → mode_in t ≡ m → HasOffsets m types offsets → MakesUnion t made types offsets arrays
  union_made Sparse offsets mode none = subst (λ o. MakesUnion t made types o arrays) (sym none) (sparse_made mode)
  union_made Dense offsets mode are =
      subst (λ o. MakesUnion t made types o arrays) (sym are.0) (dense_made parts mode are.1 counted)
