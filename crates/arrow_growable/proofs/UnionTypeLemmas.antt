-- What the type of a union says: ids that differ, null slots, and which rows fit by what each child holds of them.
use Rattle.arrow_growable.proofs.Common.{arith, ◌≡◌, ◌+◌, ◌<◌, ◌≤◌, ◌^◌, ◌⊎◌, inl, inr, ℕ, zero, suc, ℤ, pos, Option, Some, None, List, [], ◌∷◌, length, map, get_or, Vec, Global, refl, ap, sym, subst, ◌∙◌, slice_index_or, length-map, DataType, Union, Field, UnionMode, Dense, Sparse, ArrowType, ArrowFields, plain, list, union, extension, null, field, no_fields, more_fields, type_in, from_fields, AreTypeIds, IsCarried, IsTypeId, fields_of, ids_of, type_of, type_of-Union, Fits, FitsDense, FitsSparse, dense_part, sparse_part, physical_type_of, Slot, Variant, id_at, null_slot, IsCarriedAs, field_ids, field_types, mode_in, list_shaped, plain_shape, field_part, variant_type}
use Rattle.arrow_types.specs.declared.datatypes.physical_type.PhysicalType.TheVariants as physical
use Rattle.arrow_growable.proofs.VariantColumns.{AreApart}

-- ids differ from field to field

id_given : (ids : List ℤ) (f : ℕ) (d : ℤ) → f < length ids → id_at (Some ids) f ≡ get_or ids f d
id_given [] f d within = absurd (omega (arith, within))
id_given (id ∷ ids) zero d within = refl
id_given (id ∷ ids) (suc f) d within = id_given ids f d (omega (arith, within))

pub before_or_same : (f g : ℕ) → (f < g) ⊎ ((f ≡ g) ⊎ (g < f))
before_or_same zero zero = inr (inl refl)
before_or_same zero (suc g) = inl (omega arith)
before_or_same (suc f) zero = inr (inr (omega arith))
before_or_same (suc f) (suc g) =
    elim (before_or_same f g) [ inl less ↦ inl (omega (arith, less)) | inr rest ↦ inr (elim rest [ inl same ↦ inl (ap suc same) | inr more ↦ inr (omega (arith, more)) ]) ]

given_apart : (ids : List ℤ) (count f g : ℕ) → AreTypeIds (Some ids) count → f < count → g < count → id_at (Some ids) f ≡ id_at (Some ids) g → f ≡ g
given_apart ids count f g are low high same =
    let long = are.0 in
    let at : get_or ids f (pos 0) ≡ get_or ids g (pos 0) = sym (id_given ids f (pos 0) (omega (arith, low, long))) ∙ (same ∙ id_given ids g (pos 0) (omega (arith, high, long))) in
    elim (before_or_same f g) [
      | inl less ↦ absurd (are.1.0 f g (pos 0) less (omega (arith, high, long)) at)
      | inr rest ↦ elim rest [ inl is ↦ is | inr more ↦ absurd (are.1.0 g f (pos 0) more (omega (arith, low, long)) (sym at)) ]
    ]

apart_of : (ids : Option (List ℤ)) (count : ℕ) → AreTypeIds ids count → AreApart ids count
apart_of None count are f g low high same = cc
apart_of (Some ids) count are f g low high same = given_apart ids count f g are low high same

ids_of_union : (t : ArrowType) → IsCarried t → physical_type_of t ≡ physical.Union → AreApart (field_ids t) (length (field_types t))
ids_of_union (plain p) carried kind = cc (plain_shape p)
ids_of_union (list form f) carried kind = cc (list_shaped form)
ids_of_union (union mode ids fs) carried kind =
    subst (AreApart ids) (sym (length-map (from_fields fs) type_in)) (apart_of ids (length (from_fields fs)) carried.0)
ids_of_union (extension name metadata t) carried kind = ids_of_union t carried kind
ids_of_union t carried kind = cc

pub ids_apart : (t : ArrowType) → IsCarriedAs physical.Union t → AreApart (field_ids t) (length (field_types t))
ids_apart t kind = ids_of_union t kind.0 kind.1

-- an id that a data type lists

told : (ids : List ℤ) (fs : ArrowFields) (f : ℕ) (id : ℤ) → AreTypeIds (Some ids) (length (from_fields fs)) → f < length (map type_in (from_fields fs)) → id ≡ get_or ids f id → (id_at (Some ids) f ≡ id) × IsTypeId id
told ids fs f id are within read =
    let inside : f < length ids = omega (arith, within, are.0, length-map (from_fields fs) type_in) in
    (id_given ids f id inside ∙ sym read, subst IsTypeId (sym read) (are.1.1 f id inside))

pub id_told : (t : DataType) (fields : Vec Field Global) (ids : Option (Vec ℤ Global)) (mode : UnionMode) (given_ids : Vec ℤ Global) (f : ℕ) (id : ℤ) → IsCarriedAs physical.Union (type_of t) → t ≡ Union fields ids mode → ids ≡ Some given_ids → f < length (field_types (type_of t)) → id ≡ get_or given_ids.items f id → (id_at (field_ids (type_of t)) f ≡ id) × IsTypeId id
id_told t fields ids mode given_ids f id kind is some within read =
    let seen : type_of t ≡ union mode (Some given_ids.items) (fields_of fields.items) = ap type_of is ∙ (type_of-Union fields ids mode ∙ ap (λ o. union mode (ids_of o) (fields_of fields.items)) some) in
    let carried = subst IsCarried seen kind.0 in
    let inside = subst (λ u. f < length (field_types u)) seen within in
    let is_told = told given_ids.items (fields_of fields.items) f id carried.0 inside read in
    (ap (λ u. id_at (field_ids u) f) seen ∙ is_told.0, is_told.1)

-- a null slot is one of the first field

pub null_variant : (t : ArrowType) → physical_type_of t ≡ physical.Union → 0 < length (field_types t) → null_slot t ≡ Variant (id_at (field_ids t) 0) (null_slot (variant_type t 0))
null_variant (plain p) kind some = cc (plain_shape p)
null_variant (list form f) kind some = cc (list_shaped form)
null_variant (union mode ids no_fields) kind some = absurd (omega (arith, some))
null_variant (union mode ids (more_fields (field name t nullable) fs)) kind some = refl
null_variant (extension name metadata t) kind some = null_variant t kind some
null_variant t kind some = cc

-- rows that fit do so in each child

abbrev type_of_field : ArrowFields → ℕ → ArrowType
type_of_field fs f = slice_index_or (map type_in (from_fields fs)) f (plain null)

sparse_fits : (fs : ArrowFields) (ids : Option (List ℤ)) (i f j : ℕ) (xs : List Slot) → j ≡ i + f → f < length (map type_in (from_fields fs)) → FitsSparse fs ids i xs → Fits (type_of_field fs f) (map (sparse_part (id_at ids j) (type_of_field fs f)) xs)
sparse_fits no_fields ids i f j xs at within fits = absurd (omega (arith, within))
sparse_fits (more_fields (field name t nullable) fs) ids i zero j xs at within fits =
    let same : i ≡ j = omega (arith, at) in
    subst (λ k. Fits t (map (sparse_part (id_at ids k) t) xs)) same fits.0
sparse_fits (more_fields (field name t nullable) fs) ids i (suc f) j xs at within fits =
    sparse_fits fs ids (suc i) f j xs (omega (arith, at)) (omega (arith, within)) fits.1

dense_fits : (fs : ArrowFields) (ids : Option (List ℤ)) (i f j : ℕ) (xs : List Slot) → j ≡ i + f → f < length (map type_in (from_fields fs)) → FitsDense fs ids i xs → (length (dense_part (id_at ids j) xs) ≤ 2 ^ 31) × Fits (type_of_field fs f) (dense_part (id_at ids j) xs)
dense_fits no_fields ids i f j xs at within fits = absurd (omega (arith, within))
dense_fits (more_fields (field name t nullable) fs) ids i zero j xs at within fits =
    let same : i ≡ j = omega (arith, at) in
    subst (λ k. (length (dense_part (id_at ids k) xs) ≤ 2 ^ 31) × Fits t (dense_part (id_at ids k) xs)) same (fits.0, fits.1)
dense_fits (more_fields (field name t nullable) fs) ids i (suc f) j xs at within fits =
    dense_fits fs ids (suc i) f j xs (omega (arith, at)) (omega (arith, within)) fits.2

-- at most so many rows of one id, in a dense union
abbrev pub FitsPlaces : UnionMode → ℕ → Type 0
FitsPlaces Sparse n = Unit {0}
FitsPlaces Dense n = n ≤ 2 ^ 31

pub variant_fits : (t : ArrowType) (f : ℕ) (xs : List Slot) → physical_type_of t ≡ physical.Union → f < length (field_types t) → Fits t xs → FitsPlaces (mode_in t) (length (field_part t f xs)) × Fits (variant_type t f) (field_part t f xs)
variant_fits (plain p) f xs kind within fits = cc (plain_shape p)
variant_fits (list form g) f xs kind within fits = cc (list_shaped form)
variant_fits (union Sparse ids fs) f xs kind within fits =
    (tt, sparse_fits fs ids 0 f f xs (omega arith) within fits.1)
variant_fits (union Dense ids fs) f xs kind within fits =
    dense_fits fs ids 0 f f xs (omega arith) within fits.1
variant_fits (extension name metadata t) f xs kind within fits = variant_fits t f xs kind within fits
variant_fits t f xs kind within fits = cc

-- and fit where they do

fit_sparse : (fs : ArrowFields) (ids : Option (List ℤ)) (i : ℕ) (xs : List Slot) → ((f j : ℕ) → j ≡ i + f → f < length (map type_in (from_fields fs)) → Fits (type_of_field fs f) (map (sparse_part (id_at ids j) (type_of_field fs f)) xs)) → FitsSparse fs ids i xs
fit_sparse no_fields ids i xs each = tt
fit_sparse (more_fields (field name t nullable) fs) ids i xs each =
    (each 0 i (omega arith) (omega arith), fit_sparse fs ids (suc i) xs (λ f j at within. each (suc f) j (omega (arith, at)) (omega (arith, within))))

fit_dense : (fs : ArrowFields) (ids : Option (List ℤ)) (i : ℕ) (xs : List Slot) → ((f j : ℕ) → j ≡ i + f → f < length (map type_in (from_fields fs)) → (length (dense_part (id_at ids j) xs) ≤ 2 ^ 31) × Fits (type_of_field fs f) (dense_part (id_at ids j) xs)) → FitsDense fs ids i xs
fit_dense no_fields ids i xs each = tt
fit_dense (more_fields (field name t nullable) fs) ids i xs each =
    let first = each 0 i (omega arith) (omega arith) in
    (first.0, first.1, fit_dense fs ids (suc i) xs (λ f j at within. each (suc f) j (omega (arith, at)) (omega (arith, within))))

pub fits_variants : (t : ArrowType) (xs : List Slot) → physical_type_of t ≡ physical.Union → length xs < 2 ^ 64 → ((f : ℕ) → f < length (field_types t) → FitsPlaces (mode_in t) (length (field_part t f xs)) × Fits (variant_type t f) (field_part t f xs)) → Fits t xs
fits_variants (plain p) xs kind counted each = cc (plain_shape p)
fits_variants (list form f) xs kind counted each = cc (list_shaped form)
fits_variants (union Sparse ids fs) xs kind counted each =
    let among : (f j : ℕ) → j ≡ 0 + f → f < length (map type_in (from_fields fs)) → Fits (type_of_field fs f) (map (sparse_part (id_at ids j) (type_of_field fs f)) xs) =
    λ f j at within. subst (λ k. Fits (type_of_field fs f) (map (sparse_part (id_at ids k) (type_of_field fs f)) xs)) (omega (arith, at)) (each f within).1 in
    (counted, fit_sparse fs ids 0 xs among)
fits_variants (union Dense ids fs) xs kind counted each =
    let among : (f j : ℕ) → j ≡ 0 + f → f < length (map type_in (from_fields fs)) → (length (dense_part (id_at ids j) xs) ≤ 2 ^ 31) × Fits (type_of_field fs f) (dense_part (id_at ids j) xs) =
    λ f j at within. subst (λ k. (length (dense_part (id_at ids k) xs) ≤ 2 ^ 31) × Fits (type_of_field fs f) (dense_part (id_at ids k) xs)) (omega (arith, at)) (each f within) in
    (counted, fit_dense fs ids 0 xs among)
fits_variants (extension name metadata t) xs kind counted each = fits_variants t xs kind counted each
fits_variants t xs kind counted each = cc
