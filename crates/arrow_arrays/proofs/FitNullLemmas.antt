-- Which null rows fit a type: then those of its children do.
use Rattle.std.proofs.Common.{◌≡◌, ℕ, zero, suc, ◌+◌, ◌-◌, ◌*◌, ◌/◌, ◌%◌, ◌<◌, ◌≤◌, ◌^◌, min, ℤ, pos, Bool, true, false, Option, Some, None, List, [], ◌∷◌, ◌++◌, length, map, flat_map, replicate, get_or, if◌then◌else◌, refl, ap, sym, ◌∙◌, subst, arith}
use Rattle.std.specs.List.{All}
use Rattle.std.specs.Ordering.{int_eq}
use Rattle.std.proofs.lemmas.Bool.Decides.{Decides-int_eq}
use Rattle.std.proofs.lemmas.List.{length-replicate}
use Rattle.std.proofs.Math.Nat.{mul-div_cancel, mod-eq-sub-div-mul}
use Rattle.std.proofs.lemmas.List.Concat.{flat_map-cons}
use Rattle.std.proofs.lemmas.List.Elements.{All-cons}
use Rattle.arrow_types.specs.declared.datatypes.UnionMode.TheVariants.{Dense, Sparse}
use Rattle.arrow_types.specs.declared.datatypes.physical_type.PhysicalType.{PhysicalType}
use Rattle.arrow_types.specs.declared.datatypes.physical_type.PhysicalType.TheVariants as physical
use Rattle.arrow_types.specs.declared.types.PrimitiveType.{PrimitiveType}
use Rattle.arrow_types.specs.declared.types.PrimitiveType.TheVariants as element
use Rattle.arrow_types.specs.declared.datatypes.IntegerType.TheVariants as key
use Rattle.arrow_types.specs.declared.datatypes.IntervalUnit.TheVariants as interval_unit
use Rattle.arrow_types.specs.ArrowType.{ArrowType, ArrowFields, PlainType, plain, list, struct, union, dictionary, extension, integer, float16, float32, float64, interval, fixed_size_binary, small, fixed_size, field, no_fields, more_fields, type_in, from_fields}
use Rattle.arrow_types.specs.Carried.{AreTypeIds, IsCarried, IsCarriedPlain}
use Rattle.arrow_types.specs.Fits.{Fits, FitsParts, FitsSparse, fixed_items_in, part_in, sparse_part, dense_part}
use Rattle.arrow_types.specs.Physical.{physical_type_of, plain_physical_type}
use Rattle.arrow_types.specs.Slot.{Slot, Null, Variant, id_at, null_slot}
use Rattle.arrow_types.proofs.FitsLemmas.{Fits-nil, Fits-beginning}
use Rattle.arrow_flat.specs.FixedRows.{fixed_size_in, FitsBytes}
use Rattle.arrow_arrays.proofs.TypeLemmas.{id_of_list}
use Rattle.arrow_arrays.specs.Nulls.{nulls_of, FitNulls, FitNullColumns}
use Rattle.arrow_arrays.specs.TypeParts.{item_type, list_size, field_types, mode_in}
use Rattle.arrow_arrays.proofs.NullLemmas.{map_constant}
use Rattle.arrow_arrays.proofs.ShapeLemmas.{struct_shape, union_shape, shape_of, shape_in, plain_shape, list_shaped}
use Rattle.arrow_arrays.proofs.UnionLemmas.{not_told}

-- bytes of a fixed size
pub bytes_fit : (t : ArrowType) (xs : List Slot) → Fits t xs → fixed_size_in t * length xs < 2 ^ 64
bytes_fit (plain (fixed_size_binary s)) xs h = h.1
bytes_fit (extension name metadata t) xs h = bytes_fit t xs h
bytes_fit t xs h = omega arith

pub null_bytes_fit : (t : ArrowType) (n : ℕ) → FitNulls n t → n * fixed_size_in t < 2 ^ 64
null_bytes_fit t n h =
    let size = fixed_size_in t in
    let counted : size * n < 2 ^ 64 = subst (λ (k : ℕ). size * k < 2 ^ 64) (length-replicate n (null_slot t)) (bytes_fit t (nulls_of t n) h) in
    omega (arith, counted)

-- items of a fixed size

more_copies : {A : Type 0} (a b : ℕ) (x : A) → replicate a x ++ replicate b x ≡ replicate (a + b) x
more_copies zero b x =
    let none : zero + b ≡ b = omega arith in
    rw none refl
more_copies (suc a) b x =
    let next : suc a + b ≡ suc (a + b) = omega arith in
    rw next (ap (λ ys. x ∷ ys) (more_copies a b x))

fixed_nulls : (s n : ℕ) (t : ArrowType) → flat_map (fixed_items_in s t) (replicate n Null) ≡ nulls_of t (n * s)
fixed_nulls s zero t =
    let none : zero * s ≡ zero = omega arith in
    rw none refl
fixed_nulls s (suc n) t =
    let split : suc n * s ≡ s + n * s = omega arith in
    rw split (flat_map-cons (fixed_items_in s t) Null (replicate n Null) ∙ (ap (λ ys. nulls_of t s ++ ys) (fixed_nulls s n t) ∙ more_copies s (n * s) (null_slot t)))

pub items_fit : (t : ArrowType) (n : ℕ) → physical_type_of t ≡ physical.FixedSizeList → FitNulls n t → (n * list_size t < 2 ^ 64) × FitNulls (n * list_size t) (item_type t)
items_fit (plain p) n kind h = cc (ap shape_of kind, plain_shape p)
items_fit (list (fixed_size s) (field name t nullable)) n kind h =
    let counted : s * n < 2 ^ 64 = subst (λ (k : ℕ). s * k < 2 ^ 64) (length-replicate n Null) h.1 in
    (omega (arith, counted), subst (Fits t) (fixed_nulls s n t) h.2)
items_fit (extension name metadata t) n kind h = items_fit t n kind h
items_fit t n kind h = cc

-- the columns of a struct

parts_fit : (fs : ArrowFields) (i n : ℕ) → FitsParts fs i (replicate n Null) → All (FitNulls n) (map type_in (from_fields fs))
parts_fit no_fields i n h = λ k d within. absurd (omega (arith, within))
parts_fit (more_fields (field name t nullable) fs) i n h =
    All-cons (FitNulls n) t (map type_in (from_fields fs)) (subst (Fits t) (map_constant (part_in i t) n Null) h.0) (parts_fit fs (suc i) n h.1)

all_columns : (n : ℕ) (ts : List ArrowType) → All (FitNulls n) ts → FitNullColumns n n ts
all_columns n [] all = tt
all_columns n (t ∷ ts) all = (all 0 t (omega arith), λ k d within. all (suc k) d (omega (arith, within)))

pub struct_fits : (t : ArrowType) (n : ℕ) → shape_in t ≡ struct_shape → FitNulls n t → FitNullColumns n n (field_types t)
struct_fits (plain p) n shape h = cc (plain_shape p)
struct_fits (list form f) n shape h = cc (list_shaped form)
struct_fits (struct fs) n shape h = all_columns n (map type_in (from_fields fs)) (parts_fit fs 0 n h.1)
struct_fits (union mode ids fs) n shape h = cc
struct_fits (dictionary keys ordered t) n shape h = cc
struct_fits (extension name metadata t) n shape h = struct_fits t n shape h

-- the fields of a sparse union

differs : (ids : Option (List ℤ)) (count i : ℕ) → AreTypeIds ids count → suc i < count → id_at ids (suc i) ≡ id_at ids 0 → ⊥
differs None count i held within same = cc
differs (Some ids) count i held within same =
    let here : suc i < length ids = omega (arith, held.0, within) in
    let first : 0 < length ids = omega (arith, held.0, within) in
    held.1.0 0 (suc i) (pos 0) (omega arith) here (sym (sym (id_of_list ids (suc i) here) ∙ (same ∙ id_of_list ids 0 first)))

other_id : (ids : Option (List ℤ)) (count i : ℕ) → AreTypeIds ids count → suc i < count → int_eq (id_at ids (suc i)) (id_at ids 0) ≡ false
other_id ids count i held within =
    not_told (int_eq (id_at ids (suc i)) (id_at ids 0)) (λ told. differs ids count i held within ((Decides-int_eq (id_at ids (suc i)) (id_at ids 0)).0 told))

same_either : (b : Bool) (s : Slot) → (if b then s else s) ≡ s
same_either true s = refl
same_either false s = refl

otherwise : (b : Bool) (s r : Slot) → b ≡ false → (if b then s else r) ≡ r
otherwise true s r is = cc
otherwise false s r is = refl

others_fit : (fs : ArrowFields) (ids : Option (List ℤ)) (count i : ℕ) (s : Slot) (n : ℕ) → AreTypeIds ids count → suc i + length (from_fields fs) ≡ count → FitsSparse fs ids (suc i) (replicate n (Variant (id_at ids 0) s)) → All (FitNulls n) (map type_in (from_fields fs))
others_fit no_fields ids count i s n held long h = λ k d within. absurd (omega (arith, within))
others_fit (more_fields (field name t nullable) fs) ids count i s n held long h =
    let id = id_at ids (suc i) in
    let other = otherwise (int_eq id (id_at ids 0)) s (null_slot t) (other_id ids count i held (omega (arith, long))) in
    let first = subst (Fits t) (map_constant (sparse_part id t) n (Variant (id_at ids 0) s) ∙ ap (replicate n) other) h.0 in
    All-cons (FitNulls n) t (map type_in (from_fields fs)) first (others_fit fs ids count (suc i) s n held (omega (arith, long)) h.1)

pub sparse_fits : (t : ArrowType) (n : ℕ) → IsCarried t → shape_in t ≡ union_shape → mode_in t ≡ Sparse → FitNulls n t → FitNullColumns n n (field_types t)
sparse_fits (plain p) n carried shape mode h = cc (plain_shape p)
sparse_fits (list form f) n carried shape mode h = cc (list_shaped form)
sparse_fits (union Sparse ids no_fields) n carried shape mode h = tt
sparse_fits (union Sparse ids (more_fields (field name t nullable) fs)) n carried shape mode h =
    let id = id_at ids 0 in
    let same = same_either (int_eq id id) (null_slot t) in
    (subst (Fits t) (map_constant (sparse_part id t) n (Variant id (null_slot t)) ∙ ap (replicate n) same) h.1.0, others_fit fs ids (length (from_fields (more_fields (field name t nullable) fs))) 0 (null_slot t) n carried.0 (omega arith) h.1.1)
sparse_fits (extension name metadata t) n carried shape mode h = sparse_fits t n carried shape mode h
sparse_fits t n carried shape mode h = cc

-- and those of a dense one

own_rows : (id : ℤ) (s : Slot) (n : ℕ) → dense_part id (replicate n (Variant id s)) ≡ replicate n s
own_rows id s zero = refl
own_rows id s (suc n) =
    let told : int_eq id id ≡ true = (Decides-int_eq id id).1 refl in
    rw told (ap (λ ys. s ∷ ys) (own_rows id s n))

fewer_fit : (t : ArrowType) (n k : ℕ) → k ≤ n → FitNulls n t → FitNulls k t
fewer_fit t n k less h =
    let split : k + (n - k) ≡ n = omega (arith, less) in
    Fits-beginning t (nulls_of t k) (nulls_of t (n - k)) (subst (Fits t) (sym (more_copies k (n - k) (null_slot t) ∙ ap (nulls_of t) split)) h)

no_rows_fit : (ts : List ArrowType) → All (FitNulls 0) ts
no_rows_fit ts = λ k d within. Fits-nil (get_or ts k d)

pub dense_fits : (t : ArrowType) (n : ℕ) → shape_in t ≡ union_shape → mode_in t ≡ Dense → FitNulls n t → FitNullColumns (min n 1) 0 (field_types t)
dense_fits (plain p) n shape mode h = cc (plain_shape p)
dense_fits (list form f) n shape mode h = cc (list_shaped form)
dense_fits (union Dense ids no_fields) n shape mode h = tt
dense_fits (union Dense ids (more_fields (field name t nullable) fs)) n shape mode h =
    let all = subst (Fits t) (own_rows (id_at ids 0) (null_slot t) n) h.1.1 in
    (fewer_fit t n (min n 1) (omega arith) all, no_rows_fit (map type_in (from_fields fs)))
dense_fits (extension name metadata t) n shape mode h = dense_fits t n shape mode h
dense_fits t n shape mode h = cc

-- a carried type is no float

abbrev pub is_float : PhysicalType → Bool
is_float (physical.Primitive element.Float16) = true
is_float (physical.Primitive element.Float32) = true
is_float (physical.Primitive element.Float64) = true
is_float _ = false

plain_no_float : (p : PlainType) → IsCarriedPlain p → is_float (plain_physical_type p) ≡ false
plain_no_float float16 carried = absurd carried
plain_no_float float32 carried = absurd carried
plain_no_float float64 carried = absurd carried
plain_no_float (integer key.Int8) carried = refl
plain_no_float (interval interval_unit.YearMonth) carried = refl
plain_no_float p carried = refl

pub no_float : (t : ArrowType) → IsCarried t → is_float (physical_type_of t) ≡ false
no_float (plain p) carried = plain_no_float p carried
no_float (extension name metadata t) carried = no_float t carried
no_float (list small f) carried = refl
no_float t carried = refl

-- an element that is no float is one of the others
pub all_elements : (e : PrimitiveType) → is_float (physical.Primitive e) ≡ false → (e ≡ element.Int8 → ⊥) → (e ≡ element.Int16 → ⊥) → (e ≡ element.Int32 → ⊥) → (e ≡ element.Int64 → ⊥) → (e ≡ element.Int128 → ⊥) → (e ≡ element.Int256 → ⊥) → (e ≡ element.UInt8 → ⊥) → (e ≡ element.UInt16 → ⊥) → (e ≡ element.UInt32 → ⊥) → (e ≡ element.UInt64 → ⊥) → (e ≡ element.DaysMs → ⊥) → (e ≡ element.MonthDayNano → ⊥) → ⊥
all_elements element.Int8 told a b c d e f g h i j k l = a refl
all_elements element.Int16 told a b c d e f g h i j k l = b refl
all_elements element.Int32 told a b c d e f g h i j k l = c refl
all_elements element.Int64 told a b c d e f g h i j k l = d refl
all_elements element.Int128 told a b c d e f g h i j k l = e refl
all_elements element.Int256 told a b c d e f g h i j k l = f refl
all_elements element.UInt8 told a b c d e f g h i j k l = g refl
all_elements element.UInt16 told a b c d e f g h i j k l = h refl
all_elements element.UInt32 told a b c d e f g h i j k l = i refl
all_elements element.UInt64 told a b c d e f g h i j k l = j refl
all_elements element.DaysMs told a b c d e f g h i j k l = k refl
all_elements element.MonthDayNano told a b c d e f g h i j k l = l refl
all_elements _ told a b c d e f g h i j k l = cc

-- rows of a size under a validity without a set bit
pub whole_product : (n size count : ℕ) → 0 < size → count ≡ n * size → (count % size ≡ 0) × (count / size ≡ n)
whole_product n size count some is =
    let rows : count / size ≡ n = ap (λ m. m / size) is ∙ mul-div_cancel n some in
    let whole : count / size * size ≡ count = ap (λ m. m * size) rows ∙ sym is in
    (omega (arith, mod-eq-sub-div-mul count size, whole), rows)

pub zero_rows_fit : (n size : ℕ) (bytes : List ℕ) (bits : List Bool) → 0 < size → bytes ≡ replicate (n * size) 0 → bits ≡ replicate n false → FitsBytes size (length bytes) (Some bits)
zero_rows_fit n size bytes bits some zeros unset =
    let long : length bytes ≡ n * size = ap length zeros ∙ length-replicate (n * size) 0 in
    let rows = whole_product n size (length bytes) some long in
    (rows.0, ap length unset ∙ (length-replicate n false ∙ sym rows.1))

pub bytes_of_zeros : (n size : ℕ) (bytes : List ℕ) → 0 < size → bytes ≡ replicate (n * size) 0 → length bytes / size ≡ n
bytes_of_zeros n size bytes some zeros =
    (whole_product n size (length bytes) some (ap length zeros ∙ length-replicate (n * size) 0)).1
