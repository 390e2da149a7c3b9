-- Rows that a mask keeps of rows that fit a type fit it.
use Rattle.arrow_select.proofs.Common.{◌≡◌, ℕ, suc, ◌*◌, ◌<◌, ◌≤◌, ◌^◌, ℤ, true, false, Bool, Option, List, [], ◌∷◌, ◌++◌, length, map, sum_by, flat_map, replicate, if◌then◌else◌, refl, ap, sym, subst, ◌∙◌, arith, mul-le-mul_left, All-cons, All-head, All-nil, All-tail, sum_by-cons, map-map, int_eq, Dense, Sparse, ArrowType, ArrowFields, PlainType, ListForm, plain, list, struct, union, dictionary, extension, field, no_fields, more_fields, small, large, fixed_size, mapped, binary, large_binary, utf8, large_utf8, fixed_size_binary, IsCounted, byte_count, items_in, all_items, fixed_items_in, part_in, sparse_part, dense_part, FitsPlain, FitsForm, child_rows, Fits, FitsParts, FitsSparse, FitsDense, select, Slot, Variant, id_at, AreKeys, IsKey, key_in, keys_in, keyed_item}

-- a mask that keeps all rows of a beginning, and one that keeps none
all_kept : (ys zs : List Slot) (mask : List Bool) → select (replicate (length ys) true ++ mask) (ys ++ zs) ≡ ys ++ select mask zs
all_kept [] zs mask = refl
all_kept (y ∷ ys) zs mask = ap (λ ws. y ∷ ws) (all_kept ys zs mask)

none_kept : (ys zs : List Slot) (mask : List Bool) → select (replicate (length ys) false ++ mask) (ys ++ zs) ≡ select mask zs
none_kept [] zs mask = refl
none_kept (y ∷ ys) zs mask = none_kept ys zs mask

-- what lies inside rows that are kept is kept of what lies inside all
flat_kept : (f : Slot → List Slot) (mask : List Bool) (xs : List Slot) → (inner : List Bool) × (flat_map f (select mask xs) ≡ select inner (flat_map f xs))
flat_kept f (true ∷ mask) (x ∷ xs) =
    let rest = flat_kept f mask xs in
    (replicate (length (f x)) true ++ rest.0, ap (λ ys. f x ++ ys) rest.1 ∙ sym (all_kept (f x) (flat_map f xs) rest.0))
flat_kept f (false ∷ mask) (x ∷ xs) =
    let rest = flat_kept f mask xs in
    (replicate (length (f x)) false ++ rest.0, rest.1 ∙ sym (none_kept (f x) (flat_map f xs) rest.0))
flat_kept f mask xs = ([], refl)

pub map_kept : (f : Slot → Slot) (mask : List Bool) (xs : List Slot) → map f (select mask xs) ≡ select mask (map f xs)
map_kept f (true ∷ mask) (x ∷ xs) = ap (λ ys. f x ∷ ys) (map_kept f mask xs)
map_kept f (false ∷ mask) (x ∷ xs) = map_kept f mask xs
map_kept f mask xs = refl

-- the rows of a dictionary that are kept are those of the keys that are kept, and these are keys
pub keyed_kept : (values keys : List Slot) (mask : List Bool) → map (keyed_item values) (keys_in (select mask keys)) ≡ select mask (map (keyed_item values) (keys_in keys))
keyed_kept values keys mask =
    map-map (keyed_item values) key_in (select mask keys) ∙ (map_kept (λ s. keyed_item values (key_in s)) mask keys ∙ ap (select mask) (sym (map-map (keyed_item values) key_in keys)))

pub keys_kept : (count : ℕ) (mask : List Bool) (keys : List Slot) → AreKeys count keys → AreKeys count (select mask keys)
keys_kept count (true ∷ mask) (key ∷ keys) all = All-cons (IsKey count) key (select mask keys) (All-head (IsKey count) key keys all) (keys_kept count mask keys (All-tail (IsKey count) key keys all))
keys_kept count (false ∷ mask) (key ∷ keys) all = keys_kept count mask keys (All-tail (IsKey count) key keys all)
keys_kept count mask keys all = All-nil (IsKey count)

-- they are no more, and no longer together
fewer_kept : (mask : List Bool) (xs : List Slot) → length (select mask xs) ≤ length xs
fewer_kept (true ∷ mask) (x ∷ xs) = omega (arith, fewer_kept mask xs)
fewer_kept (false ∷ mask) (x ∷ xs) = omega (arith, fewer_kept mask xs)
fewer_kept mask xs = omega arith

sum_kept : (f : Slot → ℕ) (mask : List Bool) (xs : List Slot) → sum_by f (select mask xs) ≤ sum_by f xs
sum_kept f (true ∷ mask) (x ∷ xs) =
    omega (arith, sum_by-cons f x (select mask xs), sum_by-cons f x xs, sum_kept f mask xs)
sum_kept f (false ∷ mask) (x ∷ xs) = omega (arith, sum_by-cons f x xs, sum_kept f mask xs)
sum_kept f mask xs = omega arith

counted_kept : (mask : List Bool) (xs : List Slot) → IsCounted xs → IsCounted (select mask xs)
counted_kept mask xs h = omega (arith, h, fewer_kept mask xs)

times_kept : (s : ℕ) (mask : List Bool) (xs : List Slot) → s * length xs < 2 ^ 64 → s * length (select mask xs) < 2 ^ 64
times_kept s mask xs h = omega (arith, h, mul-le-mul_left s (fewer_kept mask xs))

-- a row of a dense union's field is that of one row or none
abbrev one_part : ℤ → Slot → List Slot
one_part id s = dense_part id (s ∷ [])

if_one : (b : Bool) (s : Slot) (xs ys : List Slot) → xs ≡ ys → (if b then s ∷ xs else xs) ≡ (if b then s ∷ [] else []) ++ ys
if_one true s xs ys e = ap (λ zs. s ∷ zs) e
if_one false s xs ys e = e

dense_flat : (id : ℤ) (xs : List Slot) → dense_part id xs ≡ flat_map (one_part id) xs
dense_flat id [] = refl
dense_flat id (Variant other s ∷ xs) = if_one (int_eq id other) s (dense_part id xs) (flat_map (one_part id) xs) (dense_flat id xs)
dense_flat id (_ ∷ xs) = dense_flat id xs

dense_kept : (id : ℤ) (mask : List Bool) (xs : List Slot) → (inner : List Bool) × (dense_part id (select mask xs) ≡ select inner (dense_part id xs))
dense_kept id mask xs =
    let inner = flat_kept (one_part id) mask xs in
    (inner.0, dense_flat id (select mask xs) ∙ (inner.1 ∙ ap (select inner.0) (sym (dense_flat id xs))))

child_kept : (form : ListForm) (t : ArrowType) (mask : List Bool) (xs : List Slot) → (inner : List Bool) × (child_rows form t (select mask xs) ≡ select inner (child_rows form t xs))
child_kept (fixed_size s) t mask xs = flat_kept (fixed_items_in s t) mask xs
child_kept form t mask xs = flat_kept items_in mask xs

fewer_items : (mask : List Bool) (xs : List Slot) → length (all_items (select mask xs)) ≤ length (all_items xs)
fewer_items mask xs =
    let inner = flat_kept items_in mask xs in
    omega (arith, ap length inner.1, fewer_kept inner.0 (all_items xs))

FitsPlain-kept : (p : PlainType) (mask : List Bool) (xs : List Slot) → FitsPlain p xs → FitsPlain p (select mask xs)
FitsPlain-kept utf8 mask xs h = omega (arith, h, sum_kept byte_count mask xs)
FitsPlain-kept binary mask xs h = omega (arith, h, sum_kept byte_count mask xs)
FitsPlain-kept large_utf8 mask xs h = omega (arith, h, sum_kept byte_count mask xs)
FitsPlain-kept large_binary mask xs h = omega (arith, h, sum_kept byte_count mask xs)
FitsPlain-kept (fixed_size_binary s) mask xs h = times_kept s mask xs h
FitsPlain-kept _ mask xs h = tt

FitsForm-kept : (form : ListForm) (mask : List Bool) (xs : List Slot) → FitsForm form xs → FitsForm form (select mask xs)
FitsForm-kept (fixed_size s) mask xs h = times_kept s mask xs h
FitsForm-kept form mask xs h = omega (arith, h, fewer_items mask xs)

mutual
  pub Fits-kept : (t : ArrowType) (mask : List Bool) (xs : List Slot) → Fits t xs → Fits t (select mask xs)
  Fits-kept (plain p) mask xs h = (counted_kept mask xs h.0, FitsPlain-kept p mask xs h.1)
  Fits-kept (list form (field name t nullable)) mask xs h =
      let inner = child_kept form t mask xs in
      (counted_kept mask xs h.0, FitsForm-kept form mask xs h.1, subst (Fits t) (sym inner.1) (Fits-kept t inner.0 (child_rows form t xs) h.2))
  Fits-kept (struct fs) mask xs h = (counted_kept mask xs h.0, FitsParts-kept fs 0 mask xs h.1)
  Fits-kept (union Sparse ids fs) mask xs h = (counted_kept mask xs h.0, FitsSparse-kept fs ids 0 mask xs h.1)
  Fits-kept (union Dense ids fs) mask xs h = (counted_kept mask xs h.0, FitsDense-kept fs ids 0 mask xs h.1)
  Fits-kept (dictionary keys ordered t) mask xs h = counted_kept mask xs h
  Fits-kept (extension name metadata t) mask xs h = Fits-kept t mask xs h

  FitsParts-kept : (fs : ArrowFields) (i : ℕ) (mask : List Bool) (xs : List Slot) → FitsParts fs i xs → FitsParts fs i (select mask xs)
  FitsParts-kept no_fields i mask xs h = tt
  FitsParts-kept (more_fields (field name t nullable) fs) i mask xs h =
      (subst (Fits t) (sym (map_kept (part_in i t) mask xs)) (Fits-kept t mask (map (part_in i t) xs) h.0), FitsParts-kept fs (suc i) mask xs h.1)

  FitsSparse-kept : (fs : ArrowFields) (ids : Option (List ℤ)) (i : ℕ) (mask : List Bool) (xs : List Slot) → FitsSparse fs ids i xs → FitsSparse fs ids i (select mask xs)
  FitsSparse-kept no_fields ids i mask xs h = tt
  FitsSparse-kept (more_fields (field name t nullable) fs) ids i mask xs h =
      let id = id_at ids i in
      (subst (Fits t) (sym (map_kept (sparse_part id t) mask xs)) (Fits-kept t mask (map (sparse_part id t) xs) h.0), FitsSparse-kept fs ids (suc i) mask xs h.1)

  FitsDense-kept : (fs : ArrowFields) (ids : Option (List ℤ)) (i : ℕ) (mask : List Bool) (xs : List Slot) → FitsDense fs ids i xs → FitsDense fs ids i (select mask xs)
  FitsDense-kept no_fields ids i mask xs h = tt
  FitsDense-kept (more_fields (field name t nullable) fs) ids i mask xs h =
      let id = id_at ids i in
      let inner = dense_kept id mask xs in (
        omega (arith, h.0, ap length inner.1, fewer_kept inner.0 (dense_part id xs)),
        subst (Fits t) (sym inner.1) (Fits-kept t inner.0 (dense_part id xs) h.1),
        FitsDense-kept fs ids (suc i) mask xs h.2,
      )

-- those that are laws of their own
pub ruleset laws = (Fits-kept)
