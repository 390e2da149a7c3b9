-- The parts of nested arrays whose rows are all null: they are parts of an array, and these are its rows.
use Rattle.std.proofs.Common.{◌≡◌, ℕ, zero, suc, ◌+◌, ◌-◌, ◌*◌, ◌/◌, ◌<◌, ◌≤◌, min, ℤ, pos, Bool, true, false, Option, Some, None, List, [], ◌∷◌, length, map, replicate, get_or, refl, ap, sym, ◌∙◌, subst, arith}
use Rattle.std.specs.List.{All, range_with_len, zip}
use Rattle.std.specs.Ordering.{int_eq}
use Rattle.std.proofs.lemmas.Bool.Decides.{Decides-int_eq}
use Rattle.std.proofs.lemmas.List.{length-map, length-replicate}
use Rattle.std.proofs.lemmas.List.Elements.{All-cons}
use Rattle.std.proofs.lemmas.List.FromFn.{length-range_with_len, get_or-range_with_len}
use Rattle.arrow_types.specs.declared.datatypes.UnionMode.{UnionMode}
use Rattle.arrow_types.specs.declared.datatypes.UnionMode.TheVariants.{Dense, Sparse}
use Rattle.arrow_arrays.specs.declared.array.list.AnyOffsetsBuffer.{AnyOffsetsBuffer}
use Rattle.arrow_arrays.specs.declared.array.list.AnyOffsetsBuffer.TheVariants.{Small, Large}
use Rattle.arrow_arrays.specs.AnyOffsetsBuffer.{lists_of}
use Rattle.arrow_types.specs.ArrowType.{ArrowType, plain, list, union, extension, field, more_fields}
use Rattle.arrow_types.specs.Rows.{masked}
use Rattle.arrow_types.specs.Slot.{Slot, Null, Parts, Variant, id_at, null_slot}
use Rattle.arrow_memory.specs.Offsets.{last_of}
use Rattle.arrow_flat.specs.Pieces.{pieces, chunks}
use Rattle.arrow_flat.specs.PieceLaws.{length-chunks}
use Rattle.arrow_flat.proofs.PieceLemmas.{length-pieces}
use Rattle.arrow_arrays.specs.declared.array.any.AnyArray.{AnyArray}
use Rattle.arrow_arrays.specs.Any.{layout_of, any_array_type, any_array_rows}
use Rattle.arrow_arrays.specs.FixedListParts.{FitsItems}
use Rattle.arrow_arrays.specs.KeyedParts.{keys_in, key_in, IsKey, AreKeys}
use Rattle.arrow_arrays.proofs.StructLemmas.{length-across}
use Rattle.arrow_arrays.specs.Layout.{Layout, rows, items_row, list_items, fixed_items, keyed_item, across, struct_items, columns_of, to_layouts, field_ids, column_of_id, variant_at, union_items}
use Rattle.arrow_arrays.specs.Nulls.{nulls_of, null_columns_of}
use Rattle.arrow_arrays.specs.StructParts.{HaveRows, row_count, FitsColumns}
use Rattle.arrow_arrays.specs.TypeParts.{field_types}
use Rattle.arrow_arrays.specs.UnionParts.{IsKnown, IsInside, FitsMode, FitsOffsets, rows_of_id, child_row_of}
use Rattle.arrow_arrays.proofs.FitNullLemmas.{whole_product}
use Rattle.arrow_arrays.proofs.NullLemmas.{map_constant, all_constant, rows_null, last_zero}
use Rattle.arrow_arrays.proofs.ShapeLemmas.{list_shape, struct_shape, union_shape, dictionary_shape, shape_of, shape_in, plain_shape, list_shaped, null_slot-shape}

-- lists

pub length-list_items : (offsets : List ℕ) (xs : List Slot) (n : ℕ) → offsets ≡ replicate (n + 1) 0 → length (list_items offsets xs) ≡ n
length-list_items offsets xs n zeros =
    let long : length offsets ≡ n + 1 = ap length zeros ∙ length-replicate (n + 1) 0 in
    length-map (pieces offsets xs) items_row ∙ (length-pieces offsets xs ∙ omega (arith, long))

pub list_rows_null : (t : ArrowType) (v : Option (List Bool)) (offsets : List ℕ) (xs : List Slot) (n : ℕ) → shape_in t ≡ list_shape → v ≡ Some (replicate n false) → offsets ≡ replicate (n + 1) 0 → masked v (list_items offsets xs) ≡ nulls_of t n
list_rows_null t v offsets xs n shape unset zeros =
    rows_null t list_shape v (list_items offsets xs) n shape (λ e. cc) unset (length-list_items offsets xs n zeros)

-- their validity is as long as the rows, and the last one ends at 0
pub list_parts_fit : (bits : List Bool) (offsets : List ℕ) (m n : ℕ) → bits ≡ replicate n false → offsets ≡ replicate (n + 1) 0 → (length bits ≡ length offsets - 1) × (last_of offsets ≤ m)
list_parts_fit bits offsets m n unset zeros =
    let long : length offsets ≡ n + 1 = ap length zeros ∙ length-replicate (n + 1) 0 in
    let count : length bits ≡ n = ap length unset ∙ length-replicate n false in
    let last : last_of offsets ≡ 0 = ap last_of zeros ∙ last_zero (n + 1) in
    (omega (arith, long, count), omega (arith, last))

-- lists of a fixed size

pub fixed_rows_null : (t : ArrowType) (v : Option (List Bool)) (size : ℕ) (xs : List Slot) (s : Slot) (n : ℕ) → shape_in t ≡ list_shape → 0 < size → v ≡ Some (replicate n false) → xs ≡ replicate (n * size) s → masked v (fixed_items size xs) ≡ nulls_of t n
fixed_rows_null t v size xs s n shape some unset items =
    let count = whole_product n size (length xs) some (ap length items ∙ length-replicate (n * size) s) in
    let long = length-map (chunks (length xs / size) size xs) items_row ∙ (length-chunks (length xs / size) size xs ∙ count.1) in
    rows_null t list_shape v (fixed_items size xs) n shape (λ e. cc) unset long

pub fixed_parts_fit : (size : ℕ) (xs : List Slot) (s : Slot) (bits : List Bool) (n : ℕ) → 0 < size → bits ≡ replicate n false → xs ≡ replicate (n * size) s → FitsItems size (length xs) (Some bits)
fixed_parts_fit size xs s bits n some unset items =
    let count = whole_product n size (length xs) some (ap length items ∙ length-replicate (n * size) s) in
    (count.0, ap length unset ∙ (length-replicate n false ∙ sym count.1))

-- children of a list of arrays

pub columns_of_arrays : (xs : List AnyArray) → columns_of (to_layouts (map layout_of xs)) ≡ map any_array_rows xs
columns_of_arrays [] = refl
columns_of_arrays (x ∷ xs) = ap (λ cs. any_array_rows x ∷ cs) (columns_of_arrays xs)

pub rows_of_arrays : (xs : List AnyArray) → map rows (map layout_of xs) ≡ map any_array_rows xs
rows_of_arrays [] = refl
rows_of_arrays (x ∷ xs) = ap (λ cs. any_array_rows x ∷ cs) (rows_of_arrays xs)

all_rows : (n : ℕ) (ts : List ArrowType) → null_columns_of n n ts ≡ map (λ u. nulls_of u n) ts
all_rows n [] = refl
all_rows n (t ∷ ts) = refl

have_nulls : (n : ℕ) (ls : List Layout) (ts : List ArrowType) → map rows ls ≡ map (λ u. nulls_of u n) ts → HaveRows n ls
have_nulls n [] ts is = λ k d within. absurd (omega (arith, within))
have_nulls n (l ∷ ls) [] is = cc
have_nulls n (l ∷ ls) (t ∷ ts) is =
    let first : rows l ≡ nulls_of t n = cc in
    let rest : map rows ls ≡ map (λ u. nulls_of u n) ts = cc in
    All-cons (λ c. length (rows c) ≡ n) l ls (ap length first ∙ length-replicate n (null_slot t)) (have_nulls n ls ts rest)

pub have_null_rows : (n : ℕ) (xs : List AnyArray) (ts : List ArrowType) → map any_array_rows xs ≡ null_columns_of n n ts → HaveRows n (map layout_of xs)
have_null_rows n xs ts is = have_nulls n (map layout_of xs) ts (rows_of_arrays xs ∙ (is ∙ all_rows n ts))

counted_rows : (n : ℕ) (ls : List Layout) → 0 < length ls → HaveRows n ls → row_count ls ≡ n
counted_rows n [] some have = absurd (omega (arith, some))
counted_rows n (l ∷ ls) some have = have 0 l (omega arith)

-- as many children as types
pub count_children : (xs : List AnyArray) (ts : List ArrowType) → map any_array_type xs ≡ ts → length (map layout_of xs) ≡ length ts
count_children xs ts is = length-map xs layout_of ∙ (sym (length-map xs any_array_type) ∙ ap length is)

-- structs

pub struct_parts_fit : (n : ℕ) (xs : List AnyArray) (ts : List ArrowType) (bits : List Bool) → 0 < length ts → map any_array_type xs ≡ ts → map any_array_rows xs ≡ null_columns_of n n ts → bits ≡ replicate n false → FitsColumns (map layout_of xs) (Some bits)
struct_parts_fit n xs ts bits some types nulls unset =
    let have = have_null_rows n xs ts nulls in
    let count = counted_rows n (map layout_of xs) (omega (arith, some, count_children xs ts types)) have in
    (subst (λ k. HaveRows k (map layout_of xs)) (sym count) have, ap length unset ∙ (length-replicate n false ∙ sym count))

pub struct_rows_null : (t : ArrowType) (v : Option (List Bool)) (xs : List AnyArray) (ts : List ArrowType) (n : ℕ) → shape_in t ≡ struct_shape → 0 < length ts → map any_array_type xs ≡ ts → map any_array_rows xs ≡ null_columns_of n n ts → v ≡ Some (replicate n false) → masked v (struct_items (columns_of (to_layouts (map layout_of xs)))) ≡ nulls_of t n
struct_rows_null t v xs ts n shape some types nulls unset =
    let have = have_null_rows n xs ts nulls in
    let ls = map layout_of xs in
    let count = counted_rows n ls (omega (arith, some, count_children xs ts types)) have in
    let columns = columns_of_arrays xs ∙ sym (rows_of_arrays xs) in
    let long = length-map (across (row_count ls) (map rows ls)) Parts ∙ (ap (λ k. length (across k (map rows ls))) count ∙ length-across n ls have) in
    rows_null t struct_shape v _ n shape (λ e. cc) unset (ap (λ cs. length (struct_items cs)) columns ∙ long)

-- unions

told_same : (id : ℤ) → int_eq id id ≡ true
told_same id = (Decides-int_eq id id).1 refl

first_column : (ids : Option (List ℤ)) (c : List Slot) (cs : List (List Slot)) → column_of_id ids 0 (id_at ids 0) (c ∷ cs) ≡ c
first_column ids c cs = rw (told_same (id_at ids 0)) refl

one_variant : (ids : Option (List ℤ)) (c : List Slot) (cs : List (List Slot)) (child_row : ℕ) (s : Slot) → get_or c child_row Null ≡ s → variant_at ids (c ∷ cs) (id_at ids 0) child_row ≡ Variant (id_at ids 0) s
one_variant ids c cs child_row s is = ap (Variant (id_at ids 0)) (ap (λ column. get_or column child_row Null) (first_column ids c cs) ∙ is)

same_variants : (ids : Option (List ℤ)) (c : List Slot) (cs : List (List Slot)) (s : Slot) (n : ℕ) (child_rows : List ℕ) → length child_rows ≡ n → All (λ child_row. get_or c child_row Null ≡ s) child_rows → union_items ids (c ∷ cs) (replicate n (id_at ids 0)) child_rows ≡ replicate n (Variant (id_at ids 0) s)
same_variants ids c cs s zero child_rows long all = refl
same_variants ids c cs s (suc n) [] long all = absurd (omega (arith, long))
same_variants ids c cs s (suc n) (child_row ∷ child_rows) long all =
    let first = one_variant ids c cs child_row s (all 0 child_row (omega arith)) in
    let rest = same_variants ids c cs s n child_rows (omega (arith, long)) (λ k d within. all (suc k) d (omega (arith, within))) in
    λ i. first i ∷ rest i

get_or-copy : {A : Type 0} (n k : ℕ) (x d : A) → k < n → get_or (replicate n x) k d ≡ x
get_or-copy zero k x d within = absurd (omega (arith, within))
get_or-copy (suc n) zero x d within = refl
get_or-copy (suc n) (suc k) x d within = get_or-copy n k x d (omega (arith, within))

-- what the null slot of a union is
union_null : (t : ArrowType) (u : ArrowType) (us : List ArrowType) → shape_in t ≡ union_shape → field_types t ≡ u ∷ us → Variant (id_at (field_ids t) 0) (null_slot u) ≡ null_slot t
union_null (plain p) u us shape is = cc (plain_shape p)
union_null (list form f) u us shape is = cc (list_shaped form)
union_null (union mode ids (more_fields (field name t nullable) fs)) u us shape is =
    let first : u ≡ t = cc in
    ap (λ x. Variant (id_at ids 0) (null_slot x)) first
union_null (extension name metadata t) u us shape is = union_null t u us shape is
union_null t u us shape is = cc

rows_in_order : (n : ℕ) (s : Slot) → All (λ child_row. get_or (replicate n s) child_row Null ≡ s) (range_with_len 0 n)
rows_in_order n s =
    λ k d within.
    let short : k < n = omega (arith, within, length-range_with_len 0 n) in
    let plain : 0 + k ≡ k = omega arith in
    let here : get_or (range_with_len 0 n) k d ≡ k = get_or-range_with_len 0 n k d short ∙ plain in
    rw here (get_or-copy n k s Null short)

one_row : (n : ℕ) (s : Slot) → All (λ child_row. get_or (replicate (min n 1) s) child_row Null ≡ s) (replicate n 0)
one_row n s =
    λ k d within.
    let some : k < n = omega (arith, within, length-replicate {A = ℕ} n 0) in
    rw (get_or-copy n k 0 d some) (get_or-copy (min n 1) 0 s Null (omega (arith, some)))

sparse_by : (t : ArrowType) (columns : List (List Slot)) (ts : List ArrowType) (n : ℕ) → shape_in t ≡ union_shape → field_types t ≡ ts → 0 < length ts → columns ≡ null_columns_of n n ts → union_items (field_ids t) columns (replicate n (id_at (field_ids t) 0)) (range_with_len 0 n) ≡ nulls_of t n
sparse_by t columns [] n shape types some nulls = absurd (omega (arith, some))
sparse_by t columns (u ∷ us) n shape types some nulls =
    let ids = field_ids t in
    rw nulls (same_variants ids (nulls_of u n) (map (λ x. nulls_of x n) us) (null_slot u) n (range_with_len 0 n) (length-range_with_len 0 n) (rows_in_order n (null_slot u)) ∙ ap (replicate n) (union_null t u us shape types))

dense_by : (t : ArrowType) (columns : List (List Slot)) (ts : List ArrowType) (n : ℕ) → shape_in t ≡ union_shape → field_types t ≡ ts → 0 < length ts → columns ≡ null_columns_of (min n 1) 0 ts → union_items (field_ids t) columns (replicate n (id_at (field_ids t) 0)) (replicate n 0) ≡ nulls_of t n
dense_by t columns [] n shape types some nulls = absurd (omega (arith, some))
dense_by t columns (u ∷ us) n shape types some nulls =
    let ids = field_ids t in
    rw nulls (same_variants ids (nulls_of u (min n 1)) (map (λ x. nulls_of x 0) us) (null_slot u) n (replicate n 0) (length-replicate n 0) (one_row n (null_slot u)) ∙ ap (replicate n) (union_null t u us shape types))

pub sparse_rows_null : (t : ArrowType) (xs : List AnyArray) (types : List ℤ) (n : ℕ) → shape_in t ≡ union_shape → 0 < length (field_types t) → map any_array_rows xs ≡ null_columns_of n n (field_types t) → types ≡ replicate n (id_at (field_ids t) 0) → union_items (field_ids t) (columns_of (to_layouts (map layout_of xs))) types (range_with_len 0 (length types)) ≡ nulls_of t n
sparse_rows_null t xs types n shape some nulls is =
    let long : length types ≡ n = ap length is ∙ length-replicate n (id_at (field_ids t) 0) in
    rw long (rw is (sparse_by t (columns_of (to_layouts (map layout_of xs))) (field_types t) n shape refl some (columns_of_arrays xs ∙ nulls)))

pub dense_rows_null : (t : ArrowType) (xs : List AnyArray) (types : List ℤ) (child_rows : List ℕ) (n : ℕ) → shape_in t ≡ union_shape → 0 < length (field_types t) → map any_array_rows xs ≡ null_columns_of (min n 1) 0 (field_types t) → types ≡ replicate n (id_at (field_ids t) 0) → child_rows ≡ replicate n 0 → union_items (field_ids t) (columns_of (to_layouts (map layout_of xs))) types child_rows ≡ nulls_of t n
dense_rows_null t xs types child_rows n shape some nulls is zeros =
    rw (is, zeros) (dense_by t (columns_of (to_layouts (map layout_of xs))) (field_types t) n shape refl some (columns_of_arrays xs ∙ nulls))

-- all rows are of a known id
pub known_ids : (ids : Option (List ℤ)) (count : ℕ) (types : List ℤ) (n : ℕ) → 0 < count → types ≡ replicate n (id_at ids 0) → All (IsKnown ids count) types
known_ids ids count types n some is =
    subst (All (IsKnown ids count)) (sym is) (all_constant (IsKnown ids count) n (id_at ids 0) (0, some, refl))

zip_copies : {A B : Type 0} (n : ℕ) (x : A) (y : B) → zip (replicate n x) (replicate n y) ≡ replicate n (x, y)
zip_copies zero x y = refl
zip_copies (suc n) x y = ap (λ ps. (x, y) ∷ ps) (zip_copies n x y)

some_row : (ids : Option (List ℤ)) (ls : List Layout) (ts : List ArrowType) (n : ℕ) → 0 < n → 0 < length ts → map rows ls ≡ null_columns_of (min n 1) 0 ts → 0 < rows_of_id ids ls (id_at ids 0)
some_row ids ls [] n one some nulls = absurd (omega (arith, some))
some_row ids ls (u ∷ us) n one some nulls =
    let column = ap (column_of_id ids 0 (id_at ids 0)) nulls ∙ first_column ids (nulls_of u (min n 1)) (map (λ x. nulls_of x 0) us) in
    omega (arith, ap length column, length-replicate (min n 1) (null_slot u), one)

-- and inside the first field, where there is a row
pub inside_first : (ids : Option (List ℤ)) (xs : List AnyArray) (ts : List ArrowType) (types offsets : List ℤ) (n : ℕ) → 0 < length ts → map any_array_rows xs ≡ null_columns_of (min n 1) 0 ts → types ≡ replicate n (id_at ids 0) → offsets ≡ replicate n (pos 0) → FitsOffsets ids (map layout_of xs) types (Some offsets)
inside_first ids xs ts types offsets n some nulls is zeros =
    let row : ℤ × ℤ = (id_at ids 0, pos 0) in
    let pairs : zip types offsets ≡ replicate n row = (λ i. zip (is i) (zeros i)) ∙ zip_copies n (id_at ids 0) (pos 0) in
    let Inside = λ (r : ℤ × ℤ). IsInside ids (map layout_of xs) r.0 r.1 in
    let first = λ (k : ℕ) (d : ℤ × ℤ) (within : k < length (replicate n row)).
    let one : k < n = omega (arith, within, length-replicate n row) in
    subst Inside (sym (get_or-copy n k row d one)) (λ known. some_row ids (map layout_of xs) ts n (omega (arith, one)) some (rows_of_arrays xs ∙ nulls)) in
    subst (All Inside) (sym pairs) first

-- dictionaries

pub keyed_rows_null : (t : ArrowType) (keys xs : List Slot) (n : ℕ) → shape_in t ≡ dictionary_shape → keys ≡ replicate n Null → map (keyed_item xs) (keys_in keys) ≡ nulls_of t n
keyed_rows_null t keys xs n shape is =
    rw is (ap (map (keyed_item xs)) (map_constant key_in n Null) ∙ (map_constant (keyed_item xs) n None ∙ ap (replicate n) (sym (null_slot-shape t dictionary_shape shape (λ e. cc)))))

pub null_keys_name : (count : ℕ) (keys : List Slot) (n : ℕ) → keys ≡ replicate n Null → AreKeys count keys
null_keys_name count keys n is = subst (AreKeys count) (sym is) (all_constant (IsKey count) n Null tt)

-- offsets of either width are those of lists
pub lists_shape : (offsets : AnyOffsetsBuffer) → shape_of (lists_of offsets) ≡ list_shape
lists_shape (Small offsets) = refl
lists_shape (Large offsets) = refl

-- the parts of a union fit its mode
pub sparse_mode_fits : (mode : UnionMode) (types : List ℤ) (xs : List AnyArray) (ts : List ArrowType) (id : ℤ) (n : ℕ) → mode ≡ Sparse → types ≡ replicate n id → map any_array_rows xs ≡ null_columns_of n n ts → FitsMode mode types None (map layout_of xs)
sparse_mode_fits mode types xs ts id n is same nulls =
    let long : length types ≡ n = ap length same ∙ length-replicate n id in
    subst (λ m. FitsMode m types None (map layout_of xs)) (sym is) (subst (λ k. HaveRows k (map layout_of xs)) (sym long) (have_null_rows n xs ts nulls))

pub dense_mode_fits : (mode : UnionMode) (types offsets : List ℤ) (xs : List AnyArray) (id : ℤ) (n : ℕ) → mode ≡ Dense → types ≡ replicate n id → offsets ≡ replicate n (pos 0) → FitsMode mode types (Some offsets) (map layout_of xs)
dense_mode_fits mode types offsets xs id n is same zeros =
    let long : length types ≡ n = ap length same ∙ length-replicate n id in
    let count : length offsets ≡ n = ap length zeros ∙ length-replicate n (pos 0) in
    subst (λ m. FitsMode m types (Some offsets) (map layout_of xs)) (sym is) (count ∙ sym long)

pub zero_child_rows : (offsets : List ℤ) (n : ℕ) → offsets ≡ replicate n (pos 0) → map child_row_of offsets ≡ replicate n 0
zero_child_rows offsets n zeros = ap (map child_row_of) zeros ∙ map_constant child_row_of n (pos 0)
