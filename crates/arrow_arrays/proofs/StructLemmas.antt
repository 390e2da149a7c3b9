-- Structs: their rows, and what a slice keeps.
use Rattle.std.proofs.Common.{◌≡◌, ℕ, zero, suc, ◌+◌, ◌<◌, ◌≤◌, Bool, true, false, List, [], ◌∷◌, length, map, get_or, refl, ap, sym, subst, ◌∙◌, arith, inl, inr}
use Rattle.std.specs.Prelude.{Option, ◌⊎◌, ◌↔◌, IfSome, count_by, if◌then◌else◌}
use Rattle.std.specs.List.{All}
use Rattle.std.proofs.Math.Nat.{eq-or-lt_of_le}
use Rattle.std.proofs.lemmas.List.{length-map, length-replicate, get_or-replicate, get_or_default}
use Rattle.std.proofs.lemmas.List.Elements.{All-map}
use Rattle.arrow_types.specs.Relation.{is_null}
use Rattle.arrow_types.specs.Rows.{valid_at}
use Rattle.arrow_types.specs.Slot.{Slot, Slots, Null, Parts, no_slots, more_slots, to_slots}
use Rattle.arrow_memory.specs.Sliced.{sliced}
use Rattle.arrow_memory.proofs.SlicedLemmas.{length-sliced}
use Rattle.arrow_flat.specs.Parts.{FitsRows, IsValue, MarksNulls, unset_in}
use Rattle.arrow_flat.proofs.PartsLemmas.{length-masked, null_count-masked, marks-masked, row_at, fits_part, fits_within}
use Rattle.arrow_arrays.specs.Layout.{Layout, more_layouts, to_layouts, rows, columns_of, column_length, stacked, across, struct_items, type_of_layout}
use Rattle.arrow_arrays.specs.SliceOf.{slice_of, slices_of}
use Rattle.arrow_arrays.specs.StructParts.{StructParts, IsStruct, HaveRows, FitsColumns, row_count, row_of, struct_layout, struct_rows, struct_slice}
use Rattle.arrow_arrays.specs.TypeParts.{field_types}
use Rattle.arrow_arrays.proofs.PartLemmas.{rows_of_slice, type_of_part}

-- the columns of layouts of a list
pub columns_of-to_layouts : (ls : List Layout) → columns_of (to_layouts ls) ≡ map rows ls
columns_of-to_layouts [] = refl
columns_of-to_layouts (l ∷ ls) = ap (λ cs. rows l ∷ cs) (columns_of-to_layouts ls)

pub parts_of-to_layouts : (ls : List Layout) (offset len : ℕ) → slices_of (to_layouts ls) offset len ≡ to_layouts (map (λ l. slice_of l offset len) ls)
parts_of-to_layouts [] offset len = refl
parts_of-to_layouts (l ∷ ls) offset len = ap (λ cs. more_layouts (slice_of l offset len) cs) (parts_of-to_layouts ls offset len)

-- as many rows as each column has
pub length-stacked : (xs : List Slot) (rs : List Slots) (n : ℕ) → length xs ≡ n → length rs ≡ n → length (stacked xs rs) ≡ n
length-stacked [] rs n here there = here
length-stacked (x ∷ xs) [] n here there = absurd (omega (arith, here, there))
length-stacked (x ∷ xs) (r ∷ rs) zero here there = absurd (omega (arith, here))
length-stacked (x ∷ xs) (r ∷ rs) (suc n) here there = ap suc (length-stacked xs rs n (omega (arith, here)) (omega (arith, there)))

next_have : (n : ℕ) (l : Layout) (ls : List Layout) → HaveRows n (l ∷ ls) → HaveRows n ls
next_have n l ls have = λ k d within. have (suc k) d (omega (arith, within))

pub length-across : (n : ℕ) (ls : List Layout) → HaveRows n ls → length (across n (map rows ls)) ≡ n
length-across n [] have = length-replicate n no_slots
length-across n (l ∷ ls) have =
    length-stacked (rows l) (across n (map rows ls)) n (have 0 l (omega arith)) (length-across n ls (next_have n l ls have))

length-struct_items : (ls : List Layout) → HaveRows (row_count ls) ls → length (struct_items (map rows ls)) ≡ row_count ls
length-struct_items ls have = length-map (across (row_count ls) (map rows ls)) Parts ∙ length-across (row_count ls) ls have

rows_of_structs : (rs : List Slots) → All IsValue (map Parts rs)
rows_of_structs rs = All-map IsValue Parts rs (λ k d within. refl)

fits_struct : (p : StructParts) → IsStruct p → FitsRows p.validity (length (struct_items (columns_of (to_layouts p.children))))
fits_struct p held =
    rw (columns_of-to_layouts p.children, length-struct_items p.children held.fits.0) held.fits.1

pub length-struct_rows : (p : StructParts) → IsStruct p → length (struct_rows p) ≡ row_count p.children
length-struct_rows p held =
    length-masked p.validity (struct_items (columns_of (to_layouts p.children))) (fits_struct p held) ∙ (ap (λ columns. length (struct_items columns)) (columns_of-to_layouts p.children) ∙ length-struct_items p.children held.fits.0)

-- the null rows are those that the validity marks
pub null_count-struct : (p : StructParts) → IsStruct p → count_by is_null (struct_rows p) ≡ unset_in p.validity
null_count-struct p held =
    null_count-masked p.validity _ (rows_of_structs (across (column_length (columns_of (to_layouts p.children))) (columns_of (to_layouts p.children)))) (fits_struct p held)

pub marks-struct : (p : StructParts) → IsStruct p → MarksNulls p.validity (struct_rows p)
marks-struct p held =
    marks-masked p.validity _ (rows_of_structs (across (column_length (columns_of (to_layouts p.children))) (columns_of (to_layouts p.children)))) (fits_struct p held)

-- one row
stacked_at : (xs : List Slot) (rs : List Slots) (n k : ℕ) → length xs ≡ n → length rs ≡ n → k < n → get_or (stacked xs rs) k no_slots ≡ more_slots (get_or xs k Null) (get_or rs k no_slots)
stacked_at (x ∷ xs) (r ∷ rs) n zero here there within = refl
stacked_at (x ∷ xs) (r ∷ rs) (suc n) (suc k) here there within = stacked_at xs rs n k (omega (arith, here)) (omega (arith, there)) (omega (arith, within))
stacked_at xs rs n k here there within = absurd (omega (arith, here, within, there))

across_at : (n k : ℕ) (ls : List Layout) → HaveRows n ls → k < n → get_or (across n (map rows ls)) k no_slots ≡ to_slots (map (λ l. get_or (rows l) k Null) ls)
across_at n k [] have within = get_or-replicate n k no_slots no_slots within
across_at n k (l ∷ ls) have within =
    stacked_at (rows l) (across n (map rows ls)) n k (have 0 l (omega arith)) (length-across n ls (next_have n l ls have)) within ∙ ap (λ rest. more_slots (get_or (rows l) k Null) rest) (across_at n k ls (next_have n l ls have) within)

map_at : (rs : List Slots) (k : ℕ) → k < length rs → get_or (map Parts rs) k Null ≡ Parts (get_or rs k no_slots)
map_at [] k within = absurd (omega (arith, within))
map_at (r ∷ rs) zero within = refl
map_at (r ∷ rs) (suc k) within = map_at rs k (omega (arith, within))

struct_row : (p : StructParts) (k : ℕ) → IsStruct p → k < row_count p.children → get_or (struct_rows p) k Null ≡ (if valid_at p.validity k then row_of k p.children else Null)
struct_row p k held within =
    let n = row_count p.children in
    let item : get_or (struct_items (map rows p.children)) k Null ≡ row_of k p.children = map_at (across n (map rows p.children)) k (omega (arith, within, length-across n p.children held.fits.0)) ∙ ap Parts (across_at n k p.children held.fits.0 within) in
    let item_there : get_or (struct_items (columns_of (to_layouts p.children))) k Null ≡ row_of k p.children = rw (columns_of-to_layouts p.children) item in
    let there : k < length (struct_items (columns_of (to_layouts p.children))) = rw (columns_of-to_layouts p.children) (omega (arith, within, length-struct_items p.children held.fits.0)) in
    row_at p.validity (struct_items (columns_of (to_layouts p.children))) k (fits_struct p held) there ∙ ap (λ s. if valid_at p.validity k then s else Null) item_there

pub struct_row_null : (p : StructParts) (k : ℕ) → IsStruct p → k < row_count p.children → valid_at p.validity k ≡ false → get_or (struct_rows p) k Null ≡ Null
struct_row_null p k held within told =
    struct_row p k held within ∙ ap (λ b. if b then row_of k p.children else Null) told

pub struct_row_valid : (p : StructParts) (k : ℕ) → IsStruct p → k < row_count p.children → valid_at p.validity k ≡ true → get_or (struct_rows p) k Null ≡ row_of k p.children
struct_row_valid p k held within told =
    struct_row p k held within ∙ ap (λ b. if b then row_of k p.children else Null) told

-- the rows of a slice are there, in each child too
pub struct_part_within : (p q : StructParts) (offset len : ℕ) → IsStruct p → p ≡ q → offset + len ≤ length (struct_rows q) → offset + len ≤ row_count p.children
struct_part_within p q offset len held seen within =
    let there : offset + len ≤ length (struct_rows p) = subst (λ r. offset + len ≤ length (struct_rows r)) (sym seen) within in
    omega (arith, there, length-struct_rows p held)

pub in_each : (n k : ℕ) (ls : List Layout) → HaveRows n ls → k ≤ n → All (λ l. k ≤ length (rows l)) ls
in_each n k ls have within = λ j d among. omega (arith, have j d among, within)

pub struct_bits_within : (p q : StructParts) (offset len : ℕ) → IsStruct p → p ≡ q → offset + len ≤ length (struct_rows q) → IfSome p.validity (λ bits. offset + len ≤ length bits)
struct_bits_within p q offset len held seen within =
    fits_within p.validity (row_count p.children) (offset + len) held.fits.1 (struct_part_within p q offset len held seen within)

-- a slice
have_part : (n offset len : ℕ) (ls : List Layout) → HaveRows n ls → offset + len ≤ n → HaveRows len (map (λ l. slice_of l offset len) ls)
have_part n offset len ls have within =
    All-map (λ l. length (rows l) ≡ len) (λ l. slice_of l offset len) ls (λ k d among.
    let there : offset + len ≤ length (rows (get_or ls k d)) = omega (arith, have k d among, within) in
    ap length (rows_of_slice (get_or ls k d) offset len there) ∙ length-sliced (rows (get_or ls k d)) offset len there)

count_of_part : (n : ℕ) (ls : List Layout) → 0 < length ls → HaveRows n ls → row_count ls ≡ n
count_of_part n [] some have = absurd (omega (arith, some))
count_of_part n (l ∷ ls) some have = have 0 l (omega arith)

types_of_part : (ls : List Layout) (offset len : ℕ) → map type_of_layout (map (λ l. slice_of l offset len) ls) ≡ map type_of_layout ls
types_of_part [] offset len = refl
types_of_part (l ∷ ls) offset len = λ i. type_of_part l offset len i ∷ types_of_part ls offset len i

pub struct_part_is : (p q : StructParts) (offset len : ℕ) → IsStruct p → p ≡ q → offset + len ≤ length (struct_rows q) → IsStruct (struct_slice p offset len)
struct_part_is p q offset len held seen within =
    let among = struct_part_within p q offset len held seen within in
    let some : 0 < length (map (λ l. slice_of l offset len) p.children) = omega (arith, held.some, length-map p.children (λ l. slice_of l offset len)) in
    let have = have_part (row_count p.children) offset len p.children held.fits.0 among in
    let count = count_of_part len (map (λ l. slice_of l offset len) p.children) some have in
    record {
      kind = held.kind;
      children = types_of_part p.children offset len ∙ held.children;
      some = some;
      fits = rw count (have, fits_part p.validity (row_count p.children) offset len held.fits.1 among);
    }

pub struct_part_rows : (p q : StructParts) (offset len : ℕ) → p ≡ q → offset + len ≤ length (struct_rows q) → struct_rows (struct_slice p offset len) ≡ sliced (struct_rows p) offset len
struct_part_rows p q offset len seen within =
    rw (← parts_of-to_layouts p.children offset len) (rows_of_slice (struct_layout p) offset len (subst (λ r. offset + len ≤ length (struct_rows r)) (sym seen) within))

-- as many rows as the first child has
pub first_rows : {A : Type 0} (layout_of : A → Layout) (xs : List A) (x : A) → 0 < length (map layout_of xs) → x ≡ get_or xs 0 x → length (rows (layout_of x)) ≡ row_count (map layout_of xs)
first_rows layout_of [] x some read = absurd (omega (arith, some))
first_rows layout_of (y ∷ xs) x some read = ap (λ z. length (rows (layout_of z))) read

-- the children of parts that are seen so
pub struct_children : (p q : StructParts) → p ≡ q → p.children ≡ q.children
struct_children p q seen = λ j. (seen j).children

-- children of arrays of one type are of one type each
pub struct_types : (p q : StructParts) → IsStruct p → IsStruct q → p.arrow_type ≡ q.arrow_type → map type_of_layout p.children ≡ map type_of_layout q.children
struct_types p q held other one = held.children ∙ (ap field_types one ∙ sym other.children)

-- a row of a struct is no null
pub row_is_value : (k : ℕ) (ls : List Layout) → row_of k ls ≡ Null → ⊥
row_is_value k ls is = cc is

-- arrays of so many rows, one by one
rows_at : {A : Type 0} (f : A → Layout) (n : ℕ) (xs : List A) (i : ℕ) (x : A) → ((k : ℕ) (d : A) → k < i → length (rows (f (get_or xs k d))) ≡ n) → i < length xs → x ≡ get_or xs i x → length (rows (f x)) ≡ n → (k : ℕ) (d : A) → (k ≡ i) ⊎ (k < i) → length (rows (f (get_or xs k d))) ≡ n
rows_at f n xs i x so_far within read new k d (inl same) =
    ap (λ j. length (rows (f (get_or xs j d)))) same ∙ (ap (λ y. length (rows (f y))) (get_or_default xs i d x within ∙ sym read) ∙ new)
rows_at f n xs i x so_far within read new k d (inr before) = so_far k d before

pub rows_next : {A : Type 0} (f : A → Layout) (n : ℕ) (xs : List A) (i : ℕ) (x : A) → ((k : ℕ) (d : A) → k < i → length (rows (f (get_or xs k d))) ≡ n) → i < length xs → x ≡ get_or xs i x → length (rows (f x)) ≡ n → (k : ℕ) (d : A) → k < i + 1 → length (rows (f (get_or xs k d))) ≡ n
rows_next f n xs i x so_far within read new k d before =
    rows_at f n xs i x so_far within read new k d (eq-or-lt_of_le (omega (arith, before)))

pub rows_all : {A : Type 0} (f : A → Layout) (n : ℕ) (xs : List A) (i : ℕ) → length xs ≤ i → ((k : ℕ) (d : A) → k < i → length (rows (f (get_or xs k d))) ≡ n) → HaveRows n (map f xs)
rows_all f n xs i last so_far =
    All-map (λ l. length (rows l) ≡ n) f xs (λ k d within. so_far k d (omega (arith, within, last)))

-- columns fit where a test says so, by the length of the first
pub columns_decide : (children : List Layout) (n : ℕ) (v : Option (List Bool)) → n ≡ row_count children → FitsColumns children v ↔ (HaveRows n children × FitsRows v n)
columns_decide children n v count = rw count (λ fits. fits, λ fits. fits)
