-- The rows of a slice are that part of the rows, for arrays of any layout.
use Rattle.std.proofs.Common.{◌≡◌, ℕ, zero, suc, ◌+◌, ◌-◌, ◌*◌, ◌/◌, ◌<◌, ◌≤◌, ℤ, Bool, Option, Some, None, List, [], ◌∷◌, length, map, take, drop, refl, ap, sym, subst, ◌∙◌, arith}
use Rattle.std.specs.List.{range_with_len, zip}
use Rattle.std.proofs.Math.Nat.{mul-div_cancel, le-div_iff_mul-le, div-zero}
use Rattle.std.proofs.lemmas.List.{length-map, length-replicate, drop-replicate, take-replicate}
use Rattle.std.proofs.lemmas.List.FromFn.{length-range_with_len}
use Rattle.std.proofs.lemmas.Slice.Zip.{length-zip}
use Rattle.arrow_types.specs.Rows.{mask, masked}
use Rattle.arrow_types.specs.Slot.{Slot, Slots, Parts, no_slots, more_slots}
use Rattle.arrow_memory.specs.Sliced.{sliced}
use Rattle.arrow_memory.proofs.OffsetLemmas.{map_sliced}
use Rattle.arrow_memory.proofs.SlicedLemmas.{length-sliced}
use Rattle.arrow_flat.specs.Pieces.{chunks}
use Rattle.arrow_flat.specs.PieceLaws.{pieces-sliced, chunks-sliced, length-chunks}
use Rattle.arrow_flat.proofs.PartsLemmas.{masked-sliced}
use Rattle.arrow_arrays.specs.Layout.{Layout, Layouts, flat, listed, fixed, fielded, sparse, dense, keyed, no_layouts, more_layouts, rows, columns_of, type_of_layout, field_ids, items_row, list_items, fixed_items, column_length, stacked, across, struct_items, variant_at, union_items, keyed_item}
use Rattle.arrow_arrays.specs.SliceOf.{slice_of, slices_of, validity_of_slice}

-- a slice is of the same type
pub type_of_part : (l : Layout) (offset len : ℕ) → type_of_layout (slice_of l offset len) ≡ type_of_layout l
type_of_part (flat t xs) offset len = refl
type_of_part l offset len = refl

-- no more rows than are stored
shorter_mask : (bits : List Bool) (xs : List Slot) → length (mask bits xs) ≤ length xs
shorter_mask [] xs = omega arith
shorter_mask (b ∷ bits) [] = omega arith
shorter_mask (b ∷ bits) (x ∷ xs) = omega (arith, shorter_mask bits xs)

pub length-masked_le : (v : Option (List Bool)) (xs : List Slot) → length (masked v xs) ≤ length xs
length-masked_le None xs = omega arith
length-masked_le (Some bits) xs = shorter_mask bits xs

-- pairs
take-zip : {A B : Type 0} (n : ℕ) (xs : List A) (ys : List B) → take n (zip xs ys) ≡ zip (take n xs) (take n ys)
take-zip (suc n) (x ∷ xs) (y ∷ ys) = ap (λ rest. (x, y) ∷ rest) (take-zip n xs ys)
take-zip n xs ys = refl

zip-none : {A B : Type 0} (xs : List A) → zip {X = B} xs [] ≡ []
zip-none [] = refl
zip-none (x ∷ xs) = refl

drop-zip : {A B : Type 0} (n : ℕ) (xs : List A) (ys : List B) → drop n (zip xs ys) ≡ zip (drop n xs) (drop n ys)
drop-zip zero xs ys = refl
drop-zip (suc n) [] ys = refl
drop-zip (suc n) (x ∷ xs) [] = sym (zip-none (drop n xs))
drop-zip (suc n) (x ∷ xs) (y ∷ ys) = drop-zip n xs ys

pub zip-sliced : {A B : Type 0} (xs : List A) (ys : List B) (offset len : ℕ) → zip (sliced xs offset len) (sliced ys offset len) ≡ sliced (zip xs ys) offset len
zip-sliced xs ys offset len =
    sym (ap (take len) (drop-zip offset xs ys) ∙ take-zip len (drop offset xs) (drop offset ys))

-- numbers that follow one another
take-range : (start n k : ℕ) → k ≤ n → take k (range_with_len start n) ≡ range_with_len start k
take-range start n zero within = refl
take-range start zero (suc k) within = absurd (omega (arith, within))
take-range start (suc n) (suc k) within = ap (λ rest. start ∷ rest) (take-range (start + 1) n k (omega (arith, within)))

drop-range : (start n k : ℕ) → drop k (range_with_len start (k + n)) ≡ range_with_len (start + k) n
drop-range start n zero =
    let same : zero + n ≡ n = omega arith in
    let from : start + zero ≡ start = omega arith in
    rw (same, from) refl
drop-range start n (suc k) =
    let more : suc k + n ≡ suc (k + n) = omega arith in
    let from : start + suc k ≡ start + 1 + k = omega arith in
    rw (more, from) (drop-range (start + 1) n k)

pub range-sliced : (start count offset len : ℕ) → offset + len ≤ count → sliced (range_with_len start count) offset len ≡ range_with_len (start + offset) len
range-sliced start count offset len within =
    let split : count ≡ offset + (len + (count - offset - len)) = omega (arith, within) in
    rw split (ap (take len) (drop-range start (len + (count - offset - len)) offset) ∙ take-range (start + offset) (len + (count - offset - len)) len (omega arith))

-- rows of items
pub list_items-sliced : (offsets : List ℕ) (xs : List Slot) (offset len : ℕ) → list_items (sliced offsets offset (len + 1)) xs ≡ sliced (list_items offsets xs) offset len
list_items-sliced offsets xs offset len =
    ap (map items_row) (pieces-sliced offsets xs offset len) ∙ map_sliced items_row _ offset len

pub length-fixed_items : (s : ℕ) (xs : List Slot) → length (fixed_items s xs) ≡ length xs / s
length-fixed_items s xs = length-map _ items_row ∙ length-chunks (length xs / s) s xs

-- no row has no item
no_items : (xs : List Slot) → fixed_items zero xs ≡ []
no_items xs = ap (λ n. map items_row (chunks n zero xs)) (div-zero (length xs))

masked_none : (v : Option (List Bool)) → masked v [] ≡ []
masked_none None = refl
masked_none (Some []) = refl
masked_none (Some (b ∷ bits)) = refl

-- the items of a part lie among the items
pub items_within : (s n offset len : ℕ) → 0 < s → offset + len ≤ n / s → offset * s + len * s ≤ n
items_within s n offset len some within =
    let items : (offset + len) * s ≤ n = (le-div_iff_mul-le some).0 within in
    omega (arith, items)

pub fixed_items-sliced : (s : ℕ) (xs : List Slot) (offset len : ℕ) → 0 < s → offset + len ≤ length xs / s → fixed_items s (sliced xs (offset * s) (len * s)) ≡ sliced (fixed_items s xs) offset len
fixed_items-sliced s xs offset len some within =
    let count : length (sliced xs (offset * s) (len * s)) / s ≡ len = ap (λ n. n / s) (length-sliced xs (offset * s) (len * s) (items_within s (length xs) offset len some within)) ∙ mul-div_cancel len some in
    rw count (ap (map items_row) (chunks-sliced (length xs / s) s xs offset len within) ∙ map_sliced items_row _ offset len)

-- rows read across columns
shorter_stack : (xs : List Slot) (rs : List Slots) → (length (stacked xs rs) ≤ length xs) × (length (stacked xs rs) ≤ length rs)
shorter_stack [] rs = (omega arith, omega arith)
shorter_stack (x ∷ xs) [] = (omega arith, omega arith)
shorter_stack (x ∷ xs) (r ∷ rs) =
    let rest = shorter_stack xs rs in
    (omega (arith, rest.0), omega (arith, rest.1))

take-stacked : (n : ℕ) (xs : List Slot) (rs : List Slots) → take n (stacked xs rs) ≡ stacked (take n xs) (take n rs)
take-stacked (suc n) (x ∷ xs) (r ∷ rs) = ap (λ rest. more_slots x r ∷ rest) (take-stacked n xs rs)
take-stacked n xs rs = refl

stacked-none : (xs : List Slot) → stacked xs [] ≡ []
stacked-none [] = refl
stacked-none (x ∷ xs) = refl

drop-stacked : (n : ℕ) (xs : List Slot) (rs : List Slots) → drop n (stacked xs rs) ≡ stacked (drop n xs) (drop n rs)
drop-stacked zero xs rs = refl
drop-stacked (suc n) [] rs = refl
drop-stacked (suc n) (x ∷ xs) [] = sym (stacked-none (drop n xs))
drop-stacked (suc n) (x ∷ xs) (r ∷ rs) = drop-stacked n xs rs

stacked-sliced : (xs : List Slot) (rs : List Slots) (offset len : ℕ) → stacked (sliced xs offset len) (sliced rs offset len) ≡ sliced (stacked xs rs) offset len
stacked-sliced xs rs offset len =
    sym (ap (take len) (drop-stacked offset xs rs) ∙ take-stacked len (drop offset xs) (drop offset rs))

-- a part of each column
abbrev pub cut : ℕ → ℕ → List (List Slot) → List (List Slot)
cut offset len columns = map (λ c. sliced c offset len) columns

pub across-sliced : (columns : List (List Slot)) (n offset len : ℕ) → offset + len ≤ n → across len (cut offset len columns) ≡ sliced (across n columns) offset len
across-sliced [] n offset len within =
    sym (ap (take len) (drop-replicate offset n no_slots) ∙ take-replicate len (n - offset) no_slots (omega (arith, within)))
across-sliced (c ∷ cs) n offset len within =
    ap (stacked (sliced c offset len)) (across-sliced cs n offset len within) ∙ stacked-sliced c (across n cs) offset len

across_within : (columns : List (List Slot)) (n k : ℕ) → k ≤ length (across n columns) → k ≤ n
across_within [] n k within = omega (arith, within, length-replicate n no_slots)
across_within (c ∷ cs) n k within = across_within cs n k (omega (arith, within, (shorter_stack c (across n cs)).1))

struct_items-sliced : (columns : List (List Slot)) (offset len : ℕ) → offset + len ≤ length (struct_items columns) → struct_items (cut offset len columns) ≡ sliced (struct_items columns) offset len
struct_items-sliced [] offset len within =
    let first : offset ≡ 0 = omega (arith, within) in
    let none : len ≡ 0 = omega (arith, within) in
    rw (first, none) refl
struct_items-sliced (c ∷ cs) offset len within =
    let across_all = subst (λ k. offset + len ≤ k) (length-map (across (length c) (c ∷ cs)) Parts) within in
    let column : length (sliced c offset len) ≡ len = length-sliced c offset len (across_within (c ∷ cs) (length c) (offset + len) across_all) in
    ap (λ n. map Parts (across n (cut offset len (c ∷ cs)))) column ∙ (ap (map Parts) (across-sliced (c ∷ cs) (length c) offset len (across_within (c ∷ cs) (length c) (offset + len) across_all)) ∙ map_sliced Parts _ offset len)

-- the rows of a union
pub union_items-sliced : (ids : Option (List ℤ)) (columns : List (List Slot)) (types : List ℤ) (child_rows : List ℕ) (offset len : ℕ) → union_items ids columns (sliced types offset len) (sliced child_rows offset len) ≡ sliced (union_items ids columns types child_rows) offset len
union_items-sliced ids columns types child_rows offset len =
    ap (map (λ row. variant_at ids columns row.0 row.1)) (zip-sliced types child_rows offset len) ∙ map_sliced (λ row. variant_at ids columns row.0 row.1) (zip types child_rows) offset len

-- a part of an array has that part of the rows
mutual
  pub rows_of_slice : (l : Layout) (offset len : ℕ) → offset + len ≤ length (rows l) → rows (slice_of l offset len) ≡ sliced (rows l) offset len
  rows_of_slice (flat t xs) offset len within = refl
  rows_of_slice (listed t v offsets c) offset len within =
      ap (masked (validity_of_slice v offset len)) (list_items-sliced offsets (rows c) offset len) ∙ masked-sliced v (list_items offsets (rows c)) offset len
  rows_of_slice (fixed t v zero c) offset len within =
      let none : length (fixed_items zero (rows c)) ≡ 0 = length-fixed_items zero (rows c) ∙ div-zero (length (rows c)) in
      let fewer = length-masked_le v (fixed_items zero (rows c)) in
      let last : len ≡ 0 = omega (arith, within, none, fewer) in
      ap (masked (validity_of_slice v offset len)) (no_items (rows (slice_of c (offset * zero) (len * zero)))) ∙ (masked_none (validity_of_slice v offset len) ∙ sym (ap (λ n. sliced (masked v (fixed_items zero (rows c))) offset n) last))
  rows_of_slice (fixed t v (suc s) c) offset len within =
      let fewer = length-masked_le v (fixed_items (suc s) (rows c)) in
      let among : offset + len ≤ length (rows c) / suc s = omega (arith, within, fewer, length-fixed_items (suc s) (rows c)) in
      let items = rows_of_slice c (offset * suc s) (len * suc s) (items_within (suc s) (length (rows c)) offset len (omega arith) among) in
      ap (λ xs. masked (validity_of_slice v offset len) (fixed_items (suc s) xs)) items ∙ (ap (masked (validity_of_slice v offset len)) (fixed_items-sliced (suc s) (rows c) offset len (omega arith) among) ∙ masked-sliced v (fixed_items (suc s) (rows c)) offset len)
  rows_of_slice (fielded t v cs) offset len within =
      let among : offset + len ≤ length (struct_items (columns_of cs)) = omega (arith, within, length-masked_le v (struct_items (columns_of cs))) in
      let all : offset + len ≤ length (across (column_length (columns_of cs)) (columns_of cs)) = omega (arith, among, length-map (across (column_length (columns_of cs)) (columns_of cs)) Parts) in
      ap (λ columns. masked (validity_of_slice v offset len) (struct_items columns)) (columns_of_parts cs (column_length (columns_of cs)) offset len all) ∙ (ap (masked (validity_of_slice v offset len)) (struct_items-sliced (columns_of cs) offset len among) ∙ masked-sliced v (struct_items (columns_of cs)) offset len)
  rows_of_slice (sparse t ids start cs) offset len within =
      let child_rows = range_with_len start (length ids) in
      let pairs = length-zip ids child_rows in
      let among : offset + len ≤ length ids = omega (arith, within, length-map (zip ids child_rows) (λ row. variant_at (field_ids t) (columns_of cs) row.0 row.1), pairs, length-range_with_len start (length ids)) in
      rw (length-sliced ids offset len among, ← range-sliced start (length ids) offset len among) (union_items-sliced (field_ids t) (columns_of cs) ids child_rows offset len)
  rows_of_slice (dense t ids child_rows cs) offset len within = union_items-sliced (field_ids t) (columns_of cs) ids child_rows offset len
  rows_of_slice (keyed t keys c) offset len within = map_sliced (keyed_item (rows c)) keys offset len

  columns_of_parts : (ls : Layouts) (n offset len : ℕ) → offset + len ≤ length (across n (columns_of ls)) → columns_of (slices_of ls offset len) ≡ cut offset len (columns_of ls)
  columns_of_parts no_layouts n offset len within = refl
  columns_of_parts (more_layouts l ls) n offset len within =
      let shorter = shorter_stack (rows l) (across n (columns_of ls)) in
      let first = rows_of_slice l offset len (omega (arith, within, shorter.0)) in
      let rest = columns_of_parts ls n offset len (omega (arith, within, shorter.1)) in
      λ i. first i ∷ rest i
