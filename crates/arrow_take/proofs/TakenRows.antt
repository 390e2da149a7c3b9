-- Bytes of a fixed size by index: the rows, one behind the other, and that they fit where their bytes can be counted.
use Rattle.arrow_take.proofs.Common.{arith, ◌≡◌, ◌+◌, ◌-◌, ◌*◌, ◌/◌, ◌%◌, ℕ, suc, ◌<◌, ◌≤◌, ◌^◌, Bool, Option, List, [], ◌∷◌, ◌++◌, length, map, take, drop, get_or, replicate, refl, ap, sym, subst, ◌∙◌, append_assoc, IfSome, option_map, All, concat, append-nil, drop-replicate, length-append, length-map, length-replicate, length-take-le, take-replicate, take_all, All-map, All-take, concat-append, slice_get-map, map-map, mul-le-mul_right, drop-append-add, drop-append_seam, take-append_seam, ArrowType, Fits, physical_type_of, gather, masked, Slot, Null, Bytes, sliced, length-sliced, FitsBytes, FixedParts, fixed_row_bytes, fixed_size_in, fixed_slots, FitsRows, Parts, rows_by, chunks, chunk_at, length-fixed_slots, length-masked, AreKeys, IsKey, key_in, bytes_fit, whole_product, fits_counted, is_counted, null_of_counted, MarksTaken, taken_row, each_key}
use Rattle.arrow_types.specs.declared.datatypes.physical_type.PhysicalType.TheVariants as physical
use Rattle.arrow_take.proofs.IndexLemmas.{Stores, fits_taken, gives_next, length-gather, rows_taken}

-- rows of so many bytes, one behind the other
chunks_of_rows : (size : ℕ) (rows : List (List ℕ)) → All (λ row. length row ≡ size) rows → chunks (length rows) size (concat rows) ≡ rows
chunks_of_rows size [] all = refl
chunks_of_rows size (row ∷ rows) all =
    let long : length row ≡ size = all 0 row (omega arith) in
    let first : take size (row ++ concat rows) ≡ row = ap (λ n. take n (row ++ concat rows)) (sym long) ∙ take-append_seam row (concat rows) in
    let behind : drop size (row ++ concat rows) ≡ concat rows = ap (λ n. drop n (row ++ concat rows)) (sym long) ∙ drop-append_seam row (concat rows) in
    let rest = ap (chunks (length rows) size) behind ∙ chunks_of_rows size rows (λ k d within. all (suc k) d (omega (arith, within))) in
    λ i. first i ∷ rest i

length-rows : (size : ℕ) (rows : List (List ℕ)) → All (λ row. length row ≡ size) rows → length (concat rows) ≡ length rows * size
length-rows size [] all = omega arith
length-rows size (row ∷ rows) all =
    let long : length row ≡ size = all 0 row (omega arith) in
    let rest = length-rows size rows (λ k d within. all (suc k) d (omega (arith, within))) in
    omega (arith, long, rest, length-append row (concat rows))

-- the rows of the indices so far, and of one more
rows_next : (f : Slot → List ℕ) (indices : List Slot) (i : ℕ) (row : List ℕ) → i < length indices → row ≡ f (get_or indices i Null) → concat (map f (take i indices)) ++ row ≡ concat (map f (take (i + 1) indices))
rows_next f indices i row within is =
    let next = gives_next f [] (map f (take i indices)) indices i row within is refl in
    ap (λ bs. concat (map f (take i indices)) ++ bs) (sym (append-nil row)) ∙ (sym (concat-append (map f (take i indices)) (row ∷ [])) ∙ ap concat next)

-- what a loop over the indices has: the rows of those so far, and zeros for the others
abbrev pub RowsUpTo : ℕ → List ℕ → List Slot → ℕ → List ℕ → Type 0
RowsUpTo size bytes indices i taken =
    taken ≡ concat (map (taken_row size bytes) (take i indices)) ++ replicate ((length indices - i) * size) 0

pub rows_of_none : (size : ℕ) (bytes : List ℕ) (indices : List Slot) (taken : List ℕ) → taken ≡ replicate (length indices * size) 0 → RowsUpTo size bytes indices 0 taken
rows_of_none size bytes indices taken is =
    let all : length indices ≡ length indices - 0 = omega arith in
    is ∙ ap (λ n. replicate (n * size) 0) all

pub rows_of_all : (size : ℕ) (bytes : List ℕ) (indices : List Slot) (i : ℕ) (taken : List ℕ) → length indices ≤ i → RowsUpTo size bytes indices i taken → taken ≡ concat (map (taken_row size bytes) indices)
rows_of_all size bytes indices i taken all is =
    let left : length indices - i ≡ 0 = omega (arith, all) in
    let none : (length indices - i) * size ≡ 0 = ap (λ n. n * size) left ∙ omega arith in
    is ∙ ((λ j. concat (map (taken_row size bytes) (take_all i indices all j)) ++ replicate (none j) 0) ∙ append-nil (concat (map (taken_row size bytes) indices)))

-- rows that are stored so
module _ (p : FixedParts) (some : 0 < p.size) (whole : p.count * p.size ≡ length p.bytes) where
  row_inside : (n : ℕ) → n < p.count → n * p.size + p.size ≤ length p.bytes
  row_inside n within =
      let last : (n + 1) * p.size ≤ p.count * p.size = mul-le-mul_right p.size (omega (arith, within)) in
      omega (arith, whole, last)

  -- an index names a row that lies in the bytes
  pub place_inside : (s : Slot) → IsKey p.count s → IfSome (key_in s) (λ n. n * p.size + p.size ≤ length p.bytes)
  place_inside = each_key p.count _ tt row_inside

  row_long : (s : Slot) → IsKey p.count s → length (taken_row p.size p.bytes s) ≡ p.size
  row_long =
      each_key p.count _ (length-replicate p.size 0) (λ n within. length-sliced p.bytes (n * p.size) p.size (row_inside n within))

  rows_long : (indices : List Slot) → AreKeys p.count indices → All (λ row. length row ≡ p.size) (map (taken_row p.size p.bytes) indices)
  rows_long indices keys =
      All-map (λ row. length row ≡ p.size) (taken_row p.size p.bytes) indices (λ k d within. row_long (get_or indices k d) (keys k d within))

  -- those of the indices so far have as many bytes
  so_far : (indices : List Slot) (i : ℕ) → AreKeys p.count indices → i ≤ length indices → length (concat (map (taken_row p.size p.bytes) (take i indices))) ≡ i * p.size
  so_far indices i keys within =
      length-rows p.size (map (taken_row p.size p.bytes) (take i indices)) (rows_long (take i indices) (All-take (IsKey p.count) i indices keys)) ∙ ap (λ n. n * p.size) (length-map (take i indices) (taken_row p.size p.bytes) ∙ length-take-le i indices within)

  -- a turn of a loop over the indices: there are zeros for the row, which is written over them
  module _ (indices : List Slot) (keys : AreKeys p.count indices) (i : ℕ) (within : i < length indices) (taken : List ℕ) (is : RowsUpTo p.size p.bytes indices i taken) where
    abbrev done : List ℕ
    done = concat (map (taken_row p.size p.bytes) (take i indices))

    abbrev more : ℕ
    more = (length indices - (i + 1)) * p.size

    written_so_far : length done ≡ i * p.size
    written_so_far = so_far indices i keys (omega (arith, within))

    zeros : taken ≡ done ++ replicate (p.size + more) 0
    zeros =
        let left : length indices - i ≡ length indices - (i + 1) + 1 = omega (arith, within) in
        let bytes : (length indices - i) * p.size ≡ p.size + more = ap (λ n. n * p.size) left ∙ omega arith in
        is ∙ ap (λ n. done ++ replicate n 0) bytes

    pub has_room : i * p.size + p.size ≤ length taken
    has_room =
        omega (arith, ap length zeros, length-append done (replicate (p.size + more) 0), length-replicate {A = ℕ} (p.size + more) 0, written_so_far)

    pub has_zeros : sliced taken (i * p.size) p.size ≡ replicate p.size 0
    has_zeros =
        (λ j. take p.size (drop (sym written_so_far j) (zeros j))) ∙ (ap (take p.size) (drop-append_seam done (replicate (p.size + more) 0)) ∙ take-replicate p.size (p.size + more) 0 (omega arith))

    pub row_written : (row new : List ℕ) → row ≡ taken_row p.size p.bytes (get_or indices i Null) → new ≡ take (i * p.size) taken ++ (row ++ drop (i * p.size + p.size) taken) → RowsUpTo p.size p.bytes indices (i + 1) new
    row_written row new named written =
        let left : p.size + more - p.size ≡ more = omega arith in
        let front = (λ j. take (sym written_so_far j) (zeros j)) ∙ take-append_seam done (replicate (p.size + more) 0) in
        let back = (λ j. drop (sym written_so_far j + p.size) (zeros j)) ∙ (drop-append-add done (replicate (p.size + more) 0) p.size ∙ (drop-replicate p.size (p.size + more) 0 ∙ ap (λ n. replicate n 0) left)) in
        written ∙ ((λ j. front j ++ (row ++ back j)) ∙ (sym (append_assoc done row (replicate more 0)) ∙ ap (λ bs. bs ++ replicate more 0) (rows_next (taken_row p.size p.bytes) indices i row within named)))

  stores : (v : Option (List Bool)) → Stores v (fixed_slots p) (λ s. Bytes (taken_row p.size p.bytes s))
  stores v =
      λ n within valid. slice_get-map Bytes (fixed_row_bytes p) n ∙ ap (option_map Bytes) (chunk_at p.count p.size p.bytes n (omega (arith, within, length-fixed_slots p)))

  -- by index
  module _ (indices : List Slot) (keys : AreKeys p.count indices) (bytes : List ℕ) (are : bytes ≡ concat (map (taken_row p.size p.bytes) indices)) where
    long : length bytes ≡ length indices * p.size
    long =
        ap length are ∙ (length-rows p.size (map (taken_row p.size p.bytes) indices) (rows_long indices keys) ∙ ap (λ n. n * p.size) (length-map indices (taken_row p.size p.bytes)))

    counted : (length bytes % p.size ≡ 0) × (length bytes / p.size ≡ length indices)
    counted = whole_product (length indices) p.size (length bytes) some long

    -- the bytes are rows of a type of that size, and the validity by index has a bit for each
    pub bytes_are_rows : (z : ℕ) → p.size ≡ z → (v validity : Option (List Bool)) → MarksTaken v indices validity → FitsBytes z (length bytes) validity
    bytes_are_rows z size v validity marks =
        subst (λ n. FitsBytes n (length bytes) validity) size (counted.0, subst (FitsRows validity) (sym counted.1) (fits_taken v validity indices marks))

    rows_are : (z : ℕ) → p.size ≡ z → chunks (length bytes / z) z bytes ≡ map (taken_row p.size p.bytes) indices
    rows_are z size =
        let rows = map (taken_row p.size p.bytes) indices in
        let many : length bytes / p.size ≡ length rows = counted.1 ∙ sym (length-map indices (taken_row p.size p.bytes)) in
        ap (λ n. chunks (length bytes / n) n bytes) (sym size) ∙ ((λ i. chunks (many i) p.size (are i)) ∙ chunks_of_rows p.size rows (rows_long indices keys))

    -- under the validity by index these are the rows by index
    pub fixed_rows_taken : (z : ℕ) → p.size ≡ z → (t : ArrowType) → physical_type_of t ≡ physical.FixedSizeBinary → (v validity : Option (List Bool)) → FitsRows v (length (fixed_slots p)) → MarksTaken v indices validity → masked validity (map Bytes (chunks (length bytes / z) z bytes)) ≡ gather (masked v (fixed_slots p)) indices t
    fixed_rows_taken z size t kind v validity fits marks =
        ap (λ rows. masked validity (map Bytes rows)) (rows_are z size) ∙ (ap (masked validity) (map-map Bytes (taken_row p.size p.bytes) indices) ∙ rows_taken (fixed_slots p) t (λ s. Bytes (taken_row p.size p.bytes s)) (null_of_counted t (ap is_counted kind)) v validity indices fits (stores v) (subst (λ n. AreKeys n indices) (sym (length-fixed_slots p)) keys) marks)

    -- and fit the type
    pub fixed_rows_fit : (t : ArrowType) → physical_type_of t ≡ physical.FixedSizeBinary → p.size ≡ fixed_size_in t → (xs : List Slot) → length indices < 2 ^ 64 → length bytes < 2 ^ 64 → Fits t (gather xs indices t)
    fixed_rows_fit t kind size xs few short =
        let many = length-gather xs indices t in
        let product : fixed_size_in t * length (gather xs indices t) ≡ length bytes = (λ i. sym size i * many i) ∙ omega (arith, long) in
        fits_counted t (gather xs indices t) (ap is_counted kind) (omega (arith, many, few)) (omega (arith, product, short))

-- as many indices of which rows fit have bytes that can be counted
pub fits_product : (t : ArrowType) (size : ℕ) → size ≡ fixed_size_in t → (xs indices : List Slot) → Fits t (gather xs indices t) → length indices * size < 2 ^ 64
fits_product t size same xs indices fits =
    let all = bytes_fit t (gather xs indices t) fits in
    let product : fixed_size_in t * length (gather xs indices t) ≡ length indices * size = (λ i. sym same i * length-gather xs indices t i) ∙ omega arith in
    omega (arith, all, product)

-- the rows are as many as are stored
pub keys_of_fixed : (p : Parts FixedParts) (indices : List Slot) → FitsRows p.validity (length (fixed_slots p.values)) → AreKeys (length (rows_by fixed_slots p)) indices → AreKeys p.values.count indices
keys_of_fixed p indices fits =
    subst (λ n. AreKeys n indices) (length-masked p.validity (fixed_slots p.values) fits ∙ length-fixed_slots p.values)
