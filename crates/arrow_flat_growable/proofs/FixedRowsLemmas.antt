-- Rows of so many bytes each under construction.
use Rattle.arrow_flat_growable.proofs.Common.{◌≡◌, ℕ, zero, suc, ◌+◌, ◌-◌, ◌*◌, ◌/◌, ◌%◌, ◌<◌, ◌≤◌, ◌^◌, Bool, Option, List, [], ◌∷◌, ◌++◌, length, map, drop, replicate, refl, ap, sym, subst, ◌∙◌, arith, length-append, mul-le-mul_right, length-replicate, length-drop, map-append, take-append-le, drop-append-le, take-replicate, drop-replicate, ArrowType, Fits, physical_type_of, Slot, Bytes, sliced, length-sliced, FixedParts, AreFixedRows, FitsBytes, fixed_slots, fixed_size_in, FitsRows, slots_of_chunks, chunks, length-fixed_slots, count_fits, bytes_fit, whole_product, map_constant, is_counted, fits_count, fits_counted}
use Rattle.arrow_types.specs.declared.datatypes.physical_type.PhysicalType.TheVariants as physical

abbrev parts : ℕ → ℕ → List ℕ → FixedParts
parts size count bytes = record { size = size; count = count; bytes = bytes }

-- rows behind others
pub chunks-append : {A : Type 0} (count more size : ℕ) (xs ys : List A) → count * size ≡ length xs → chunks (count + more) size (xs ++ ys) ≡ chunks count size xs ++ chunks more size ys
chunks-append zero more size [] ys whole =
    let same : zero + more ≡ more = omega arith in
    rw same refl
chunks-append zero more size (x ∷ xs) ys whole = absurd (omega (arith, whole))
chunks-append (suc count) more size xs ys whole =
    let next : suc count + more ≡ suc (count + more) = omega arith in
    let first : size ≤ length xs = omega (arith, whole) in
    let rest : count * size ≡ length (drop size xs) = omega (arith, whole, length-drop size xs) in
    let rows = ap (chunks (count + more) size) (drop-append-le size xs ys first) ∙ chunks-append count more size (drop size xs) ys rest in
    rw next (λ i. take-append-le size xs ys first i ∷ rows i)

rows_behind : (size count more : ℕ) (bytes behind new : List ℕ) → count * size ≡ length bytes → new ≡ bytes ++ behind → fixed_slots (parts size (count + more) new) ≡ fixed_slots (parts size count bytes) ++ map Bytes (chunks more size behind)
rows_behind size count more bytes behind new whole is =
    ap (map Bytes) (ap (chunks (count + more) size) is ∙ chunks-append count more size bytes behind whole) ∙ map-append Bytes (chunks count size bytes) (chunks more size behind)

-- the bytes of a part of the rows are there
pub bytes_within : (q : FixedParts) (start len step : ℕ) (from : List ℕ) → step ≡ q.size → q.count * q.size ≡ length q.bytes → start + len ≤ length (fixed_slots q) → from ≡ q.bytes → start * step + len * step ≤ length from
bytes_within q start len step from same whole within from_is =
    let rows : start + len ≤ q.count = omega (arith, within, length-fixed_slots q) in
    let bytes : (start + len) * q.size ≤ q.count * q.size = mul-le-mul_right q.size rows in
    rw (same, from_is) (omega (arith, whole, bytes))

-- so many rows of others behind one's own
pub part_behind : (size count start len total step : ℕ) (bytes new from : List ℕ) (s q : FixedParts) → parts size count bytes ≡ s → count * size ≡ length bytes → s.size ≡ q.size → step ≡ q.size → start + len ≤ length (fixed_slots q) → total ≡ count + len → from ≡ q.bytes → new ≡ bytes ++ sliced from (start * step) (len * step) → fixed_slots (parts size total new) ≡ fixed_slots s ++ sliced (fixed_slots q) start len
part_behind size count start len total step bytes new from s q seen whole one same within total_is from_is is =
    let own : size ≡ q.size = ap (λ p. p.size) seen ∙ one in
    let behind : List ℕ = sliced q.bytes (start * q.size) (len * q.size) in
    let appended : new ≡ bytes ++ behind = is ∙ (λ i. bytes ++ sliced (from_is i) (start * same i) (len * same i)) in
    ap (λ n. fixed_slots (parts size n new)) total_is ∙ (rows_behind size count len bytes behind new whole appended ∙ ((λ i. fixed_slots (seen i) ++ map Bytes (chunks len (own i) behind)) ∙ ap (λ ys. fixed_slots s ++ ys) (slots_of_chunks Bytes q.count q.size q.bytes start len within)))

pub part_counts : (size count start len total step : ℕ) (bytes new from : List ℕ) → AreFixedRows (parts size count bytes) → size ≡ step → start * step + len * step ≤ length from → total ≡ count + len → new ≡ bytes ++ sliced from (start * step) (len * step) → length new < 2 ^ 64 → AreFixedRows (parts size total new)
part_counts size count start len total step bytes new from held same within total_is is fits =
    let long : length new ≡ length bytes + len * step = ap length is ∙ (length-append bytes (sliced from (start * step) (len * step)) ∙ ap (λ n. length bytes + n) (length-sliced from (start * step) (len * step) within)) in
    let own : length new ≡ length bytes + len * size = long ∙ ap (λ n. length bytes + len * n) (sym same) in
    let rows : total * size ≡ (count + len) * size = ap (λ n. n * size) total_is in
    record { some = held.some; whole = omega (arith, held.whole, own, rows); fits = fits }

-- rows of zeros
chunks-zeros : (n size : ℕ) → chunks {A = ℕ} n size (replicate (n * size) 0) ≡ replicate n (replicate size 0)
chunks-zeros zero size = refl
chunks-zeros (suc n) size =
    let split : suc n * size ≡ size + n * size = omega arith in
    let left : size + n * size - size ≡ n * size = omega arith in
    let first = take-replicate {X = ℕ} size (size + n * size) 0 (omega arith) in
    let rest = ap (chunks {A = ℕ} n size) (drop-replicate {X = ℕ} size (size + n * size) 0 ∙ ap (λ k. replicate {A = ℕ} k 0) left) ∙ chunks-zeros n size in
    rw split (λ i. first i ∷ rest i)

pub zeros_behind : (size count more total : ℕ) (bytes new : List ℕ) (s : FixedParts) → parts size count bytes ≡ s → count * size ≡ length bytes → total ≡ count + more → new ≡ bytes ++ replicate (more * size) 0 → fixed_slots (parts size total new) ≡ fixed_slots s ++ replicate more (Bytes (replicate s.size 0))
zeros_behind size count more total bytes new s seen whole total_is is =
    let own : size ≡ s.size = ap (λ p. p.size) seen in
    let zeros = ap (map Bytes) (chunks-zeros more size) ∙ (map_constant Bytes more (replicate size 0) ∙ ap (λ n. replicate more (Bytes (replicate n 0))) own) in
    ap (λ n. fixed_slots (parts size n new)) total_is ∙ (rows_behind size count more bytes (replicate (more * size) 0) new whole is ∙ (λ i. fixed_slots (seen i) ++ zeros i))

pub zeros_count : (size count more total : ℕ) (bytes new : List ℕ) → AreFixedRows (parts size count bytes) → total ≡ count + more → new ≡ bytes ++ replicate (more * size) 0 → (count + more) * size < 2 ^ 64 → AreFixedRows (parts size total new)
zeros_count size count more total bytes new held total_is is fits =
    let long : length new ≡ length bytes + more * size = ap length is ∙ (length-append bytes (replicate (more * size) 0) ∙ ap (λ n. length bytes + n) (length-replicate (more * size) 0)) in
    let rows : total * size ≡ (count + more) * size = ap (λ n. n * size) total_is in
    record { some = held.some; whole = omega (arith, held.whole, long, rows); fits = omega (arith, held.whole, long, fits) }

-- rows fit a type of their size
pub fixed_rows_fit : (p : FixedParts) (t : ArrowType) → AreFixedRows p → physical_type_of t ≡ physical.FixedSizeBinary → p.size ≡ fixed_size_in t → Fits t (fixed_slots p)
fixed_rows_fit p t held kind size =
    let count : length (fixed_slots p) < 2 ^ 64 = omega (arith, length-fixed_slots p, count_fits p held) in
    let bytes : p.size * p.count < 2 ^ 64 = omega (arith, held.whole, held.fits) in
    fits_counted t (fixed_slots p) (ap is_counted kind) count (rw (← size, length-fixed_slots p) bytes)

-- and where they fit they are counted, and their bytes
pub both_counted : (t : ArrowType) (s : FixedParts) (ys : List Slot) (count more step : ℕ) → count ≡ s.count → length ys ≡ more → step ≡ fixed_size_in t → Fits t (fixed_slots s ++ ys) → (count + more < 2 ^ 64) × ((count + more) * step < 2 ^ 64)
both_counted t s ys count more step counts long same fits =
    let all : length (fixed_slots s ++ ys) ≡ count + more = length-append (fixed_slots s) ys ∙ (λ i. length-fixed_slots s i + long i) ∙ ap (λ n. n + more) (sym counts) in
    let bytes : step * (count + more) < 2 ^ 64 = rw (same, ← all) (bytes_fit t (fixed_slots s ++ ys) fits) in
    (omega (arith, all, fits_count t (fixed_slots s ++ ys) fits), omega (arith, bytes))

-- rows that are stored as bytes of a type
module _ (size count z : ℕ) (bytes from : List ℕ) (s : FixedParts) (seen : parts size count bytes ≡ s) (held : AreFixedRows (parts size count bytes)) (kind : s.size ≡ z) (from_is : from ≡ bytes) where
  own : size ≡ z
  own = ap (λ p. p.size) seen ∙ kind

  rows : (length from % size ≡ 0) × (length from / size ≡ count)
  rows = whole_product count size (length from) held.some (ap length from_is ∙ sym held.whole)

  pub stored_fit : (validity : Option (List Bool)) → FitsRows validity (length (fixed_slots s)) → FitsBytes z (length from) validity
  stored_fit validity fits =
      let long : length (fixed_slots s) ≡ length from / size = ap (λ p. length (fixed_slots p)) (sym seen) ∙ (length-fixed_slots (parts size count bytes) ∙ sym rows.1) in
      subst (λ n. FitsBytes n (length from) validity) own (rows.0, subst (FitsRows validity) long fits)

  pub stored_parts : parts z (length from / z) from ≡ s
  stored_parts =
      let counts : length from / z ≡ count = ap (λ n. length from / n) (sym own) ∙ rows.1 in
      (λ i. parts (sym own i) (counts i) (from_is i)) ∙ seen
