-- Rows of bytes that grow, as the laws of what stores them ask.
use Rattle.std.proofs.Common.{arith, ◌≡◌, ◌+◌, ◌*◌, ◌<◌, ◌≤◌, ◌^◌, ℕ, Bool, true, false, List, [], ◌∷◌, ◌++◌, length, map, replicate, refl, ap, sym, subst, ◌∙◌}
use Rattle.std.specs.Prelude.{sum_by}
use Rattle.std.proofs.lemmas.List.{length-map, length-replicate}
use Rattle.std.proofs.lemmas.List.Folds.{sum_by-replicate}
use Rattle.std.proofs.lemmas.List.Sums.{sum_by-append, sum_by-cons}
use Rattle.arrow_types.specs.declared.datatypes.physical_type.PhysicalType.{PhysicalType}
use Rattle.arrow_types.specs.ArrowType.{ArrowType, ListForm, plain, list, struct, union, dictionary, extension, utf8, large_utf8, binary, large_binary, small, large, fixed_size, mapped}
use Rattle.arrow_types.specs.Fits.{Fits, byte_count}
use Rattle.arrow_types.specs.Greatest.{greatest_offset}
use Rattle.arrow_types.specs.Physical.{physical_type_of, list_physical_type}
use Rattle.arrow_types.specs.Rows.{mask}
use Rattle.arrow_types.specs.Slot.{Slot, Null, null_slot}
use Rattle.arrow_types.proofs.RowsLemmas.{length-mask}
use Rattle.arrow_memory.specs.Sliced.{sliced}
use Rattle.arrow_memory.proofs.OffsetLemmas.{map_sliced}
use Rattle.arrow_memory.proofs.SlicedLemmas.{length-sliced}
use Rattle.arrow_flat.specs.ByteRows.{ByteParts, byte_slots, row_bytes}
use Rattle.arrow_flat_growable.specs.Bytes.{IsBytesType, SparesBytes}
use Rattle.arrow_flat_growable.specs.GrownRows.{filled, total}
use Rattle.arrow_flat_growable.specs.MaskLaws.{mask-append, mask-filled, mask-unset, length-filled}

-- what is stored beneath a null has no bytes
spares-filled : (slot : List ℕ → Slot) → ((bytes : List ℕ) → byte_count (slot bytes) ≡ length bytes) → (bits : List Bool) (rows : List (List ℕ)) → length bits ≡ length rows → SparesBytes bits (map slot (filled bits rows))
spares-filled slot counts [] [] same = refl
spares-filled slot counts [] (row ∷ rows) same = absurd (omega (arith, same))
spares-filled slot counts (b ∷ bits) [] same = absurd (omega (arith, same))
spares-filled slot counts (true ∷ bits) (row ∷ rows) same =
    let rest = spares-filled slot counts bits rows (omega (arith, same)) in
    sum_by-cons byte_count (slot row) (mask bits (map slot (filled bits rows))) ∙ (ap (λ n. byte_count (slot row) + n) rest ∙ sym (sum_by-cons byte_count (slot row) (map slot (filled bits rows))))
spares-filled slot counts (false ∷ bits) (row ∷ rows) same =
    let rest = spares-filled slot counts bits rows (omega (arith, same)) in
    sum_by-cons byte_count Null (mask bits (map slot (filled bits rows))) ∙ ((λ i. sym (counts []) i + rest i) ∙ sym (sum_by-cons byte_count (slot []) (map slot (filled bits rows))))

-- a part of the rows, with as many bits
module _ (slot : List ℕ → Slot) (bits : List Bool) (xs : ByteParts) (start len : ℕ) (many : length bits ≡ len) (within : start + len ≤ length (byte_slots slot xs)) where
  part_within : start + len ≤ length (row_bytes xs)
  part_within = omega (arith, within, length-map (row_bytes xs) slot)

  same_count : length bits ≡ length (sliced (row_bytes xs) start len)
  same_count = many ∙ sym (length-sliced (row_bytes xs) start len part_within)

  pub rows_of_slice : mask bits (map slot (filled bits (sliced (row_bytes xs) start len))) ≡ mask bits (sliced (byte_slots slot xs) start len)
  rows_of_slice = mask-filled slot bits (sliced (row_bytes xs) start len) ∙ ap (mask bits) (map_sliced slot (row_bytes xs) start len)

  pub length_of_slice : length (map slot (filled bits (sliced (row_bytes xs) start len))) ≡ len
  length_of_slice =
      length-map (filled bits (sliced (row_bytes xs) start len)) slot ∙ (length-filled bits (sliced (row_bytes xs) start len) same_count ∙ length-sliced (row_bytes xs) start len part_within)

  part_spares : ((bytes : List ℕ) → byte_count (slot bytes) ≡ length bytes) → SparesBytes bits (map slot (filled bits (sliced (row_bytes xs) start len)))
  part_spares counts = spares-filled slot counts bits (sliced (row_bytes xs) start len) same_count

-- rows that come behind others
spares-append : (bits more : List Bool) (stored ys : List Slot) → SparesBytes bits stored → length bits ≡ length stored → SparesBytes more ys → SparesBytes (bits ++ more) (stored ++ ys)
spares-append bits more stored ys spares same behind =
    ap (sum_by byte_count) (mask-append bits more stored ys same) ∙ (sum_by-append byte_count (mask bits stored) (mask more ys) ∙ ((λ i. spares i + behind i) ∙ sym (sum_by-append byte_count stored ys)))

pub spares_slice : (slot : List ℕ → Slot) → ((bytes : List ℕ) → byte_count (slot bytes) ≡ length bytes) → (bits : List Bool) (stored : List Slot) (more : List Bool) (xs : ByteParts) (start len : ℕ) → length more ≡ len → start + len ≤ length (byte_slots slot xs) → SparesBytes bits stored → length bits ≡ length stored → SparesBytes (bits ++ more) (stored ++ map slot (filled more (sliced (row_bytes xs) start len)))
spares_slice slot counts bits stored more xs start len many within spares same =
    spares-append bits more stored (map slot (filled more (sliced (row_bytes xs) start len))) spares same (part_spares slot more xs start len many within counts)

pub spares_blanks : (blank : Slot) → byte_count blank ≡ 0 → (bits : List Bool) (stored : List Slot) (n : ℕ) → SparesBytes bits stored → length bits ≡ length stored → SparesBytes (bits ++ replicate n false) (stored ++ replicate n blank)
spares_blanks blank none bits stored n spares same =
    let masked_none : sum_by byte_count (mask (replicate n false) (replicate n blank)) ≡ n * 0 = ap (sum_by byte_count) (mask-unset n (replicate n blank) (length-replicate n blank)) ∙ sum_by-replicate byte_count n Null in
    let stored_none : sum_by byte_count (replicate n blank) ≡ n * 0 = sum_by-replicate byte_count n blank ∙ ap (λ k. n * k) none in
    spares-append bits (replicate n false) stored (replicate n blank) spares same (masked_none ∙ sym stored_none)

-- a mask keeps no more bytes
fewer_bytes : (bits : List Bool) (xs : List Slot) → sum_by byte_count (mask bits xs) ≤ sum_by byte_count xs
fewer_bytes [] xs = omega arith
fewer_bytes (b ∷ bits) [] = omega arith
fewer_bytes (true ∷ bits) (x ∷ xs) =
    omega (arith, fewer_bytes bits xs, sum_by-cons byte_count x xs, sum_by-cons byte_count x (mask bits xs))
fewer_bytes (false ∷ bits) (x ∷ xs) =
    omega (arith, fewer_bytes bits xs, sum_by-cons byte_count x xs, sum_by-cons byte_count Null (mask bits xs))

-- rows that fit: counted, and their bytes with the greatest offset
abbrev pub FitsCounts : Bool → List Slot → Type 0
FitsCounts is_large rows = (length rows < 2 ^ 64) × (sum_by byte_count rows ≤ greatest_offset is_large)

list_no_bytes : (is_large : Bool) (form : ListForm) → IsBytesType is_large (list_physical_type form) → ⊥
list_no_bytes false small is = is
list_no_bytes false large is = is
list_no_bytes false (fixed_size s) is = is
list_no_bytes false (mapped sorted) is = is
list_no_bytes true small is = is
list_no_bytes true large is = is
list_no_bytes true (fixed_size s) is = is
list_no_bytes true (mapped sorted) is = is

fits_counts : (is_large : Bool) (t : ArrowType) (rows : List Slot) → IsBytesType is_large (physical_type_of t) → Fits t rows → FitsCounts is_large rows
fits_counts false (plain utf8) rows is fits = fits
fits_counts false (plain binary) rows is fits = fits
fits_counts true (plain large_utf8) rows is fits = fits
fits_counts true (plain large_binary) rows is fits = fits
fits_counts is_large (list form f) rows is fits = absurd (list_no_bytes is_large form is)
fits_counts is_large (extension name metadata t) rows is fits = fits_counts is_large t rows is fits
fits_counts false _ rows is fits = absurd is
fits_counts true _ rows is fits = absurd is

counts_fit : (is_large : Bool) (t : ArrowType) (rows : List Slot) → IsBytesType is_large (physical_type_of t) → FitsCounts is_large rows → Fits t rows
counts_fit false (plain utf8) rows is fits = fits
counts_fit false (plain binary) rows is fits = fits
counts_fit true (plain large_utf8) rows is fits = fits
counts_fit true (plain large_binary) rows is fits = fits
counts_fit is_large (list form f) rows is fits = absurd (list_no_bytes is_large form is)
counts_fit is_large (extension name metadata t) rows is fits = counts_fit is_large t rows is fits
counts_fit false _ rows is fits = absurd is
counts_fit true _ rows is fits = absurd is

null_bytes : (is_large : Bool) (t : ArrowType) → IsBytesType is_large (physical_type_of t) → null_slot t ≡ Null
null_bytes is_large (plain p) is = refl
null_bytes is_large (list form f) is = refl
null_bytes is_large (struct fs) is = refl
null_bytes false (union mode ids fs) is = absurd is
null_bytes true (union mode ids fs) is = absurd is
null_bytes is_large (dictionary keys ordered t) is = refl
null_bytes is_large (extension name metadata t) is = null_bytes is_large t is

-- of a type whose arrays lie as texts or bytes
module _ (is_large : Bool) (t : ArrowType) (physical_type : PhysicalType) (lies : IsBytesType is_large physical_type) (kind : physical_type_of t ≡ physical_type) where
  lies_so : IsBytesType is_large (physical_type_of t)
  lies_so = subst (IsBytesType is_large) (sym kind) lies

  pub null_of : null_slot t ≡ Null
  null_of = null_bytes is_large t lies_so

  pub counts_of : (rows : List Slot) → Fits t rows → FitsCounts is_large rows
  counts_of rows fits = fits_counts is_large t rows lies_so fits

  pub fit_by : (rows : List Slot) → FitsCounts is_large rows → Fits t rows
  fit_by rows counts = counts_fit is_large t rows lies_so counts

  pub fits_stored : (bits : List Bool) (stored : List Slot) → SparesBytes bits stored → length bits ≡ length stored → Fits t (mask bits stored) → Fits t stored
  fits_stored bits stored spares same fits =
      let counts = counts_of (mask bits stored) fits in
      fit_by stored (omega (arith, counts.0, length-mask bits stored same), omega (arith, counts.1, spares))

  pub fits_rows : (bits : List Bool) (stored : List Slot) → length bits ≡ length stored → Fits t stored → Fits t (mask bits stored)
  fits_rows bits stored same fits =
      let counts = counts_of stored fits in
      fit_by (mask bits stored) (omega (arith, counts.0, length-mask bits stored same), omega (arith, counts.1, fewer_bytes bits stored))

-- as many bytes as are counted
module _ (slot : List ℕ → Slot) (counts : (bytes : List ℕ) → byte_count (slot bytes) ≡ length bytes) where
  slots_count : (rows : List (List ℕ)) → sum_by byte_count (map slot rows) ≡ total rows
  slots_count [] = refl
  slots_count (row ∷ rows) =
      omega (arith, sum_by-cons byte_count (slot row) (map slot rows), sum_by-cons length row rows, counts row, slots_count rows)

  -- rows that are counted, and whose bytes are
  pub slots_fit : (is_large : Bool) (t : ArrowType) (physical_type : PhysicalType) → IsBytesType is_large physical_type → physical_type_of t ≡ physical_type → (rows : List (List ℕ)) (n greatest : ℕ) → n ≡ length rows → n < 2 ^ 64 → total rows ≤ greatest → greatest ≡ greatest_offset is_large → Fits t (map slot rows)
  slots_fit is_large t physical_type lies kind rows n greatest count counted few is =
      fit_by is_large t physical_type lies kind (map slot rows) (omega (arith, count, counted, length-map rows slot), omega (arith, few, is, slots_count rows))

  -- and rows that have too many
  pub slots_pass : (is_large : Bool) (t : ArrowType) (physical_type : PhysicalType) → IsBytesType is_large physical_type → physical_type_of t ≡ physical_type → (rows : List (List ℕ)) (greatest : ℕ) → greatest < total rows → greatest ≡ greatest_offset is_large → Fits t (map slot rows) → ⊥
  slots_pass is_large t physical_type lies kind rows greatest many is fits =
      let counted = counts_of is_large t physical_type lies kind (map slot rows) fits in
      omega (arith, many, is, slots_count rows, counted.1)
