-- Rows of so many bytes each.
use Rattle.std.proofs.Common.{◌≡◌, ℕ, zero, suc, ◌+◌, ◌*◌, ◌/◌, ◌%◌, ◌<◌, ◌≤◌, ◌^◌, Bool, Some, List, [], ◌∷◌, ◌++◌, length, map, take, drop, refl, ap, sym, ◌∙◌, arith}
use Rattle.std.specs.Prelude.{slice_get}
use Rattle.std.specs.Bool.{Decides}
use Rattle.std.proofs.Math.Nat.{mul-le-mul_right, le-mul_of_pos_right, eq_of_mul-eq-mul_left, mod-eq-sub-div-mul, div-mul-le_self}
use Rattle.std.proofs.lemmas.List.{length-map, length-drop, drop-drop, take-append-drop}
use Rattle.arrow_types.specs.ArrowType.{ArrowType, plain, extension, list, fixed_size_binary, small}
use Rattle.arrow_types.specs.Carried.{IsCarried}
use Rattle.arrow_types.specs.Physical.{physical_type_of}
use Rattle.arrow_types.specs.declared.datatypes.physical_type.PhysicalType.TheVariants as physical
use Rattle.arrow_types.specs.Slot.{Bytes}
use Rattle.arrow_memory.specs.Sliced.{sliced}
use Rattle.arrow_memory.proofs.SlicedLemmas.{length-sliced}
use Rattle.arrow_flat.specs.FixedRows.{FixedParts, AreFixedRows, fixed_row_bytes, fixed_slots, fixed_slice, fixed_size_in}
use Rattle.arrow_flat.specs.PieceLaws.{length-chunks, slots_of_chunks}
use Rattle.arrow_flat.specs.Pieces.{chunks}
use Rattle.arrow_flat.proofs.StoredLemmas.{map-same}

pub length-fixed_slots : (p : FixedParts) → length (fixed_slots p) ≡ p.count
length-fixed_slots p = length-map (fixed_row_bytes p) Bytes ∙ length-chunks p.count p.size p.bytes

-- row i begins behind i rows
pub chunk_at : {A : Type 0} (count size : ℕ) (xs : List A) (i : ℕ) → i < count → slice_get (chunks count size xs) i ≡ Some (take size (drop (i * size) xs))
chunk_at zero size xs i within = absurd (omega (arith, within))
chunk_at (suc count) size xs zero within =
    let none : zero * size ≡ zero = omega arith in
    rw none refl
chunk_at (suc count) size xs (suc i) within =
    let split : suc i * size ≡ size + i * size = omega arith in
    rw split (chunk_at count size (drop size xs) i (omega (arith, within)) ∙ ap (λ ys. Some (take size ys)) (drop-drop (i * size) size xs))

-- a place among the rows is one among the bytes
pub row_within : (p : FixedParts) (i : ℕ) → AreFixedRows p → i ≤ p.count → i * p.size ≤ length p.bytes
row_within p i held within = omega (arith, held.whole, mul-le-mul_right p.size within)

pub count_fits : (p : FixedParts) → AreFixedRows p → p.count < 2 ^ 64
count_fits p held = omega (arith, held.whole, held.fits, le-mul_of_pos_right p.count held.some)

pub part_of_fixed_rows : (p : FixedParts) (offset len : ℕ) → AreFixedRows p → offset + len ≤ p.count → AreFixedRows (fixed_slice p offset len)
part_of_fixed_rows p offset len held within =
    let end : (offset + len) * p.size ≤ length p.bytes = row_within p (offset + len) held within in
    let long = length-sliced p.bytes (offset * p.size) (len * p.size) (omega (arith, end)) in
    record { some = held.some; whole = sym long; fits = omega (arith, long, end, held.fits) }

-- the rows one behind the other are the bytes

abbrev glued : List (List ℕ) → List ℕ
glued [] = []
glued (xs ∷ xss) = xs ++ glued xss

glued-chunks : (count size : ℕ) (xs : List ℕ) → count * size ≡ length xs → glued (chunks count size xs) ≡ xs
glued-chunks zero size [] whole = refl
glued-chunks zero size (x ∷ xs) whole = absurd (omega (arith, whole))
glued-chunks (suc count) size xs whole =
    let rest : count * size ≡ length (drop size xs) = omega (arith, whole, length-drop size xs) in
    ap (λ ys. take size xs ++ ys) (glued-chunks count size (drop size xs) rest) ∙ take-append-drop size xs

-- so many rows are the same where their bytes are
same_rows : (count size other_size : ℕ) (xs : List ℕ) → count * size ≡ length xs → count * other_size ≡ length xs → chunks count size xs ≡ chunks count other_size xs
same_rows zero size other_size xs whole other_whole = refl
same_rows (suc count) size other_size xs whole other_whole =
    ap (λ s. chunks (suc count) s xs) (eq_of_mul-eq-mul_left (suc count) (omega arith) size other_size (whole ∙ sym other_whole))

fixed_rows_decide : (p q : FixedParts) (r : Bool) → AreFixedRows p → AreFixedRows q → p.count ≡ q.count → Decides r (p.bytes ≡ q.bytes) → Decides r (fixed_slots p ≡ fixed_slots q)
fixed_rows_decide p q r held other_held counts told =
    let one : (x y : List ℕ) → Bytes x ≡ Bytes y → x ≡ y = λ x y same. cc in (
      λ e. ap (map Bytes) (
          let bytes = told.0 e in
          let whole : q.count * p.size ≡ length q.bytes = rw (← counts, ← bytes) held.whole in
          rw (counts, bytes) (same_rows q.count p.size q.size q.bytes whole other_held.whole)
          ),
      λ same.
          let rows = map-same Bytes one (fixed_row_bytes p) (fixed_row_bytes q) same in
          told.1 (sym (glued-chunks p.count p.size p.bytes held.whole) ∙ (ap glued rows ∙ glued-chunks q.count q.size q.bytes other_held.whole)),
    )

-- and parts of them are where the bytes of these are
pub fixed_parts_decide : (p q : FixedParts) (a b len : ℕ) (r : Bool) → AreFixedRows p → AreFixedRows q → a + len ≤ p.count → b + len ≤ q.count → Decides r ((fixed_slice p a len).bytes ≡ (fixed_slice q b len).bytes) → Decides r (sliced (fixed_slots p) a len ≡ sliced (fixed_slots q) b len)
fixed_parts_decide p q a b len r held other_held here there told =
    let left = slots_of_chunks Bytes p.count p.size p.bytes a len (omega (arith, here, length-fixed_slots p)) in
    let right = slots_of_chunks Bytes q.count q.size q.bytes b len (omega (arith, there, length-fixed_slots q)) in
    let parts = fixed_rows_decide (fixed_slice p a len) (fixed_slice q b len) r (part_of_fixed_rows p a len held here) (part_of_fixed_rows q b len other_held there) refl told in
    (λ e. sym left ∙ (parts.0 e ∙ right), λ same. parts.1 (left ∙ (same ∙ sym right)))

-- a carried type of rows of a fixed size has a byte a row at least
pub some_bytes : (t : ArrowType) → IsCarried t → physical_type_of t ≡ physical.FixedSizeBinary → 0 < fixed_size_in t
some_bytes (plain (fixed_size_binary size)) carried kind = carried
some_bytes (extension name metadata t) carried kind = some_bytes t carried kind
some_bytes (list small f) carried kind = cc
some_bytes t carried kind = cc

-- without rest the rows are all bytes
pub whole_rows : (n size : ℕ) → n % size ≡ 0 → n / size * size ≡ n
whole_rows n size none = omega (arith, none, mod-eq-sub-div-mul n size, div-mul-le_self n size)
