-- Rows that lie one behind the other, one at a time.
use Rattle.std.proofs.Common.{◌≡◌, ℕ, zero, suc, ◌+◌, ◌-◌, ◌<◌, ◌≤◌, pos, Bool, Some, List, [], ◌∷◌, length, map, get_or, drop, slice_index, refl, ap, sym, subst, ◌∙◌, arith}
use Rattle.std.specs.Prelude.{slice_get, nat_eq}
use Rattle.std.specs.Bool.{Decides}
use Rattle.std.specs.Cmp.Lexicographic.{pointwise}
use Rattle.std.specs.List.{All}
use Rattle.std.proofs.lemmas.Bool.Decides.{Decides-eqb}
use Rattle.std.proofs.lemmas.List.{length-map, get_or-take, get_or-drop}
use Rattle.std.proofs.lemmas.List.Elements.{All-take, All-drop}
use Rattle.std.proofs.lemmas.Slice.Eq.{slice_eq-Decides}
use Rattle.std.proofs.lemmas.Option.{get_or_from_slice_get}
use Rattle.arrow_types.specs.Slot.{Slot, Null}
use Rattle.arrow_memory.specs.Offsets.{IsOffsets, last_of}
use Rattle.arrow_memory.specs.Sliced.{sliced}
use Rattle.arrow_memory.proofs.OffsetLemmas.{at_most_last, map_sliced, sliced_offsets}
use Rattle.arrow_memory.proofs.SlicedLemmas.{length-sliced}
use Rattle.arrow_flat.specs.ByteRows.{ByteParts, AreByteRows, row_bytes, byte_slots, byte_slice}
use Rattle.arrow_flat.specs.Pieces.{pieces, pieces_from}
use Rattle.arrow_flat.specs.PieceLaws.{pieces-sliced}

length-pieces_from : {A : Type 0} (start : ℕ) (offsets : List ℕ) (xs : List A) → length (pieces_from start offsets xs) ≡ length offsets
length-pieces_from start [] xs = refl
length-pieces_from start (end ∷ offsets) xs = ap suc (length-pieces_from end offsets xs)

-- one row less than there are offsets
pub length-pieces : {A : Type 0} (offsets : List ℕ) (xs : List A) → length (pieces offsets xs) ≡ length offsets - 1
length-pieces [] xs = refl
length-pieces (start ∷ offsets) xs = length-pieces_from start offsets xs ∙ omega arith

piece_from_at : {A : Type 0} (start : ℕ) (offsets : List ℕ) (xs : List A) (i : ℕ) → i < length offsets → slice_get (pieces_from start offsets xs) i ≡ Some (sliced xs (slice_index (start ∷ offsets) i) (slice_index offsets i - slice_index (start ∷ offsets) i))
piece_from_at start [] xs i within = absurd (omega (arith, within))
piece_from_at start (end ∷ offsets) xs zero within = refl
piece_from_at start (end ∷ offsets) xs (suc i) within = piece_from_at end offsets xs i (omega (arith, within))

-- row i lies from offset i to offset i + 1
pub piece_at : {A : Type 0} (offsets : List ℕ) (xs : List A) (i : ℕ) → i + 1 < length offsets → slice_get (pieces offsets xs) i ≡ Some (sliced xs (slice_index offsets i) (slice_index offsets (i + 1) - slice_index offsets i))
piece_at [] xs i within = absurd (omega (arith, within))
piece_at (start ∷ offsets) xs i within =
    let next : i + 1 ≡ suc i = omega arith in
    rw next (piece_from_at start offsets xs i (omega (arith, within)))

-- each member of a list of which something holds
pub holds_at : {A : Type 0} (P : A → Type 0) (xs : List A) (i : ℕ) (x : A) → All P xs → slice_get xs i ≡ Some x → i < length xs → P x
holds_at P xs i x all read within = subst P (get_or_from_slice_get xs i x x read) (all i x within)

pub part_of_offsets : (os : List ℕ) (o n : ℕ) → IsOffsets os → o + n ≤ length os → 0 < n → IsOffsets (sliced os o n)
part_of_offsets os o n held within some =
    rw (map_sliced pos os o n) (sliced_offsets (map pos os) o n held (omega (arith, within, length-map os pos)) some)

-- a member of a part
pub member_of_part : (xs : List ℕ) (o n i : ℕ) → i < n → slice_index (sliced xs o n) i ≡ slice_index xs (o + i)
member_of_part xs o n i within = get_or-take n (drop o xs) i 0 within ∙ get_or-drop o xs i 0

-- the last offset of a part is none behind the last
pub last_of_part : (os : List ℕ) (o n : ℕ) → IsOffsets os → o + (n + 1) ≤ length os → last_of (sliced os o (n + 1)) ≤ last_of os
last_of_part os o n held within =
    let long = length-sliced os o (n + 1) within in
    let last : length (sliced os o (n + 1)) - 1 ≡ n = omega (arith, long) in
    let read : slice_index (sliced os o (n + 1)) n ≡ slice_index os (o + n) = member_of_part os o (n + 1) n (omega arith) in
    let bound = at_most_last os (o + n) held (omega (arith, within)) in
    rw (last, read) bound

-- a part of the rows is rows again
pub part_of_rows : (Allows : List ℕ → Type 0) (p : ByteParts) (offset len : ℕ) → AreByteRows Allows p → offset + (len + 1) ≤ length p.offsets → AreByteRows Allows (byte_slice p offset len)
part_of_rows Allows p offset len held within =
    let part = sliced p.offsets offset (len + 1) in
    record {
      offsets = part_of_offsets p.offsets offset (len + 1) held.offsets within (omega arith);
      within = omega (arith, held.within, last_of_part p.offsets offset len held.offsets within);
      rows = rw (pieces-sliced p.offsets p.bytes offset len) (All-take Allows len _ (All-drop Allows offset _ held.rows));
    }

-- as many slots as rows
pub length-byte_slots : (slot : List ℕ → Slot) (p : ByteParts) → length (byte_slots slot p) ≡ length p.offsets - 1
length-byte_slots slot p = length-map (row_bytes p) slot ∙ length-pieces p.offsets p.bytes

-- rows up to one begin at an offset, where the parts are seen so
pub rows_before : (slot : List ℕ → Slot) (p q : ByteParts) (k : ℕ) → IsOffsets p.offsets → p ≡ q → k ≤ length (byte_slots slot q) → k < length p.offsets
rows_before slot p q k held seen within =
    let there = subst (λ r. k ≤ length (byte_slots slot r)) (sym seen) within in
    omega (arith, there, length-byte_slots slot p, held.some, length-map p.offsets pos)

-- the slot of a row that is read
pub slot_of_row : {A : Type 0} (slot : A → Slot) (xs : List A) (i : ℕ) (x : A) → slice_get xs i ≡ Some x → get_or (map slot xs) i Null ≡ slot x
slot_of_row slot [] i x read = cc
slot_of_row slot (y ∷ ys) zero x read =
    let same : y ≡ x = cc in
    ap slot same
slot_of_row slot (y ∷ ys) (suc i) x read = slot_of_row slot ys i x read

-- bytes are one where a test says so
pub bytes_decide : (xs ys : List ℕ) (r : Bool) → r ≡ pointwise nat_eq xs ys → Decides r (xs ≡ ys)
bytes_decide = slice_eq-Decides Decides-eqb
