-- Rows are the same where they are as long and their bytes, one row behind the other, are the same.
use Rattle.std.proofs.Common.{◌≡◌, ℕ, zero, suc, ◌+◌, ◌-◌, ◌<◌, ◌≤◌, pos, Bool, List, [], ◌∷◌, ◌++◌, length, map, get_or, take, drop, slice_index, refl, ap, sym, ◌∙◌, arith}
use Rattle.std.specs.Bool.{Decides}
use Rattle.std.specs.List.{concat}
use Rattle.std.proofs.Math.Seq.{take-add}
use Rattle.std.proofs.lemmas.Int.{ints}
use Rattle.std.proofs.lemmas.List.{drop-drop, drop_at, length-map, take_at}
use Rattle.std.proofs.lemmas.List.Concat.{concat_is, flat_map-cons}
use Rattle.arrow_memory.specs.Offsets.{RisesFrom, IsOffsets, last_of}
use Rattle.arrow_memory.specs.Sliced.{sliced}
use Rattle.arrow_memory.proofs.OffsetLemmas.{at_most_last, last_behind, map_sliced}
use Rattle.arrow_memory.proofs.SlicedLemmas.{length-sliced}
use Rattle.arrow_types.specs.Slot.{Slot, Null}
use Rattle.arrow_flat.specs.ByteRows.{ByteParts, row_bytes, byte_slots, byte_slice}
use Rattle.arrow_flat.specs.PieceLaws.{pieces-sliced, slots_of_pieces}
use Rattle.arrow_flat.specs.Pieces.{pieces, pieces_from, lengths, lengths_from}
use Rattle.arrow_flat.proofs.PieceLemmas.{part_of_offsets, last_of_part, member_of_part}

-- ---- lengths, one by one

length-lengths_from : (start : ℕ) (offsets : List ℕ) → length (lengths_from start offsets) ≡ length offsets
length-lengths_from start [] = refl
length-lengths_from start (end ∷ offsets) = ap suc (length-lengths_from end offsets)

pub length-lengths : (offsets : List ℕ) → length (lengths offsets) ≡ length offsets - 1
length-lengths [] = refl
length-lengths (start ∷ offsets) = length-lengths_from start offsets ∙ omega arith

length_from_at : (start : ℕ) (offsets : List ℕ) (i : ℕ) → i < length offsets → slice_index (lengths_from start offsets) i ≡ slice_index offsets i - slice_index (start ∷ offsets) i
length_from_at start [] i within = absurd (omega (arith, within))
length_from_at start (end ∷ offsets) zero within = refl
length_from_at start (end ∷ offsets) (suc i) within = length_from_at end offsets i (omega (arith, within))

pub length_at : (offsets : List ℕ) (i : ℕ) → i + 1 < length offsets → slice_index (lengths offsets) i ≡ slice_index offsets (i + 1) - slice_index offsets i
length_at [] i within = absurd (omega (arith, within))
length_at (start ∷ offsets) i within =
    let next : i + 1 ≡ suc i = omega arith in
    rw next (length_from_at start offsets i (omega (arith, within)))

-- members of parts that are the same
pub row_of_part : (xs ys : List ℕ) (a b n i : ℕ) → i < n → sliced xs a n ≡ sliced ys b n → slice_index xs (a + i) ≡ slice_index ys (b + i)
row_of_part xs ys a b n i within same =
    sym (member_of_part xs a n i within) ∙ (ap (λ zs. slice_index zs i) same ∙ member_of_part ys b n i within)

-- ---- rows, all together

offsets_of : (start : ℕ) (offsets : List ℕ) → RisesFrom (pos start) (map pos offsets) → IsOffsets (start ∷ offsets)
offsets_of start offsets rises = record { some = omega arith; rises = (omega (arith, ints), rises) }

at_most_end : (start : ℕ) (offsets : List ℕ) → RisesFrom (pos start) (map pos offsets) → start ≤ last_of (start ∷ offsets)
at_most_end start offsets rises = at_most_last (start ∷ offsets) 0 (offsets_of start offsets rises) (omega arith)

concat-cons : (xs : List ℕ) (xss : List (List ℕ)) → concat (xs ∷ xss) ≡ xs ++ concat xss
concat-cons xs xss = concat_is (xs ∷ xss) ∙ (flat_map-cons (λ ys. ys) xs xss ∙ ap (λ ys. xs ++ ys) (sym (concat_is xss)))

lengths_of_pieces : (start : ℕ) (offsets bytes : List ℕ) → RisesFrom (pos start) (map pos offsets) → last_of (start ∷ offsets) ≤ length bytes → map length (pieces_from start offsets bytes) ≡ lengths_from start offsets
lengths_of_pieces start [] bytes rises within = refl
lengths_of_pieces start (end ∷ offsets) bytes rises within =
    let order : start ≤ end = omega (arith, ints, rises.0) in
    let last = last_behind start end offsets in
    let bound = at_most_end end offsets rises.1 in
    let first = length-sliced bytes start (end - start) (omega arith) in
    let rest = lengths_of_pieces end offsets bytes rises.1 (omega arith) in
    λ t. first t ∷ rest t

-- the rows one behind the other are all bytes from the first offset to the last
joined_pieces : (start : ℕ) (offsets bytes : List ℕ) → RisesFrom (pos start) (map pos offsets) → concat (pieces_from start offsets bytes) ≡ sliced bytes start (last_of (start ∷ offsets) - start)
joined_pieces start [] bytes rises =
    let none : last_of (start ∷ []) - start ≡ 0 = omega arith in
    rw none refl
joined_pieces start (end ∷ offsets) bytes rises =
    let order : start ≤ end = omega (arith, ints, rises.0) in
    let last = last_behind start end offsets in
    let bound = at_most_end end offsets rises.1 in
    let rest = last_of (end ∷ offsets) - end in
    let parts : last_of (start ∷ end ∷ offsets) - start ≡ (end - start) + rest = omega arith in
    let next : start + (end - start) ≡ end = omega arith in
    let cut = take-add (end - start) rest (drop start bytes) in
    let behind : drop (end - start) (drop start bytes) ≡ drop end bytes = drop-drop (end - start) start bytes ∙ ap (λ n. drop n bytes) next in
    concat-cons (sliced bytes start (end - start)) (pieces_from end offsets bytes) ∙
    (ap (λ ys. sliced bytes start (end - start) ++ ys) (joined_pieces end offsets bytes rises.1 ∙ ap (take rest) (sym behind)) ∙ (sym cut ∙ ap (λ n. take n (drop start bytes)) (sym parts)))

same_mapped : (slot : List ℕ → Slot) → ((x y : List ℕ) → slot x ≡ slot y → x ≡ y) → (xss yss : List (List ℕ)) → map slot xss ≡ map slot yss → xss ≡ yss
same_mapped slot one_to_one [] [] same = refl
same_mapped slot one_to_one [] (ys ∷ yss) same = absurd (omega (arith, ap length same, length-map yss slot))
same_mapped slot one_to_one (xs ∷ xss) [] same = absurd (omega (arith, ap length same, length-map xss slot))
same_mapped slot one_to_one (xs ∷ xss) (ys ∷ yss) same =
    let first = one_to_one xs ys (ap (λ slots. get_or slots 0 Null) same) in
    let rest = same_mapped slot one_to_one xss yss (ap (drop 1) same) in
    λ t. first t ∷ rest t

same_parts : (xss yss : List (List ℕ)) → map length xss ≡ map length yss → concat xss ≡ concat yss → xss ≡ yss
same_parts [] [] long same = refl
same_parts [] (ys ∷ yss) long same = absurd (omega (arith, ap length long, length-map yss length))
same_parts (xs ∷ xss) [] long same = absurd (omega (arith, ap length long, length-map xss length))
same_parts (xs ∷ xss) (ys ∷ yss) long same =
    let both : xs ++ concat xss ≡ ys ++ concat yss = sym (concat-cons xs xss) ∙ (same ∙ concat-cons ys yss) in
    let size : length xs ≡ length ys = ap (λ ns. slice_index ns 0) long in
    let first : xs ≡ ys = sym (take_at xs (concat xss) (length ys) size) ∙ (ap (take (length ys)) both ∙ take_at ys (concat yss) (length ys) refl) in
    let rest : concat xss ≡ concat yss = sym (drop_at xs (concat xss) (length ys) size) ∙ (ap (drop (length ys)) both ∙ drop_at ys (concat yss) (length ys) refl) in
    let others = same_parts xss yss (ap (drop 1) long) rest in
    λ t. first t ∷ others t

-- all bytes of rows, as they are read
all_bytes : (offsets bytes : List ℕ) → IsOffsets offsets → sliced bytes (slice_index offsets 0) (last_of offsets - slice_index offsets 0) ≡ concat (pieces offsets bytes)
all_bytes [] bytes held = absurd (omega (arith, held.some))
all_bytes (start ∷ offsets) bytes held = sym (joined_pieces start offsets bytes held.rises.1)

row_lengths : (offsets bytes : List ℕ) → IsOffsets offsets → last_of offsets ≤ length bytes → map length (pieces offsets bytes) ≡ lengths offsets
row_lengths [] bytes held within = refl
row_lengths (start ∷ offsets) bytes held within = lengths_of_pieces start offsets bytes held.rises.1 within

-- ---- rows of two arrays, given where they lie, in which bytes, and as slots

module _ (slot : List ℕ → Slot) (one_to_one : (x y : List ℕ) → slot x ≡ slot y → x ≡ y) (p q : ByteParts) (held : IsOffsets p.offsets) (within : last_of p.offsets ≤ length p.bytes) (other_held : IsOffsets q.offsets) (other_within : last_of q.offsets ≤ length q.bytes) where
  same_rows : lengths p.offsets ≡ lengths q.offsets → concat (row_bytes p) ≡ concat (row_bytes q) → byte_slots slot p ≡ byte_slots slot q
  same_rows long same = ap (map slot) (same_parts (row_bytes p) (row_bytes q) (row_lengths p.offsets p.bytes held within ∙ (long ∙ sym (row_lengths q.offsets q.bytes other_held other_within))) same)

  rows_same : byte_slots slot p ≡ byte_slots slot q → row_bytes p ≡ row_bytes q
  rows_same same = same_mapped slot one_to_one (row_bytes p) (row_bytes q) same

  bytes_same : byte_slots slot p ≡ byte_slots slot q → concat (row_bytes p) ≡ concat (row_bytes q)
  bytes_same same = ap concat (rows_same same)

  lengths_same : byte_slots slot p ≡ byte_slots slot q → lengths p.offsets ≡ lengths q.offsets
  lengths_same same = sym (row_lengths p.offsets p.bytes held within) ∙ (ap (map length) (rows_same same) ∙ row_lengths q.offsets q.bytes other_held other_within)

-- ---- a part of the rows

module _ (p : ByteParts) (start len : ℕ) (held : IsOffsets p.offsets) (within : last_of p.offsets ≤ length p.bytes) (part : start + len < length p.offsets) where
  part_held : IsOffsets (sliced p.offsets start (len + 1))
  part_held = part_of_offsets p.offsets start (len + 1) held (omega (arith, part)) (omega arith)

  part_within : last_of (sliced p.offsets start (len + 1)) ≤ length p.bytes
  part_within = omega (arith, within, last_of_part p.offsets start len held (omega (arith, part)))

  part_lengths : lengths (sliced p.offsets start (len + 1)) ≡ sliced (lengths p.offsets) start len
  part_lengths =
      sym (row_lengths (sliced p.offsets start (len + 1)) p.bytes part_held part_within) ∙
      (ap (map length) (pieces-sliced p.offsets p.bytes start len) ∙ (map_sliced length (row_bytes p) start len ∙ ap (λ ns. sliced ns start len) (row_lengths p.offsets p.bytes held within)))

-- their bytes, as they are read
pub joined_part : (os bytes : List ℕ) (start len : ℕ) → IsOffsets os → start + len < length os → sliced bytes (slice_index os start) (slice_index os (start + len) - slice_index os start) ≡ concat (pieces (sliced os start (len + 1)) bytes)
joined_part os bytes start len held part =
    let cut = sliced os start (len + 1) in
    let long = length-sliced os start (len + 1) (omega (arith, part)) in
    let begins : start + 0 ≡ start = omega arith in
    let ends : length cut - 1 ≡ len = omega (arith, long) in
    let first : slice_index os start ≡ slice_index cut 0 = sym (member_of_part os start (len + 1) 0 (omega arith) ∙ ap (slice_index os) begins) in
    let last : slice_index os (start + len) ≡ last_of cut = sym (ap (slice_index cut) ends ∙ member_of_part os start (len + 1) len (omega arith)) in
    (λ t. sliced bytes (first t) (last t - first t)) ∙ all_bytes cut bytes (part_of_offsets os start (len + 1) held (omega (arith, part)) (omega arith))

-- parts of two arrays are the same where their rows are as long and all their bytes are the same
module _ (slot : List ℕ → Slot) (one_to_one : (x y : List ℕ) → slot x ≡ slot y → x ≡ y) (p q : ByteParts) (a b len : ℕ) (held : IsOffsets p.offsets) (within : last_of p.offsets ≤ length p.bytes) (other_held : IsOffsets q.offsets) (other_within : last_of q.offsets ≤ length q.bytes) (here : a + len < length p.offsets) (there : b + len < length q.offsets) where
  abbrev mine : ByteParts
  mine = byte_slice p a len

  abbrev theirs : ByteParts
  theirs = byte_slice q b len

  pub part_decides : (r : Bool) → sliced (lengths p.offsets) a len ≡ sliced (lengths q.offsets) b len → Decides r (concat (row_bytes mine) ≡ concat (row_bytes theirs)) → Decides r (sliced (byte_slots slot p) a len ≡ sliced (byte_slots slot q) b len)
  part_decides r long told =
      let left = slots_of_pieces slot p.offsets p.bytes a len in
      let right = slots_of_pieces slot q.offsets q.bytes b len in
      let as_long = part_lengths p a len held within here ∙ (long ∙ sym (part_lengths q b len other_held other_within there)) in
      let fits = part_held p a len held within here in
      let inside = part_within p a len held within here in
      let other_fits = part_held q b len other_held other_within there in
      let other_inside = part_within q b len other_held other_within there in (
        λ e. sym left ∙ (same_rows slot one_to_one mine theirs fits inside other_fits other_inside as_long (told.0 e) ∙ right),
        λ same. told.1 (bytes_same slot one_to_one mine theirs fits inside other_fits other_inside (left ∙ (same ∙ sym right))),
      )

  pub part_lengths_same : sliced (byte_slots slot p) a len ≡ sliced (byte_slots slot q) b len → sliced (lengths p.offsets) a len ≡ sliced (lengths q.offsets) b len
  part_lengths_same same =
      let left = slots_of_pieces slot p.offsets p.bytes a len in
      let right = slots_of_pieces slot q.offsets q.bytes b len in
      let fits = part_held p a len held within here in
      let inside = part_within p a len held within here in
      let other_fits = part_held q b len other_held other_within there in
      let other_inside = part_within q b len other_held other_within there in
      sym (part_lengths p a len held within here) ∙ (lengths_same slot one_to_one mine theirs fits inside other_fits other_inside (left ∙ (same ∙ sym right)) ∙ part_lengths q b len other_held other_within there)
