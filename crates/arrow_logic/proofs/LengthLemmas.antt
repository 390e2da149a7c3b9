-- How long rows are, a word of rows at a time.
use Rattle.arrow_logic.proofs.Common.{number_at, ◌≡◌, ℕ, suc, ◌+◌, ◌-◌, ◌/◌, ◌^◌, ◌<◌, ◌≤◌, ◌==◌, ℤ, pos, ◌-ℤ◌, ◌≤ℤ◌, Bool, true, false, Option, List, [], ◌∷◌, ◌++◌, length, map, take, get_or, slice_index, if◌then◌else◌, bit_and, nat_eq, refl, ap, subst, subst₂, sym, ◌∙◌, append_assoc, arith, bit_at, range_with_len, take-add, ints, ext_get_or, map-append, get_or-map-range_with_len, length-map-range_with_len, map-range_with_len_more, shr_and_one, get_or_from_slice_get, map-map, Slot, Number, IsOffsets, last_of, sliced, at_most_last, offsets_rise, length-sliced, FitsRows, pieces, fits_within, length-pieces, member_of_part, piece_at, kept, word_length, HasBitsFrom}
use Rattle.arrow_memory.proofs.WordLemmas.{range-add}
use Rattle.arrow_logic.proofs.KeptLemmas.{at-kept, length-kept}

-- rows that lie so in bytes, under a validity
module _ (v : Option (List Bool)) (os bytes : List ℕ) (sound : IsOffsets os) (within : last_of os ≤ length bytes) (fits : FitsRows v (length os - 1)) where
  -- the bytes of row i, and how many there are
  pub row_is : (i : ℕ) → i + 1 < length os → get_or (pieces os bytes) i [] ≡ sliced bytes (slice_index os i) (slice_index os (i + 1) - slice_index os i)
  row_is i here = get_or_from_slice_get (pieces os bytes) i _ [] (piece_at os bytes i here)

  row_long : (i : ℕ) → i + 1 < length os → length (get_or (pieces os bytes) i []) ≡ slice_index os (i + 1) - slice_index os i
  row_long i here =
      let order = offsets_rise os i (i + 1) sound (omega arith) here in
      let end = at_most_last os (i + 1) sound here in
      ap length (row_is i here) ∙ length-sliced bytes (slice_index os i) (slice_index os (i + 1) - slice_index os i) (omega (arith, order, end, within))

  counted : length (pieces os bytes) ≡ length os - 1
  counted = length-pieces os bytes

  -- as many as there are rows
  pub length-lengths : length (kept 0 length v (pieces os bytes)) ≡ length os - 1
  length-lengths = length-kept 0 length v (pieces os bytes) (subst (FitsRows v) (sym counted) fits) ∙ counted

  -- so many rows by the bits of a word
  pub word_of_lengths : (word row count : ℕ) → count ≤ 64 → row + count < length os → HasBitsFrom row v word → map (word_length word os row) (range_with_len 0 count) ≡ sliced (kept 0 length v (pieces os bytes)) row count
  word_of_lengths word row count small here marks =
      let long = length-sliced (kept 0 length v (pieces os bytes)) row count (omega (arith, length-lengths, here)) in
      ext_get_or 0 _ _ (length-map-range_with_len (word_length word os row) 0 count ∙ sym long) (λ i at. each i (omega (arith, at, length-map-range_with_len (word_length word os row) 0 count)))
    where
      each : (i : ℕ) → i < count → get_or (map (word_length word os row) (range_with_len 0 count)) i 0 ≡ get_or (sliced (kept 0 length v (pieces os bytes)) row count) i 0
      each i at =
          let inside : row + i + 1 < length os = omega arith in
          let bit = marks i (omega arith) (fits_within v (length os - 1) (suc (row + i)) fits (omega arith)) in
          let read = at-kept 0 length v (pieces os bytes) (row + i) [] (subst (FitsRows v) (sym counted) fits) (omega (arith, counted)) in
          get_or-map-range_with_len (word_length word os row) 0 count i i 0 at (omega arith) ∙ ((λ t. if bit t then sym (row_long (row + i) inside) t else 0) ∙ sym (member_of_part _ row count i at ∙ read))

  -- a word of rows more
  pub lengths_next : {A : Type 0} (f : A → ℤ) (old new : List A) (word row count place : ℕ) (w : Option (List Bool)) → w ≡ v → place ≡ row → count ≤ 64 → row + count < length os → HasBitsFrom place w word → map f new ≡ map f old ++ map (λ k. pos (word_length word os row k)) (range_with_len 0 count) → map f old ≡ map pos (take row (kept 0 length v (pieces os bytes))) → map f new ≡ map pos (take (row + count) (kept 0 length v (pieces os bytes)))
  lengths_next f old new word row count place w same here small inside marks more before =
      let all = kept 0 length v (pieces os bytes) in
      let by_bits = word_of_lengths word row count small inside (subst₂ (λ n w. HasBitsFrom n w word) here same marks) in
      let behind = sym (map-map pos (word_length word os row) (range_with_len 0 count)) ∙ ap (map pos) by_bits in
      more ∙ ((λ t. before t ++ behind t) ∙ (sym (map-append pos (take row all) (sliced all row count)) ∙ ap (map pos) (sym (take-add row count all))))

-- where a row begins and ends that is read, and in this order
pub row_bounds : {A : Type 0} (f : A → ℤ) (xs : List A) (os : List ℕ) (row : ℕ) (begin end : A) → map f xs ≡ map pos os → IsOffsets os → row + 1 < length os → begin ≡ get_or xs row begin → end ≡ get_or xs (row + 1) end → (f begin ≡ pos (slice_index os row)) × (f end ≡ pos (slice_index os (row + 1))) × (slice_index os row ≤ slice_index os (row + 1))
row_bounds f xs os row begin end values sound within here there =
    (number_at f xs os row begin values (omega (arith, within)) here, number_at f xs os (row + 1) end values within there, offsets_rise os row (row + 1) sound (omega arith) within)

-- one row more, by a bit of a part of the word and the offsets on both sides of it
pub length_next : {A : Type 0} (f : A → ℤ) (old new : List A) (x : A) (before : List ℤ) (word part : ℕ) (os : List ℕ) (start first k : ℕ) (begin end : ℤ) → (bit_at part k == 1) ≡ (bit_at word (first + k) == 1) → new ≡ old ++ x ∷ [] → f x ≡ (if nat_eq (bit_and (part / 2 ^ k) 1) 1 then end -ℤ begin else pos 0) → begin ≡ pos (slice_index os (start + first + k)) → end ≡ pos (slice_index os (start + first + k + 1)) → begin ≤ℤ end → map f old ≡ before ++ map (λ k. pos (word_length word os start k)) (range_with_len first k) → map f new ≡ before ++ map (λ k. pos (word_length word os start k)) (range_with_len first (k + 1))
length_next f old new x before word part os start first k begin end same is value here there order so_far =
    let lengths = λ (n : ℕ). pos (word_length word os start n) in
    let bit : nat_eq (bit_and (part / 2 ^ k) 1) 1 ≡ (bit_at word (first + k) == 1) = ap (λ b. nat_eq b 1) (shr_and_one part k) ∙ same in
    let at : start + first + k ≡ start + (first + k) = omega arith in
    let long : end -ℤ begin ≡ pos (slice_index os (start + (first + k) + 1) - slice_index os (start + (first + k))) = omega (arith, ints, here, there, order, ap (slice_index os) at, ap (λ i. slice_index os (i + 1)) at) in
    let one : f x ≡ lengths (first + k) = value ∙ ((λ t. if bit t then long t else pos 0) ∙ choice (bit_at word (first + k) == 1) _) in
    ap (map f) is ∙ (map-append f old (x ∷ []) ∙ ((λ t. so_far t ++ one t ∷ []) ∙ (append_assoc before (map lengths (range_with_len first k)) (lengths (first + k) ∷ []) ∙ ap (λ zs. before ++ zs) (sym (map-range_with_len_more lengths first k (first + k) refl)))))
  where
    choice : (t : Bool) (n : ℕ) → (if t then pos n else pos 0) ≡ pos (if t then n else 0)
    choice true n = refl
    choice false n = refl

-- those of two parts, one behind the other
pub appended_twice : (lengths : ℕ → ℤ) (old mid new : List ℤ) (m n count : ℕ) → mid ≡ old ++ map lengths (range_with_len 0 m) → new ≡ mid ++ map lengths (range_with_len m n) → m + n ≡ count → new ≡ old ++ map lengths (range_with_len 0 count)
appended_twice lengths old mid new m n count first second all =
    let low = range_with_len 0 m in
    let high = range_with_len m n in
    let zero : 0 + m ≡ m = omega arith in
    let both : range_with_len 0 count ≡ low ++ high = ap (range_with_len 0) (sym all) ∙ (range-add 0 m n ∙ ap (λ a. low ++ range_with_len a n) zero) in
    second ∙ (ap (λ xs. xs ++ map lengths high) first ∙ (append_assoc old (map lengths low) (map lengths high) ∙ ap (λ xs. old ++ xs) (sym (ap (map lengths) both ∙ map-append lengths low high))))

-- values whose numbers are these, as slots
pub slots_of_numbers : {A : Type 0} (slot : A → Slot) (number : A → ℤ) → ((x : A) → slot x ≡ Number (number x)) → (xs : List A) (ns : List ℕ) → map number xs ≡ map pos ns → map slot xs ≡ map (λ n. Number (pos n)) ns
slots_of_numbers slot number numbered xs ns same =
    every xs ∙ (sym (map-map Number number xs) ∙ (ap (map Number) same ∙ map-map Number pos ns))
  where
    every : (ys : _) → map slot ys ≡ map (λ x. Number (number x)) ys
    every [] = refl
    every (y ∷ ys) = λ i. numbered y i ∷ every ys i
