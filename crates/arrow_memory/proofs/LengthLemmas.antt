-- How long rows are by the bits of a word, and where rows of such lengths end.
use Rattle.arrow_memory.proofs.Common.{◌≡◌, ℕ, zero, suc, ◌+◌, ◌-◌, ◌/◌, ◌%◌, ◌^◌, ◌<◌, ◌≤◌, ◌==◌, ℤ, pos, ◌-ℤ◌, ◌≤ℤ◌, Bool, true, false, List, [], ◌∷◌, ◌++◌, length, map, drop, get_or, slice_index, unsigned_abs, if◌then◌else◌, bit_and, nat_eq, refl, ap, sym, ◌∙◌, append_assoc, append-nil, arith, bit_at, range_with_len, sum, ints, drop_more, length-map, map-append, map-range_with_len_more, sum_by-cons, shr_and_one, shr-shr, ends_from, word_length, word_lengths, valid_items, valid_ends, bits_in}
use Rattle.arrow_memory.proofs.OffsetLemmas.{number_at, same_at}
use Rattle.arrow_memory.proofs.WordLemmas.{bit_at-low, low_bits_in}

-- ---- rows by the bits of a word

-- a bit of 32 bits of a word
pub part_bit : (word first k : ℕ) → k < 32 → (bit_at (word / 2 ^ first % 4294967296) k == 1) ≡ (bit_at word (first + k) == 1)
part_bit word first k below = ap (λ b. b == 1) (bit_at-low (word / 2 ^ first) 32 k below ∙ ap (λ n. n % 2) (shr-shr word first k))

-- one row more, by a bit of a part of the word and the offsets on both sides of it
pub length_next : {A : Type 0} (f : A → ℤ) (old new : List A) (x : A) (word part : ℕ) (os : List ℕ) (start done k : ℕ) (begin end : ℤ) → (bit_at part k == 1) ≡ (bit_at word (done + k) == 1) → new ≡ old ++ x ∷ [] → f x ≡ (if nat_eq (bit_and (part / 2 ^ k) 1) 1 then end -ℤ begin else pos 0) → begin ≡ pos (slice_index os (start + done + k)) → end ≡ pos (slice_index os (start + done + k + 1)) → begin ≤ℤ end → map f old ≡ map pos (word_lengths word os start (done + k)) → map f new ≡ map pos (word_lengths word os start (done + k + 1))
length_next f old new x word part os start done k begin end same is value here there order so_far =
    let lengths = word_length word os start in
    let bit : nat_eq (bit_and (part / 2 ^ k) 1) 1 ≡ (bit_at word (done + k) == 1) = ap (λ b. nat_eq b 1) (shr_and_one part k) ∙ same in
    let at : start + done + k ≡ start + (done + k) = omega arith in
    let long : end -ℤ begin ≡ pos (slice_index os (start + (done + k) + 1) - slice_index os (start + (done + k))) = omega (arith, ints, here, there, order, ap (slice_index os) at, ap (λ i. slice_index os (i + 1)) at) in
    let one : f x ≡ pos (lengths (done + k)) = value ∙ ((λ t. if bit t then long t else pos 0) ∙ choice (bit_at word (done + k) == 1) _) in
    ap (map f) is ∙ (map-append f old (x ∷ []) ∙ ((λ t. so_far t ++ one t ∷ []) ∙ (sym (map-append pos (word_lengths word os start (done + k)) (lengths (done + k) ∷ [])) ∙ ap (map pos) (sym (map-range_with_len_more lengths 0 (done + k) (done + k) (omega arith))))))
  where
    choice : (t : Bool) (n : ℕ) → (if t then pos n else pos 0) ≡ pos (if t then n else 0)
    choice true n = refl
    choice false n = refl

-- ---- where they end

-- rows under some bits of a word end where rows of their lengths do
module _ (word : ℕ) (os : List ℕ) (start : ℕ) where
  ends_by_lengths : (place a n : ℕ) → valid_ends place (map (λ k. bit_at word k == 1) (range_with_len a n)) os (start + a) ≡ ends_from place (map (word_length word os start) (range_with_len a n))
  ends_by_lengths place a zero = refl
  ends_by_lengths place a (suc n) =
      let at : start + a + 1 ≡ start + (a + 1) = omega arith in
      let next = place + word_length word os start a in
      ap (λ ends. next ∷ ends) (ap (valid_ends next (map (λ k. bit_at word k == 1) (range_with_len (a + 1) n)) os) at ∙ ends_by_lengths next (a + 1) n)

  items_by_lengths : (a n : ℕ) → valid_items (map (λ k. bit_at word k == 1) (range_with_len a n)) os (start + a) ≡ sum (map (word_length word os start) (range_with_len a n))
  items_by_lengths a zero = refl
  items_by_lengths a (suc n) =
      let at : start + a + 1 ≡ start + (a + 1) = omega arith in
      let rest = ap (valid_items (map (λ k. bit_at word k == 1) (range_with_len (a + 1) n)) os) at ∙ items_by_lengths (a + 1) n in
      ap (λ m. word_length word os start a + m) rest ∙ sym (sum_by-cons (λ m. m) (word_length word os start a) (map (word_length word os start) (range_with_len (a + 1) n)))

  pub word_ends_by_lengths : (place count : ℕ) → count ≤ 64 → valid_ends place (bits_in (word ∷ []) 0 count) os start ≡ ends_from place (word_lengths word os start count)
  word_ends_by_lengths place count small =
      let at : start ≡ start + 0 = omega arith in
      (λ t. valid_ends place (low_bits_in word count small t) os (at t)) ∙ ends_by_lengths place 0 count

  pub word_items_by_lengths : (count : ℕ) → count ≤ 64 → valid_items (bits_in (word ∷ []) 0 count) os start ≡ sum (word_lengths word os start count)
  word_items_by_lengths count small =
      let at : start ≡ start + 0 = omega arith in
      (λ t. valid_items (low_bits_in word count small t) os (at t)) ∙ items_by_lengths 0 count

-- ---- ends counted on, one row at a time

-- the length that is stored at a place, and those from there on
pub length_at : {A : Type 0} (f : A → ℤ) (ends old : List A) (k : ℕ) (x : A) → map pos (map unsigned_abs (map f old)) ≡ map f old → drop k ends ≡ drop k old → x ≡ get_or ends k x → k < length old → f x ≡ pos (slice_index (map unsigned_abs (map f old)) k)
length_at f ends old k x natural left read below =
    number_at f old (map unsigned_abs (map f old)) k x (sym natural) (omega (arith, below, length-map (map f old) unsigned_abs, length-map old f)) (read ∙ same_at ends old k x left)

pub lengths_from : {A : Type 0} (f : A → ℤ) (old : List A) (k : ℕ) → k < length old → drop k (map unsigned_abs (map f old)) ≡ slice_index (map unsigned_abs (map f old)) k ∷ drop (k + 1) (map unsigned_abs (map f old))
lengths_from f old k below =
    drop_more (map unsigned_abs (map f old)) k 0 (omega (arith, below, length-map (map f old) unsigned_abs, length-map old f))

pub sum_from : {A : Type 0} (f : A → ℤ) (old : List A) (k : ℕ) → k < length old → sum (drop k (map unsigned_abs (map f old))) ≡ slice_index (map unsigned_abs (map f old)) k + sum (drop (k + 1) (map unsigned_abs (map f old)))
sum_from f old k below =
    ap sum (lengths_from f old k below) ∙ sum_by-cons (λ m. m) (slice_index (map unsigned_abs (map f old)) k) (drop (k + 1) (map unsigned_abs (map f old)))

-- with the rows that are left, those so far are all
pub total_next : (place next n all : ℕ) (lengths rest : List ℕ) → lengths ≡ n ∷ rest → next ≡ place + n → place + sum lengths ≡ all → next + sum rest ≡ all
total_next place next n all lengths rest first counted total = omega (arith, counted, total, ap sum first, sum_by-cons (λ m. m) n rest)

pub ends_next : {A : Type 0} (f : A → ℤ) (xs new : List A) (x : A) (place next n : ℕ) (lengths rest : List ℕ) (all : List ℤ) → new ≡ xs ++ x ∷ [] → f x ≡ pos next → lengths ≡ n ∷ rest → next ≡ place + n → map f xs ++ map pos (ends_from place lengths) ≡ all → map f new ++ map pos (ends_from next rest) ≡ all
ends_next f xs new x place next n lengths rest all is value first counted same =
    let behind = map pos (ends_from next rest) in
    let here : f x ≡ pos (place + n) = value ∙ ap pos counted in
    ap (λ zs. zs ++ behind) (ap (map f) is ∙ map-append f xs (x ∷ [])) ∙ (append_assoc (map f xs) (f x ∷ []) behind ∙ ((λ t. map f xs ++ (here t ∷ map pos (ends_from (counted t) rest))) ∙ (ap (λ ns. map f xs ++ map pos (ends_from place ns)) (sym first) ∙ same)))

pub ends_done : (xs all : List ℤ) (place : ℕ) (lengths : List ℕ) → lengths ≡ [] → xs ++ map pos (ends_from place lengths) ≡ all → xs ≡ all
ends_done xs all place lengths none same =
    sym (append-nil xs) ∙ (ap (λ ns. xs ++ map pos (ends_from place ns)) (sym none) ∙ same)
