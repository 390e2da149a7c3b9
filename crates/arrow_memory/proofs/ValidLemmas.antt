-- Rows of others, of which those are empty whose bit is not set.
use Rattle.arrow_memory.proofs.Common.{◌≡◌, ℕ, suc, ◌+◌, ◌-◌, ◌<◌, ◌≤◌, ℤ, pos, Bool, true, false, Some, List, [], ◌∷◌, ◌++◌, length, map, take, slice_index, unsigned_abs, refl, ap, sym, ◌∙◌, arith, slice_get, slice_get_within, get_or_from_slice_get, ints, append_assoc, drop_more, map-append, RisesFrom, AreOffsets, IsOffsets, last_of, valid_length, valid_items, valid_ends, with_valid_rows, sliced, bits_in, word_of}
use Rattle.arrow_memory.proofs.BitLemmas.{bits_of_word}
use Rattle.arrow_memory.proofs.OffsetLemmas.{StoredAs, offsets_more, offsets_rise, stored_more}
use Rattle.arrow_memory.proofs.SlicedLemmas.{length-sliced, sliced-cut}
use Rattle.arrow_memory.proofs.WordLemmas.{low_bits_in}

-- ---- the rows of some bits, and those of others behind them

pub valid_items-append : (xs ys : List Bool) (os : List ℕ) (i : ℕ) → valid_items (xs ++ ys) os i ≡ valid_items xs os i + valid_items ys os (i + length xs)
valid_items-append [] ys os i =
    let at : i + 0 ≡ i = omega arith in
    rw at (omega arith)
valid_items-append (b ∷ xs) ys os i =
    let at : i + 1 + length xs ≡ i + suc (length xs) = omega arith in
    omega (arith, ap (λ k. valid_items ys os k) at, valid_items-append xs ys os (i + 1))

pub valid_ends-append : (place : ℕ) (xs ys : List Bool) (os : List ℕ) (i : ℕ) → valid_ends place (xs ++ ys) os i ≡ valid_ends place xs os i ++ valid_ends (place + valid_items xs os i) ys os (i + length xs)
valid_ends-append place [] ys os i =
    let at : i + 0 ≡ i = omega arith in
    let same : place + 0 ≡ place = omega arith in
    rw (at, same) refl
valid_ends-append place (b ∷ xs) ys os i =
    let n = valid_length b os i in
    let at : i + 1 + length xs ≡ i + suc (length xs) = omega arith in
    let counted : place + n + valid_items xs os (i + 1) ≡ place + (n + valid_items xs os (i + 1)) = omega arith in
    ap (λ es. (place + n) ∷ es) (valid_ends-append (place + n) xs ys os (i + 1) ∙ (λ t. valid_ends (place + n) xs os (i + 1) ++ valid_ends (counted t) ys os (at t)))

-- no more items than all these rows have
valid_length-within : (bit : Bool) (os : List ℕ) (i : ℕ) → valid_length bit os i ≤ slice_index os (i + 1) - slice_index os i
valid_length-within true os i = omega arith
valid_length-within false os i = omega arith

pub valid_items-within : (bits : List Bool) (os : List ℕ) (i : ℕ) → IsOffsets os → i + length bits < length os → valid_items bits os i ≤ slice_index os (i + length bits) - slice_index os i
valid_items-within [] os i held within = omega arith
valid_items-within (bit ∷ bits) os i held within =
    let at : i + 1 + length bits ≡ i + suc (length bits) = omega arith in
    let rest = valid_items-within bits os (i + 1) held (omega (arith, within)) in
    let first = offsets_rise os i (i + 1) held (omega arith) (omega (arith, within)) in
    let second = offsets_rise os (i + 1) (i + 1 + length bits) held (omega arith) (omega (arith, within)) in
    omega (arith, valid_length-within bit os i, ap (slice_index os) at, rest, first, second)

valid_rise : (place : ℕ) (bits : List Bool) (os : List ℕ) (i : ℕ) → RisesFrom (pos place) (map pos (valid_ends place bits os i))
valid_rise place [] os i = tt
valid_rise place (b ∷ bits) os i = (omega (arith, ints), valid_rise (place + valid_length b os i) bits os (i + 1))

-- offsets with those of these rows are offsets
pub valid_sound : (os : List ℕ) (bits : List Bool) (others : List ℕ) (start : ℕ) → IsOffsets os → IsOffsets (with_valid_rows os bits others start)
valid_sound os bits others start held =
    offsets_more os (valid_ends (last_of os) bits others start) held (valid_rise (last_of os) bits others start)

-- these rows behind one's own, where what was reserved before is `kept`
pub stored_valid_rows : {A : Type 0} (f : A → ℤ) (xs kept new : List A) (os : List ℕ) (bits : List Bool) (others : List ℕ) (place start : ℕ) → AreOffsets (map f xs) → map unsigned_abs (map f xs) ≡ os → kept ≡ xs → map f new ≡ map f kept ++ map pos (valid_ends place bits others start) → place ≡ last_of os → StoredAs f new (with_valid_rows os bits others start)
stored_valid_rows f xs kept new os bits others place start held seen same is at =
    stored_more f xs new os (valid_ends (last_of os) bits others start) held seen (is ∙ (λ t. map f (same t) ++ map pos (valid_ends (at t) bits others start))) (valid_rise (last_of os) bits others start)

-- ---- bits that are left, cut behind the first of them

cut_behind : (bits : List Bool) (place count end : ℕ) → place + count ≤ end → sliced bits place (end - place) ≡ sliced bits place count ++ sliced bits (place + count) (end - (place + count))
cut_behind bits place count end within =
    let all : end - place ≡ count + (end - (place + count)) = omega arith in
    ap (sliced bits place) all ∙ sliced-cut bits place count (end - (place + count))

pub sliced-next : (bits : List Bool) (place end : ℕ) (bit : Bool) → place < end → slice_get bits place ≡ Some bit → sliced bits place (end - place) ≡ bit ∷ sliced bits (place + 1) (end - (place + 1))
sliced-next bits place end bit below read =
    let count : end - place ≡ suc (end - (place + 1)) = omega arith in
    let rest = drop_more bits place bit (slice_get_within bits place bit read) in
    (λ t. take (count t) (rest t)) ∙ ap (λ b. b ∷ sliced bits (place + 1) (end - (place + 1))) (get_or_from_slice_get bits place bit bit read)

-- ---- a word more

-- a part of some bits that are left, and the word of its first ones
module _ (bits : List Bool) (place count end word : ℕ) (is : word ≡ word_of (sliced bits place count)) (within : place + count ≤ end) (inside : end ≤ length bits) (small : count ≤ 64) where
  word_is : bits_in (word ∷ []) 0 count ≡ sliced bits place count
  word_is = low_bits_in word count small ∙ bits_of_word (sliced bits place count) word count is (length-sliced bits place count (omega arith))

  cut : sliced bits place (end - place) ≡ bits_in (word ∷ []) 0 count ++ sliced bits (place + count) (end - (place + count))
  cut =
      cut_behind bits place count end within ∙ ap (λ first. first ++ sliced bits (place + count) (end - (place + count))) (sym word_is)

  long : length (bits_in (word ∷ []) 0 count) ≡ count
  long = ap length word_is ∙ length-sliced bits place count (omega arith)

  pub word_items : (os : List ℕ) → valid_items (sliced bits place (end - place)) os place ≡ valid_items (bits_in (word ∷ []) 0 count) os place + valid_items (sliced bits (place + count) (end - (place + count))) os (place + count)
  word_items os =
      ap (λ xs. valid_items xs os place) cut ∙ (valid_items-append (bits_in (word ∷ []) 0 count) (sliced bits (place + count) (end - (place + count))) os place ∙ ap (λ n. valid_items (bits_in (word ∷ []) 0 count) os place + valid_items (sliced bits (place + count) (end - (place + count))) os (place + n)) long)

  pub word_ends : (os : List ℕ) (xs new all : List ℤ) (first next : ℕ) → new ≡ xs ++ map pos (valid_ends first (bits_in (word ∷ []) 0 count) os place) → next ≡ first + valid_items (bits_in (word ∷ []) 0 count) os place → xs ++ map pos (valid_ends first (sliced bits place (end - place)) os place) ≡ all → new ++ map pos (valid_ends next (sliced bits (place + count) (end - (place + count))) os (place + count)) ≡ all
  word_ends os xs new all first next more counted same =
      let ys = bits_in (word ∷ []) 0 count in
      let rest = sliced bits (place + count) (end - (place + count)) in
      let behind = map pos (valid_ends next rest os (place + count)) in
      let joined : valid_ends first ys os place ++ valid_ends next rest os (place + count) ≡ valid_ends first (sliced bits place (end - place)) os place =
      (λ t. valid_ends first ys os place ++ valid_ends (counted t) rest os (place + sym long t)) ∙ (sym (valid_ends-append first ys rest os place) ∙ ap (λ bs. valid_ends first bs os place) (sym cut)) in
      ap (λ zs. zs ++ behind) more ∙ (append_assoc xs (map pos (valid_ends first ys os place)) behind ∙ (ap (λ zs. xs ++ zs) (sym (map-append pos (valid_ends first ys os place) (valid_ends next rest os (place + count))) ∙ ap (map pos) joined) ∙ same))

-- no more items than all rows from one up to another have
pub part_within : (bits : List Bool) (os : List ℕ) (start len : ℕ) → IsOffsets os → start + len < length os → start + len ≤ length bits → valid_items (sliced bits start len) os start ≤ slice_index os (start + len) - slice_index os start
part_within bits os start len held within covered =
    let long = length-sliced bits start len covered in
    let all = valid_items-within (sliced bits start len) os start held (omega arith) in
    omega (arith, all, ap (λ n. slice_index os (start + n)) long)
