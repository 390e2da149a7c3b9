-- Rows of bytes under construction: a row is written behind those so far.
use Rattle.arrow_logic.proofs.Common.{◌≡◌, ℕ, ◌+◌, ◌-◌, ◌<◌, ◌≤◌, Bool, true, false, Option, Result, Ok, Err, IsOkUnless, if◌then◌else◌, List, [], ◌∷◌, ◌++◌, length, get_or, take, drop, slice_index, refl, ap, sym, subst, ◌∙◌, arith, All, IsErrAnd, ints, get_or_from_slice_get, take-append-le, drop-append-le, take_all, length-drop, take_more, drop-append_seam, sliced-sliced, Error, Overflow, OutOfMemory, IsGrowthError, IsOffsets, last_of, with_row, sliced, at_most_last, last_behind, offsets_more, offsets_rise, FitsRows, pieces, pieces_from, length-pieces, piece_at, valid_at, kept, length-append}
use Rattle.arrow_logic.proofs.KeptLemmas.{at-kept}

-- rows that lie so: the bytes end with the last row
pub record Holds (os bytes : List ℕ) (rows : List (List ℕ)) : Type 0 where
  pub sound : IsOffsets os
  pub last : last_of os ≡ length bytes
  pub are : pieces os bytes ≡ rows

-- a part that lies within the bytes so far
sliced-within : (xs ys : List ℕ) (a k : ℕ) → a + k ≤ length xs → sliced (xs ++ ys) a k ≡ sliced xs a k
sliced-within xs ys a k within =
    ap (take k) (drop-append-le a xs ys (omega (arith, within))) ∙ take-append-le k (drop a xs) ys (omega (arith, within, length-drop a xs))

sliced-behind : (xs new : List ℕ) (a k : ℕ) → a ≡ length xs → k ≡ length new → sliced (xs ++ new) a k ≡ new
sliced-behind xs new a k here long =
    ap (λ n. take k (drop n (xs ++ new))) here ∙ (ap (take k) (drop-append_seam xs new) ∙ take_all k new (omega (arith, long)))

rest_sound : (n m : ℕ) (os : List ℕ) → IsOffsets (n ∷ m ∷ os) → IsOffsets (m ∷ os)
rest_sound n m os sound = record { some = omega arith; rises = (omega (arith, ints), sound.rises.1.1) }

row_behind : (n : ℕ) (os xs new : List ℕ) (end : ℕ) → IsOffsets (n ∷ os) → last_of (n ∷ os) ≡ length xs → end ≡ length xs + length new → pieces_from n (os ++ end ∷ []) (xs ++ new) ≡ pieces_from n os xs ++ new ∷ []
row_behind n [] xs new end sound last is =
    let here : n ≡ length xs = last in
    ap (λ row. row ∷ []) (sliced-behind xs new n (end - n) here (omega (arith, here, is)))
row_behind n (m ∷ os) xs new end sound last is =
    let rises : n ≤ m = omega (arith, ints, sound.rises.1.0) in
    let rest = rest_sound n m os sound in
    let behind = sym (last_behind n m os) ∙ last in
    let within : m ≤ length xs = omega (arith, at_most_last (m ∷ os) 0 rest (omega arith), behind) in
    let first = sliced-within xs new n (m - n) (omega arith) in
    let others = row_behind m os xs new end rest behind is in
    λ i. first i ∷ others i

last_more : (n : ℕ) (os : List ℕ) (end : ℕ) → last_of (n ∷ os ++ end ∷ []) ≡ end
last_more n [] end = refl
last_more n (m ∷ os) end = last_behind n m (os ++ end ∷ []) ∙ last_more m os end

rows_behind : (os xs new : List ℕ) (rows : List (List ℕ)) (n : ℕ) → n ≡ length new → Holds os xs rows → Holds (with_row os n) (xs ++ new) (rows ++ new ∷ [])
rows_behind [] xs new rows n long held = absurd (omega (arith, held.sound.some))
rows_behind (o ∷ os) xs new rows n long held =
    let end = last_of (o ∷ os) + n in
    record {
      sound = offsets_more (o ∷ os) (end ∷ []) held.sound ((omega (arith, ints)), tt);
      last = last_more o os end ∙ omega (arith, held.last, long, length-append xs new);
      are = row_behind o os xs new end held.sound held.last (omega (arith, held.last, long)) ∙ ap (λ rs. rs ++ new ∷ []) held.are;
    }

-- a row more, where it is the next of all rows
pub holds_more : (os xs new : List ℕ) (rows : List (List ℕ)) (i n : ℕ) (next_os next : List ℕ) → i < length rows → new ≡ get_or rows i [] → n ≡ length new → next_os ≡ with_row os n → next ≡ xs ++ new → Holds os xs (take i rows) → Holds next_os next (take (i + 1) rows)
holds_more os xs new rows i n next_os next within is long offsets bytes held =
    let more = take_more rows i [] within ∙ ap (λ row. take i rows ++ row ∷ []) (sym is) in
    subst (λ os. Holds os next (take (i + 1) rows)) (sym offsets) (subst (λ bs. Holds (with_row os n) bs (take (i + 1) rows)) (sym bytes) (subst (Holds (with_row os n) (xs ++ new)) (sym more) (rows_behind os xs new (take i rows) n long held)))

-- no row yet
pub holds_none : (os xs : List ℕ) (rows : List (List ℕ)) → os ≡ 0 ∷ [] → xs ≡ [] → Holds os xs (take 0 rows)
holds_none os xs rows offsets bytes =
    subst (λ os. Holds os xs []) (sym offsets) (subst (λ bs. Holds (0 ∷ []) bs []) (sym bytes) (record { sound = record { some = omega arith; rises = (omega (arith, ints), tt) }; last = refl; are = refl }))

-- ---- one row that is read

-- the bytes between two offsets are those of the row
pub row_read : (os read_os bytes from : List ℕ) (i begin end : ℕ) → read_os ≡ os → from ≡ bytes → begin ≡ slice_index read_os i → end ≡ slice_index read_os (i + 1) → i + 1 < length os → sliced from begin (end - begin) ≡ get_or (pieces os bytes) i []
row_read os read_os bytes from i begin end same lent here there within =
    let first = here ∙ ap (λ xs. slice_index xs i) same in
    let last = there ∙ ap (λ xs. slice_index xs (i + 1)) same in
    (λ t. sliced (lent t) (first t) (last t - first t)) ∙ sym (get_or_from_slice_get (pieces os bytes) i _ [] (piece_at os bytes i within))

-- what holds of each part of the bytes from the first row to the last holds of each row
pub of_each_row : (P : List ℕ → Type 0) (os bytes : List ℕ) (first end : ℕ) → IsOffsets os → first ≡ slice_index os 0 → end ≡ slice_index os (length os - 1) → ((place n : ℕ) → P (sliced (sliced bytes first (end - first)) place n)) → All P (pieces os bytes)
of_each_row P os bytes first end sound here there holds k d within =
    let count = length-pieces os bytes in
    let begin = slice_index os k in
    let n = slice_index os (k + 1) - begin in
    let low : slice_index os 0 ≤ begin = offsets_rise os 0 k sound (omega arith) (omega (arith, count, within)) in
    let rises : begin ≤ slice_index os (k + 1) = offsets_rise os k (k + 1) sound (omega arith) (omega (arith, count, within)) in
    let high : slice_index os (k + 1) ≤ slice_index os (length os - 1) = offsets_rise os (k + 1) (length os - 1) sound (omega (arith, count, within)) (omega (arith, count, within)) in
    let place : first + (begin - first) ≡ begin = omega (arith, here, low) in
    let part = sliced-sliced bytes first (end - first) (begin - first) n (omega (arith, here, there, low, rises, high)) ∙ ap (λ p. sliced bytes p n) place in
    let row = get_or_from_slice_get (pieces os bytes) k _ d (piece_at os bytes k (omega (arith, count, within))) in
    subst P (part ∙ sym row) (holds (begin - first) n)

module _ (f : List ℕ → List ℕ) (v : Option (List Bool)) (os bytes : List ℕ) (i : ℕ) (within : i + 1 < length os) (fits : FitsRows v (length os - 1)) where
  counted : length (pieces os bytes) ≡ length os - 1
  counted = length-pieces os bytes

  read : get_or (kept [] f v (pieces os bytes)) i [] ≡ (if valid_at v i then f (get_or (pieces os bytes) i []) else [])
  read = at-kept [] f v (pieces os bytes) i [] (subst (FitsRows v) (sym counted) fits) (omega (arith, counted))

  -- of a null nothing is kept
  pub part_of_null : (valid : Bool) → valid ≡ valid_at v i → valid ≡ false → [] ≡ get_or (kept [] f v (pieces os bytes)) i []
  part_of_null valid told is =
      sym (read ∙ ap (λ t. if t then f (get_or (pieces os bytes) i []) else []) (sym told ∙ is))

  -- and of another row its part
  pub part_of_row : (valid : Bool) (row new : List ℕ) → valid ≡ valid_at v i → valid ≡ true → row ≡ get_or (pieces os bytes) i [] → new ≡ f row → new ≡ get_or (kept [] f v (pieces os bytes)) i []
  part_of_row valid row new told is row_is part =
      part ∙ (ap f row_is ∙ sym (read ∙ ap (λ t. if t then f (get_or (pieces os bytes) i []) else []) (sym told ∙ is)))

-- a part of what lies between two places, as it lies among all bytes
pub part_moved : (from bytes : List ℕ) (begin end first last : ℕ) → from ≡ bytes → first ≤ last → last ≤ end - begin → sliced bytes (begin + first) (begin + last - (begin + first)) ≡ sliced (sliced from begin (end - begin)) first (last - first)
part_moved from bytes begin end first last lent rises within =
    let count : begin + last - (begin + first) ≡ last - first = omega arith in
    ap (sliced bytes (begin + first)) count ∙ sym (ap (λ xs. sliced (sliced xs begin (end - begin)) first (last - first)) lent ∙ sliced-sliced bytes begin (end - begin) first (last - first) (omega (arith, rises, within)))

-- ---- errors

-- an error of a growth that does not pass a bound is want of memory
pub grown_memory : (e : Error) → IsGrowthError e → (e ≡ Overflow → ⊥) → e ≡ OutOfMemory
grown_memory Overflow growth fits = absurd (fits refl)
grown_memory OutOfMemory growth fits = refl
grown_memory _ growth fits = absurd growth

-- and so is the error that is passed on
pub memory_alone : {A : Type 0} (r : Result A Error) (e : Error) → IsErrAnd r (λ x. x ≡ e) → e ≡ OutOfMemory → IsOkUnless r OutOfMemory
memory_alone (Ok x) e is memory = absurd is
memory_alone (Err x) e is memory = is ∙ memory
