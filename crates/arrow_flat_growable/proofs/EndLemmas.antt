-- Rows of bytes or items that lie one behind the other: where they end.
use Rattle.arrow_flat_growable.proofs.Common.{arith, ◌≡◌, ◌+◌, ◌-◌, ℕ, zero, suc, ◌<◌, ◌≤◌, List, [], ◌∷◌, ◌++◌, length, map, take, drop, slice_index, refl, ap, sym, subst, ◌∙◌, append_assoc, sum, All, concat, range_with_len, get_or-drop, get_or-take, get_or_default, drop-append_seam, take-append_seam, sum_by-cons, IsOffsets, counted_on, last_of, with_row, sliced, offsets_rise, length-sliced, pieces, pieces_from, ends_from, concatenated, row_length}
use Rattle.std.proofs.lemmas.List.{length-append}
use Rattle.arrow_flat_growable.proofs.GrownRowLemmas.{last_behind, last_more, part_cut}

pub ends_next : (place : ℕ) (lengths : List ℕ) (n : ℕ) → place ∷ ends_from place (lengths ++ n ∷ []) ≡ with_row (place ∷ ends_from place lengths) n
ends_next place [] n = refl
ends_next place (m ∷ lengths) n =
    ap (λ os. place ∷ os) (ends_next (place + m) lengths n) ∙ ap (λ last. place ∷ (place + m) ∷ (ends_from (place + m) lengths ++ (last + n) ∷ [])) (sym (last_behind place (place + m) (ends_from (place + m) lengths)))

pub ends_last : (place : ℕ) (lengths : List ℕ) → last_of (place ∷ ends_from place lengths) ≡ place + sum lengths
ends_last place [] = omega arith
ends_last place (m ∷ lengths) =
    last_behind place (place + m) (ends_from (place + m) lengths) ∙ (ends_last (place + m) lengths ∙ omega (arith, sum_by-cons (λ x. x) m lengths))

pub ends_append : (place : ℕ) (xs ys : List ℕ) → ends_from place (xs ++ ys) ≡ ends_from place xs ++ ends_from (place + sum xs) ys
ends_append place [] ys =
    let at : place ≡ place + sum [] = omega arith in
    ap (λ p. ends_from p ys) at
ends_append place (n ∷ xs) ys =
    let at : place + n + sum xs ≡ place + sum (n ∷ xs) = omega (arith, sum_by-cons (λ x. x) n xs) in
    ap (λ es. (place + n) ∷ es) (ends_append (place + n) xs ys ∙ ap (λ p. ends_from (place + n) xs ++ ends_from p ys) at)

pub last_ends : (os lengths : List ℕ) → 0 < length os → last_of (os ++ ends_from (last_of os) lengths) ≡ last_of os + sum lengths
last_ends [] lengths some = absurd (omega (arith, some))
last_ends (n ∷ os) lengths some =
    last_more n os (ends_from (last_of (n ∷ os)) lengths) ∙ ends_last (last_of (n ∷ os)) lengths

-- as many ends as rows
pub length-ends : (place : ℕ) (lengths : List ℕ) → length (ends_from place lengths) ≡ length lengths
length-ends place [] = refl
length-ends place (n ∷ lengths) = ap suc (length-ends (place + n) lengths)

-- the rows that end there
between : {A : Type 0} (place : ℕ) (rows : List (List A)) (before : List A) → length before ≡ place → pieces_from place (ends_from place (map length rows)) (before ++ concatenated rows) ≡ rows
between place [] before at = refl
between place (row ∷ rows) before at =
    let len : place + length row - place ≡ length row = omega arith in
    let first : sliced (before ++ (row ++ concatenated rows)) place (place + length row - place) ≡ row = (λ i. take (len i) (drop (sym at i) (before ++ (row ++ concatenated rows)))) ∙ (ap (take (length row)) (drop-append_seam before (row ++ concatenated rows)) ∙ take-append_seam row (concatenated rows)) in
    let rest = between (place + length row) rows (before ++ row) (length-append before row ∙ ap (λ n. n + length row) at) in
    let moved = ap (pieces_from (place + length row) (ends_from (place + length row) (map length rows))) (sym (append_assoc before row (concatenated rows))) in
    λ i. first i ∷ (moved ∙ rest) i

pub rows_between : {A : Type 0} (rows : List (List A)) → pieces (0 ∷ ends_from 0 (map length rows)) (concatenated rows) ≡ rows
rows_between rows = between 0 rows [] refl

pub concatenated_length : {A : Type 0} (rows : List (List A)) → sum (map length rows) ≡ length (concatenated rows)
concatenated_length [] = refl
concatenated_length (row ∷ rows) =
    sum_by-cons (λ x. x) (length row) (map length rows) ∙ (ap (λ n. length row + n) (concatenated_length rows) ∙ sym (length-append row (concatenated rows)))

pub concatenated-append : {A : Type 0} (rows more : List (List A)) → concatenated (rows ++ more) ≡ concatenated rows ++ concatenated more
concatenated-append [] more = refl
concatenated-append (row ∷ rows) more =
    ap (λ xs. row ++ xs) (concatenated-append rows more) ∙ sym (append_assoc row (concatenated rows) (concatenated more))

-- of bytes
pub as_concatenated : (rows : List (List ℕ)) → concat rows ≡ concatenated rows
as_concatenated [] = refl
as_concatenated (row ∷ rows) = ap (λ xs. row ++ xs) (as_concatenated rows)

-- ---- the ends of a run

moved_on : (place begin next : ℕ) (ns : List ℕ) → begin ≤ next → All (λ n. next ≤ n) ns → map (λ n. place + (n - begin)) ns ≡ map (λ n. place + (next - begin) + (n - next)) ns
moved_on place begin next [] rise above = refl
moved_on place begin next (n ∷ ns) rise above =
    let first : place + (n - begin) ≡ place + (next - begin) + (n - next) = omega (arith, rise, above 0 n (omega arith)) in
    let rest = moved_on place begin next ns rise (λ k d within. above (suc k) d (omega (arith, within))) in
    λ i. first i ∷ rest i

above_next : (os : List ℕ) (start len : ℕ) → IsOffsets os → start + 1 + len ≤ length os → All (λ n. slice_index os start ≤ n) (sliced os (start + 1) len)
above_next os start len held part = λ k d within.
    let long = length-sliced os (start + 1) len (omega (arith, part)) in
    let inside : k < len = omega (arith, within, long) in
    let read = get_or-take len (drop (start + 1) os) k d inside ∙ (get_or-drop (start + 1) os k d ∙ get_or_default os (start + 1 + k) d 0 (omega (arith, inside, part))) in
    subst (λ n. slice_index os start ≤ n) (sym read) (offsets_rise os start (start + 1 + k) held (omega arith) (omega (arith, inside, part)))

pub counted_ends : (os : List ℕ) (start len place : ℕ) → IsOffsets os → start + len < length os → counted_on place os start len ≡ ends_from place (map (row_length os) (range_with_len start len))
counted_ends os start zero place held part = refl
counted_ends os start (suc len) place held part =
    let begin = slice_index os start in
    let next = slice_index os (start + 1) in
    let count : suc len ≡ len + 1 = omega arith in
    let cut : sliced os (start + 1) (suc len) ≡ next ∷ sliced os (start + 1 + 1) len = ap (sliced os (start + 1)) count ∙ part_cut os (start + 1) len (omega (arith, part)) in
    let rise = offsets_rise os start (start + 1) held (omega arith) (omega (arith, part)) in
    let moved = moved_on place begin next (sliced os (start + 1 + 1) len) rise (above_next os (start + 1) len held (omega (arith, part))) in
    ap (map (λ n. place + (n - begin))) cut ∙ ap (λ es. (place + (next - begin)) ∷ es) (moved ∙ counted_ends os (start + 1) len (place + (next - begin)) held (omega (arith, part)))

-- as many items as the rows of a run have
pub counted_sum : (os : List ℕ) (start len : ℕ) → IsOffsets os → start + len < length os → slice_index os (start + len) - slice_index os start ≡ sum (map (row_length os) (range_with_len start len))
counted_sum os start zero held part =
    let same : slice_index os (start + 0) ≡ slice_index os start = ap (slice_index os) (omega arith) in
    omega (arith, same)
counted_sum os start (suc len) held part =
    let at : slice_index os (start + 1 + len) ≡ slice_index os (start + suc len) = ap (slice_index os) (omega arith) in
    let first = offsets_rise os start (start + 1) held (omega arith) (omega (arith, part)) in
    let others = offsets_rise os (start + 1) (start + 1 + len) held (omega arith) (omega (arith, part)) in
    omega (arith, at, first, others, counted_sum os (start + 1) len held (omega (arith, part)), sum_by-cons (λ x. x) (row_length os start) (map (row_length os) (range_with_len (start + 1) len)))
