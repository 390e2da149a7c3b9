-- Rows that come behind others, in bytes or in the rows of a child.
use Rattle.arrow_flat_growable.proofs.Common.{arith, ◌≡◌, ◌+◌, ◌-◌, ◌<◌, ◌≤◌, ℕ, zero, suc, pos, true, List, [], ◌∷◌, ◌++◌, length, map, replicate, take, drop, slice_index, refl, ap, sym, subst, ◌∙◌, OnErr, All, drop-append-add, take-add, ints, length-map, length-drop, length-replicate, drop-drop, take-append-le, drop-append-le, get_or-take, get_or-drop, get_or-replicate, sum_by-append, sum_by-cons, All-append, All-take, All-drop, IsOffsets, RisesFrom, last_of, with_rows, counted_on, sliced, at_most_last, offsets_rise, length-sliced, sliced-sliced, pieces-sliced, pieces, pieces_from, last_of_part, part_of_offsets, AreGrown, filled, total}
use Rattle.std.specs.Prelude.{Result, Ok, Err, OnOk}
use Rattle.std.proofs.lemmas.List.{length-append}

-- the last of some offsets

pub last_behind : (n m : ℕ) (os : List ℕ) → last_of (n ∷ m ∷ os) ≡ last_of (m ∷ os)
last_behind n m os =
    let last : length (n ∷ m ∷ os) - 1 ≡ suc (length (m ∷ os) - 1) = omega arith in
    ap (λ i. slice_index (n ∷ m ∷ os) i) last

pub last_more : (n : ℕ) (os more : List ℕ) → last_of (n ∷ os ++ more) ≡ last_of (last_of (n ∷ os) ∷ more)
last_more n [] more = refl
last_more n (m ∷ os) more =
    last_behind n m (os ++ more) ∙ (last_more m os more ∙ ap (λ l. last_of (l ∷ more)) (sym (last_behind n m os)))

last_same : (n k : ℕ) → last_of (n ∷ replicate k n) ≡ n
last_same n zero = refl
last_same n (suc k) = last_behind n n (replicate k n) ∙ last_same n k

-- rows that come behind others

pub pieces-more : {A : Type 0} (n : ℕ) (os more : List ℕ) (xs : List A) → pieces_from n (os ++ more) xs ≡ pieces_from n os xs ++ pieces_from (last_of (n ∷ os)) more xs
pieces-more n [] more xs = refl
pieces-more n (m ∷ os) more xs =
    ap (λ rows. sliced xs n (m - n) ∷ rows) (pieces-more m os more xs ∙ ap (λ l. pieces_from m os xs ++ pieces_from l more xs) (sym (last_behind n m os)))

-- more values change no row before them
pub pieces-within : {A : Type 0} (n : ℕ) (os : List ℕ) (xs ys : List A) → n ≤ length xs → ((j : ℕ) → j < length os → slice_index os j ≤ length xs) → pieces_from n os (xs ++ ys) ≡ pieces_from n os xs
pieces-within n [] xs ys low high = refl
pieces-within n (m ∷ os) xs ys low high =
    let end : m ≤ length xs = high 0 (omega arith) in
    let here : sliced (xs ++ ys) n (m - n) ≡ sliced xs n (m - n) =
    ap (take (m - n)) (drop-append-le n xs ys low) ∙ take-append-le (m - n) (drop n xs) ys (omega (arith, end, length-drop n xs)) in
    λ i. here i ∷ pieces-within m os xs ys end (λ j within. high (suc j) (omega (arith, within))) i

-- the same rows in a copy of the values from one place on
pieces-moved : {A : Type 0} (own values : List A) (first count n : ℕ) (ns : List ℕ) → first ≤ n → n ≤ first + count → ((j : ℕ) → j < length ns → (first ≤ slice_index ns j) × (slice_index ns j ≤ first + count)) → pieces_from (length own + (n - first)) (map (λ k. length own + (k - first)) ns) (own ++ sliced values first count) ≡ pieces_from n ns values
pieces-moved own values first count n [] low high within = refl
pieces-moved own values first count n (m ∷ ns) low high within =
    let next = within 0 (omega arith) in
    let long : length own + (m - first) - (length own + (n - first)) ≡ m - n = omega (arith, low, next.0) in
    let back : first + (n - first) ≡ n = omega (arith, low) in
    let here : sliced (own ++ sliced values first count) (length own + (n - first)) (length own + (m - first) - (length own + (n - first))) ≡ sliced values n (m - n) =
    (λ i. take (long i) (drop-append-add own (sliced values first count) (n - first) i)) ∙ (sliced-sliced values first count (n - first) (m - n) (omega (arith, low, high, next.0, next.1)) ∙ ap (λ s. sliced values s (m - n)) back) in
    λ i. here i ∷ pieces-moved own values first count m ns next.0 next.1 (λ j inside. within (suc j) (omega (arith, inside))) i

pieces-empty : {A : Type 0} (n k : ℕ) (xs : List A) → pieces_from n (replicate k n) xs ≡ replicate k []
pieces-empty n zero xs = refl
pieces-empty n (suc k) xs =
    let none : n - n ≡ 0 = omega arith in
    λ i. take (none i) (drop n xs) ∷ pieces-empty n k xs i

-- how many values all rows have

total-from : {A : Type 0} (n : ℕ) (os : List ℕ) (xs : List A) → RisesFrom (pos n) (map pos os) → last_of (n ∷ os) ≤ length xs → total (pieces_from n os xs) + n ≡ last_of (n ∷ os)
total-from n [] xs rises within =
    let last : last_of (n ∷ []) ≡ n = refl in
    omega (arith, last)
total-from n (m ∷ os) xs rises within =
    let held : IsOffsets (m ∷ os) = record { some = omega arith; rises = (omega (arith, ints), rises.1) } in
    let last = last_behind n m os in
    let below : m ≤ last_of (m ∷ os) = at_most_last (m ∷ os) 0 held (omega arith) in
    let up : n ≤ m = omega (arith, ints, rises.0) in
    let rest = total-from m os xs rises.1 (omega (arith, within, last)) in
    omega (arith, sum_by-cons length (sliced xs n (m - n)) (pieces_from m os xs), length-sliced xs n (m - n) (omega (arith, within, last, below, up)), rest, last, below, up)

pub total_pieces : {A : Type 0} (os : List ℕ) (xs : List A) → IsOffsets os → last_of os ≤ length xs → total (pieces os xs) + slice_index os 0 ≡ last_of os
total_pieces [] xs held within = absurd (omega (arith, held.some))
total_pieces (n ∷ os) xs held within = total-from n os xs held.rises.1 within

-- empty rows behind others

pub empty_rows : {A : Type 0} (os : List ℕ) (own : List A) (k : ℕ) → IsOffsets os → pieces (os ++ replicate k (last_of os)) own ≡ pieces os own ++ replicate k []
empty_rows [] own k held = absurd (omega (arith, held.some))
empty_rows (n ∷ os) own k held =
    pieces-more n os (replicate k (last_of (n ∷ os))) own ∙ ap (λ rows. pieces_from n os own ++ rows) (pieces-empty (last_of (n ∷ os)) k own)

pub empty_ends : (os : List ℕ) (k : ℕ) → IsOffsets os → last_of (os ++ replicate k (last_of os)) ≡ last_of os
empty_ends [] k held = absurd (omega (arith, held.some))
empty_ends (n ∷ os) k held = last_more n os (replicate k (last_of (n ∷ os))) ∙ last_same (last_of (n ∷ os)) k

pub same_begin : (os more : List ℕ) → IsOffsets os → slice_index (os ++ more) 0 ≡ slice_index os 0
same_begin [] more held = absurd (omega (arith, held.some))
same_begin (n ∷ os) more held = refl

-- rows of others behind one's own

pub part_cut : (os : List ℕ) (start len : ℕ) → start < length os → sliced os start (len + 1) ≡ slice_index os start ∷ sliced os (start + 1) len
part_cut [] start len within = absurd (omega (arith, within))
part_cut (n ∷ os) zero len within =
    let next : len + 1 ≡ suc len = omega arith in
    rw next refl
part_cut (n ∷ os) (suc start) len within =
    let next : suc start + 1 ≡ suc (start + 1) = omega arith in
    rw next (part_cut os start len (omega (arith, within)))

mapped_at : (f : ℕ → ℕ) (xs : List ℕ) (i : ℕ) → i < length xs → slice_index (map f xs) i ≡ f (slice_index xs i)
mapped_at f [] i within = absurd (omega (arith, within))
mapped_at f (x ∷ xs) zero within = refl
mapped_at f (x ∷ xs) (suc i) within = mapped_at f xs i (omega (arith, within))

module _ {A : Type 0} (others : List ℕ) (values : List A) (start len : ℕ) (held : IsOffsets others) (part : start + len < length others) (within : last_of others ≤ length values) where
  rise : slice_index others start ≤ slice_index others (start + len)
  rise = offsets_rise others start (start + len) held (omega arith) part

  part_held : IsOffsets (sliced others start (len + 1))
  part_held = part_of_offsets others start (len + 1) held (omega (arith, part)) (omega arith)

  part_at : (j : ℕ) → j < len + 1 → slice_index (sliced others start (len + 1)) j ≡ slice_index others (start + j)
  part_at j inside = get_or-take (len + 1) (drop start others) j 0 inside ∙ get_or-drop start others j 0

  part_last : last_of (sliced others start (len + 1)) ≡ slice_index others (start + len)
  part_last =
      let long = length-sliced others start (len + 1) (omega (arith, part)) in
      let last : length (sliced others start (len + 1)) - 1 ≡ len = omega (arith, long) in
      ap (λ i. slice_index (sliced others start (len + 1)) i) last ∙ part_at len (omega arith)

  -- how many values these rows have
  pub total_part : total (sliced (pieces others values) start len) ≡ slice_index others (start + len) - slice_index others start
  total_part =
      let none : start + 0 ≡ start = omega arith in
      let begins : slice_index (sliced others start (len + 1)) 0 ≡ slice_index others start = part_at 0 (omega arith) ∙ ap (λ i. slice_index others i) none in
      let all = total_pieces (sliced others start (len + 1)) values part_held (omega (arith, within, last_of_part others start len held (omega (arith, part)))) in
      let same : total (pieces (sliced others start (len + 1)) values) ≡ total (sliced (pieces others values) start len) = ap total (pieces-sliced others values start len) in
      omega (arith, all, same, begins, part_last)

  pub part_rows : pieces_from (slice_index others start) (sliced others (start + 1) len) values ≡ sliced (pieces others values) start len
  part_rows =
      ap (λ os. pieces os values) (sym (part_cut others start len (omega (arith, part)))) ∙ pieces-sliced others values start len

  next_at : (j : ℕ) → j < length (sliced others (start + 1) len) → (slice_index others start ≤ slice_index (sliced others (start + 1) len) j) × (slice_index (sliced others (start + 1) len) j ≤ slice_index others start + (slice_index others (start + len) - slice_index others start))
  next_at j inside =
      let long = length-sliced others (start + 1) len (omega (arith, part)) in
      let read : slice_index (sliced others (start + 1) len) j ≡ slice_index others (start + 1 + j) = get_or-take len (drop (start + 1) others) j 0 (omega (arith, inside, long)) ∙ get_or-drop (start + 1) others j 0 in
      let low = offsets_rise others start (start + 1 + j) held (omega arith) (omega (arith, inside, long, part)) in
      let high = offsets_rise others (start + 1 + j) (start + len) held (omega (arith, inside, long)) part in
      (omega (arith, read, low), omega (arith, read, high, rise))

  pub part_moved : (os : List ℕ) (own : List A) → IsOffsets os → last_of os ≡ length own → pieces (with_rows os others start len) (own ++ sliced values (slice_index others start) (slice_index others (start + len) - slice_index others start)) ≡ pieces os own ++ sliced (pieces others values) start len
  part_moved [] own sound ends = absurd (omega (arith, sound.some))
  part_moved (n ∷ os) own sound ends =
      let first = slice_index others start in
      let count = slice_index others (start + len) - slice_index others start in
      let ns = sliced others (start + 1) len in
      let all = own ++ sliced values first count in
      let zero_first : length own + (first - first) ≡ length own = omega arith in
      let place : last_of (n ∷ os) ≡ length own + (first - first) = ends ∙ sym zero_first in
      let old : pieces_from n os all ≡ pieces_from n os own =
      pieces-within n os own (sliced values first count) (omega (arith, ends, at_most_last (n ∷ os) 0 sound (omega arith))) (λ j inside. omega (arith, ends, at_most_last (n ∷ os) (suc j) sound (omega (arith, inside)))) in
      let new : pieces_from (last_of (n ∷ os)) (counted_on (last_of (n ∷ os)) others start len) all ≡ sliced (pieces others values) start len =
      (λ i. pieces_from (place i) (map (λ k. ends i + (k - first)) ns) all) ∙ (pieces-moved own values first count first ns (omega arith) (omega arith) next_at ∙ part_rows) in
      pieces-more n os (counted_on (last_of (n ∷ os)) others start len) all ∙ (λ i. old i ++ new i)

  pub part_ends : (os : List ℕ) → IsOffsets os → last_of (with_rows os others start len) ≡ last_of os + (slice_index others (start + len) - slice_index others start)
  part_ends [] sound = absurd (omega (arith, sound.some))
  part_ends (n ∷ os) sound =
      let first = slice_index others start in
      let last = last_of (n ∷ os) in
      let counted : ℕ → ℕ = λ k. last + (k - first) in
      let ns = sliced others (start + 1) len in
      let begins : last ≡ counted first = omega arith in
      let long = length-map (first ∷ ns) counted in
      let end : length (map counted (first ∷ ns)) - 1 ≡ length (first ∷ ns) - 1 = omega (arith, long) in
      let some : length (first ∷ ns) - 1 < length (first ∷ ns) = omega arith in
      let read : last_of (map counted (first ∷ ns)) ≡ counted (last_of (first ∷ ns)) =
      ap (λ i. slice_index (map counted (first ∷ ns)) i) end ∙ mapped_at counted (first ∷ ns) (length (first ∷ ns) - 1) some in
      let cut : last_of (first ∷ ns) ≡ slice_index others (start + len) = ap last_of (sym (part_cut others start len (omega (arith, part)))) ∙ part_last in
      last_more n os (counted_on last others start len) ∙ (ap (λ l. last_of (l ∷ map counted ns)) begins ∙ (read ∙ ap counted cut))

-- what follows from either answer of a call
pub on_either : {T E A B P : Type 0} (r : Result T E) → (A → P) → (B → P) → OnOk r A → OnErr r B → P
on_either (Ok x) f h a b = f a
on_either (Err e) f h a b = h b

all_constant : {A : Type 0} (P : A → Type 0) (n : ℕ) (x : A) → P x → All P (replicate n x)
all_constant P n x holds = λ k d within. subst P (sym (get_or-replicate n k x d (omega (arith, within, length-replicate n x)))) holds

-- rows that grow
module _ {A : Type 0} (Allows : List A → Type 0) (os : List ℕ) (own : List A) (grown : AreGrown Allows os own) (sound : IsOffsets os) where
  pub total_grown : total (pieces os own) ≡ last_of os
  total_grown =
      omega (arith, total_pieces os own sound (omega (arith, grown.ends)), grown.begins)

  pub same_grown : (new_os : List ℕ) (new : List A) → (new_os ≡ os) × (new ≡ own) → AreGrown Allows new_os new
  same_grown new_os new is =
      subst {A = List ℕ × List A} (λ p. AreGrown Allows p.0 p.1) (λ i. (sym is.0 i, sym is.1 i)) grown

  pub empty_grown : Allows [] → (new_os : List ℕ) (k : ℕ) → new_os ≡ os ++ replicate k (last_of os) → AreGrown Allows new_os own
  empty_grown empty new_os k is =
      record {
        begins = ap (λ ns. slice_index ns 0) is ∙ (same_begin os (replicate k (last_of os)) sound ∙ grown.begins);
        ends = ap last_of is ∙ (empty_ends os k sound ∙ grown.ends);
        rows = subst (All Allows) (sym (ap (λ ns. pieces ns own) is ∙ empty_rows os own k sound)) (All-append Allows (pieces os own) (replicate k []) grown.rows (all_constant Allows k [] empty));
      }

  module _ (others : List ℕ) (values : List A) (start len : ℕ) (held : IsOffsets others) (part : start + len < length others) (within : last_of others ≤ length values) where
    pub part_total : total (pieces os own ++ sliced (pieces others values) start len) ≡ last_of os + (slice_index others (start + len) - slice_index others start)
    part_total =
        omega (arith, sum_by-append length (pieces os own) (sliced (pieces others values) start len), total_grown, total_part others values start len held part within)

    pub part_grown : All Allows (pieces others values) → (new_os : List ℕ) (new : List A) → (new_os ≡ with_rows os others start len) × (new ≡ own ++ sliced values (slice_index others start) (slice_index others (start + len) - slice_index others start)) → AreGrown Allows new_os new
    part_grown allowed new_os new is =
        let first = slice_index others start in
        let count = slice_index others (start + len) - first in
        let high = at_most_last others (start + len) held part in
        let low = offsets_rise others start (start + len) held (omega arith) part in
        let long : length (sliced values first count) ≡ count = length-sliced values first count (omega (arith, high, low, within)) in
        let last : last_of new_os ≡ last_of os + count = ap last_of is.0 ∙ part_ends others values start len held part within os sound in
        let size : length new ≡ length own + count = ap length is.1 ∙ (length-append own (sliced values first count) ∙ ap (λ n. length own + n) long) in
        let moved = part_moved others values start len held part within os own sound grown.ends in
        record {
          begins = ap (λ ns. slice_index ns 0) is.0 ∙ (same_begin os (counted_on (last_of os) others start len) sound ∙ grown.begins);
          ends = last ∙ (ap (λ n. n + count) grown.ends ∙ sym size);
          rows = subst (All Allows) (sym ((λ i. pieces (is.0 i) (is.1 i)) ∙ moved)) (All-append Allows (pieces os own) (sliced (pieces others values) start len) grown.rows (All-take Allows len _ (All-drop Allows start _ allowed)));
        }

-- rows under their bits

filled-set : {A : Type 0} (n : ℕ) (rows : List (List A)) → length rows ≡ n → filled (replicate n true) rows ≡ rows
filled-set zero [] same = refl
filled-set zero (row ∷ rows) same = absurd (omega (arith, same))
filled-set (suc n) [] same = absurd (omega (arith, same))
filled-set (suc n) (row ∷ rows) same = ap (λ ys. row ∷ ys) (filled-set n rows (omega (arith, same)))

-- rows that are all valid
pub all_set : {A : Type 0} (rows : List (List A)) (start len : ℕ) → start + len ≤ length rows → filled (replicate len true) (sliced rows start len) ≡ sliced rows start len
all_set rows start len within = filled-set len (sliced rows start len) (length-sliced rows start len within)

pub sliced-cut : {A : Type 0} (xs : List A) (start place end : ℕ) → start ≤ place → place ≤ end → sliced xs start (place - start) ++ sliced xs place (end - place) ≡ sliced xs start (end - start)
sliced-cut xs start place end low high =
    let at : start + (place - start) ≡ place = omega (arith, low) in
    let all : end - start ≡ place - start + (end - place) = omega (arith, low, high) in
    let behind : drop (place - start) (drop start xs) ≡ drop place xs = drop-drop (place - start) start xs ∙ ap (λ n. drop n xs) at in
    rw all (sym (take-add (place - start) (end - place) (drop start xs) ∙ ap (λ ys. take (place - start) (drop start xs) ++ take (end - place) ys) behind))
