-- Rows that wait: how many bytes they have, and that they come behind those that are there.
use Rattle.arrow_flat_growable.proofs.Common.{arith, ◌≡◌, ◌+◌, ◌-◌, ◌<◌, ◌≤◌, ◌^◌, ◌∙◌, Bor, ℕ, zero, suc, Bool, true, false, List, [], ◌∷◌, ◌++◌, length, map, replicate, take, drop, slice_index_or, take_more, if◌then◌else◌, refl, ap, sym, subst, All, All-push, append_assoc, append-nil, flat_map, flat_map-append, get_or-map, length-append, length-map, length-replicate, length-sliced, length-low_bits, low_bits, set, sliced-cut, sum_by-append, sum_by-cons, sum_by-take-drop, sum_by-take-le, IsOffsets, last_of, sliced, pieces, row_bytes, filled, total, Slot, ByteParts, Waiting, AreWaiting, BindsParts, JoinsLast, LieThere, WaitBehind, Waits, part_of_bound, bound_parts, waiting_rows, with_waiting}
use Rattle.std.proofs.lemmas.List.{take-append-drop}
use Rattle.std.proofs.lemmas.List.{length-set, nil_from_length, take_more_set}
use Rattle.std.proofs.lemmas.List.Elements.{All-set}
use Rattle.std.proofs.Math.Seq.{take-length}
use Rattle.arrow_flat_growable.proofs.GrownRowLemmas.{total_pieces}
use Rattle.arrow_flat_growable.proofs.ValidRowLemmas.{run_long}

-- rows of which some have no bytes have no more
total-filled : (bits : List Bool) (rows : List (List ℕ)) → total (filled bits rows) ≤ total rows
total-filled [] rows = omega arith
total-filled (b ∷ bits) [] = omega arith
total-filled (true ∷ bits) (row ∷ rows) =
    omega (arith, sum_by-cons length row (filled bits rows), sum_by-cons length row rows, total-filled bits rows)
total-filled (false ∷ bits) (row ∷ rows) =
    omega (arith, sum_by-cons length [] (filled bits rows), sum_by-cons length row rows, total-filled bits rows)

-- and neither has a part of them
pub part_few : (rows : List (List ℕ)) (start len : ℕ) → total (sliced rows start len) ≤ total rows
part_few rows start len =
    omega (arith, sum_by-take-le length (drop start rows) len, sum_by-take-drop length rows start)

pub filled_few : (bits : List Bool) (rows : List (List ℕ)) (start len : ℕ) → total (filled bits (sliced rows start len)) ≤ total rows
filled_few bits rows start len = omega (arith, total-filled bits (sliced rows start len), part_few rows start len)

-- rows have no more bytes than they lie in
pub rows_few : (os bytes : List ℕ) → IsOffsets os → last_of os ≤ length bytes → total (pieces os bytes) ≤ length bytes
rows_few os bytes sound within = omega (arith, total_pieces os bytes sound within, within)

-- a call's rows behind those that wait
pub waits_behind : (arrays : List ByteParts) (rows : List (List ℕ)) (waiting new : List Waiting) (w : Waiting) → new ≡ waiting ++ w ∷ [] → with_waiting arrays rows new ≡ with_waiting arrays rows waiting ++ waiting_rows arrays w
waits_behind arrays rows waiting new w is =
    ap (λ ws. rows ++ flat_map (waiting_rows arrays) ws) is
    ∙ (ap (λ xs. rows ++ xs) (flat_map-append (waiting_rows arrays) waiting (w ∷ []) ∙ ap (λ xs. flat_map (waiting_rows arrays) waiting ++ xs) (append-nil (waiting_rows arrays w)))
    ∙ sym (append_assoc rows (flat_map (waiting_rows arrays) waiting) (waiting_rows arrays w)))

pub pushed_behind : (waiting new : List Waiting) (w : Waiting) → new ≡ waiting ++ w ∷ [] → WaitBehind waiting w new
pushed_behind waiting new w is arrays wait waits =
    (subst (All (Waits arrays)) (sym is) (All-push (Waits arrays) waiting w wait waits), λ rows. waits_behind arrays rows waiting new w is)

-- or as one call with the last
all_of : {A : Type 0} (xs : List A) (n : ℕ) → n ≡ length xs → take n xs ≡ xs
all_of xs n is = ap (λ k. take k xs) is ∙ take-length xs

pub joined_behind : (waiting new : List Waiting) (w both : Waiting) → 0 < length waiting → JoinsLast waiting w both → new ≡ set waiting (length waiting - 1) both → WaitBehind waiting w new
joined_behind waiting new w both some joins is arrays wait waits =
    let k = length waiting - 1 in
    let last = slice_index_or waiting k w in
    let below : k < length waiting = omega (arith, some) in
    let joined = joins arrays (wait k w below) waits in
    let first = take k waiting in
    let old_is : waiting ≡ first ++ last ∷ [] = sym (all_of waiting (k + 1) (omega (arith, some))) ∙ take_more waiting k w below in
    let new_is : new ≡ first ++ both ∷ [] = is ∙ (sym (all_of (set waiting k both) (k + 1) (omega (arith, some, length-set waiting k both))) ∙ take_more_set waiting k both below) in (
      subst (All (Waits arrays)) (sym is) (All-set (Waits arrays) waiting k both joined.0 wait),
      λ rows. waits_behind arrays rows first new both new_is
          ∙ (ap (λ xs. with_waiting arrays rows first ++ xs) joined.1
          ∙ (sym (append_assoc (with_waiting arrays rows first) (waiting_rows arrays last) (waiting_rows arrays w))
          ∙ ap (λ xs. xs ++ waiting_rows arrays w) (sym (waits_behind arrays rows first waiting last old_is)))),
    )

pub still_waiting : (arrays : List ByteParts) (bound rows : List (List ℕ)) (waiting new : List Waiting) (most greatest bytes more : ℕ) (w : Waiting) → AreWaiting arrays bound rows waiting most greatest → Waits arrays w → total (waiting_rows arrays w) ≤ bytes → WaitBehind waiting w new → more ≡ most + bytes → more ≤ greatest → AreWaiting arrays bound rows new more greatest
still_waiting arrays bound rows waiting new most greatest bytes more w all waits few behind sum fits =
    let both = behind arrays all.wait waits in
    record {
      bytes = all.bytes;
      wait = both.0;
      few = omega (arith, ap total (both.1 rows), sum_by-append length (with_waiting arrays rows waiting) (waiting_rows arrays w), all.few, few, sum);
      fits = fits;
    }

-- rows that are appended where none waits
pub appended_behind : (arrays : List ByteParts) (all done more new : List (List ℕ)) (none : List Waiting) → none ≡ [] → done ≡ all → new ≡ done ++ more → with_waiting arrays new none ≡ all ++ more
appended_behind arrays all done more new none are same is =
    ap (with_waiting arrays new) are ∙ (append-nil new ∙ (is ∙ ap (λ xs. xs ++ more) same))

-- where a call did not wait
pub not_waiting : (waits : Bool) (rows more old : List (List ℕ)) → rows ≡ (if waits then more else old) → waits ≡ false → rows ≡ old
not_waiting waits rows more old is false_is = is ∙ ap (λ b. if b then more else old) false_is

-- rows of two calls, one behind the other, as those of one
pub rows_joined : (arrays : List ByteParts) (i start len end more both : ℕ) → LieThere arrays i start len → LieThere arrays i end more → end ≡ start + len → both ≡ len + more → LieThere arrays i start both × (part_of_bound arrays i start both ≡ part_of_bound arrays i start len ++ part_of_bound arrays i end more)
rows_joined arrays i start len end more both first second behind sum =
    let rows = row_bytes (bound_parts arrays i) in (
      record { some = omega (arith, first.some, sum); bound = first.bound; within = omega (arith, second.within, behind, sum) },
      ap (sliced rows start) sum ∙ (sliced-cut rows start len more ∙ ap (λ k. sliced rows start len ++ sliced rows k more) (sym behind)),
    )

-- none that waits
pub none_waiting : (arrays : List ByteParts) (bound rows : List (List ℕ)) (none : List Waiting) (most greatest : ℕ) → bound ≡ map (λ p. p.bytes) arrays → none ≡ [] → most ≡ total rows → most ≤ greatest → AreWaiting arrays bound rows none most greatest
none_waiting arrays bound rows none most greatest bytes are count fits =
    let all : with_waiting arrays rows none ≡ rows = ap (with_waiting arrays rows) are ∙ append-nil rows in
    record {
      bytes = bytes;
      wait = subst (All (Waits arrays)) (sym are) (λ k d within. absurd (omega (arith, within)));
      few = omega (arith, ap total all, count);
      fits = fits;
    }

-- the rows of an array under a number
pub bound_at : {A : Type 0} (values : A → ByteParts) (arrays : List A) (i : ℕ) (array : A) → i < length (map values arrays) → array ≡ slice_index_or arrays i array → bound_parts (map values arrays) i ≡ values array
bound_at values arrays i array within is =
    get_or-map values arrays i array (record { offsets = []; bytes = [] }) (omega (arith, within, length-map arrays values)) ∙ ap values (sym is)

-- those that wait under bits
pub under_bits : (arrays : List ByteParts) (array : ByteParts) (i start len word : ℕ) (bits : List Bool) → LieThere arrays i start len → bound_parts arrays i ≡ array → bits ≡ low_bits word len → (start + length bits ≤ length (row_bytes array)) × (filled (low_bits word len) (part_of_bound arrays i start len) ≡ filled bits (sliced (row_bytes array) start (length bits)))
under_bits arrays array i start len word bits lie same is =
    let long : length bits ≡ len = ap length is ∙ length-low_bits word len in
    (omega (arith, lie.within, ap (λ p. length (row_bytes p)) same, long), λ t. filled (sym is t) (sliced (row_bytes (same t)) start (sym long t)))

-- rows of one call more
pub one_call_more : (arrays : List ByteParts) (rows so_far new : List (List ℕ)) (waiting : List Waiting) (k : ℕ) (d : Waiting) → k < length waiting → so_far ≡ with_waiting arrays rows (take k waiting) → new ≡ so_far ++ waiting_rows arrays (slice_index_or waiting k d) → new ≡ with_waiting arrays rows (take (k + 1) waiting)
one_call_more arrays rows so_far new waiting k d within before more =
    more ∙ (ap (λ xs. xs ++ waiting_rows arrays (slice_index_or waiting k d)) before ∙ sym (waits_behind arrays rows (take k waiting) (take (k + 1) waiting) (slice_index_or waiting k d) (take_more waiting k d within)))

-- the first calls have no more bytes than all
pub few_so_far : (arrays : List ByteParts) (rows so_far : List (List ℕ)) (waiting : List Waiting) (k greatest : ℕ) (d : Waiting) → k < length waiting → so_far ≡ with_waiting arrays rows (take k waiting) → total (with_waiting arrays rows waiting) ≤ greatest → total (so_far ++ waiting_rows arrays (slice_index_or waiting k d)) ≤ greatest
few_so_far arrays rows so_far waiting k greatest d within before few =
    let give = waiting_rows arrays in
    let first = take (k + 1) waiting in
    let more = one_call_more arrays rows so_far (so_far ++ give (slice_index_or waiting k d)) waiting k d within before refl in
    let cut : flat_map give waiting ≡ flat_map give first ++ flat_map give (drop (k + 1) waiting) = ap (flat_map give) (sym (take-append-drop (k + 1) waiting)) ∙ flat_map-append give first (drop (k + 1) waiting) in
    omega (arith, few, ap total more, ap total cut, sum_by-append length rows (flat_map give first), sum_by-append length rows (flat_map give waiting), sum_by-append length (flat_map give first) (flat_map give (drop (k + 1) waiting)))

-- rows that came are counted
filled-short : (bits : List Bool) (rows : List (List ℕ)) → length (filled bits rows) ≤ length rows
filled-short [] rows = omega arith
filled-short (b ∷ bits) [] = omega arith
filled-short (b ∷ bits) (row ∷ rows) = omega (arith, filled-short bits rows)

pub filled_counted : (slot : List ℕ → Slot) (bits : List Bool) (old rows new : List (List ℕ)) (start len : ℕ) → new ≡ old ++ filled bits (sliced rows start len) → start + len ≤ length (map slot rows) → length (map slot old) + len < 2 ^ 64 → length new < 2 ^ 64
filled_counted slot bits old rows new start len is within room =
    let part = sliced rows start len in
    omega (arith, ap length is, length-append old (filled bits part), filled-short bits part, length-sliced rows start len (omega (arith, within, length-map rows slot)), length-map old slot, room)

pub empty_counted : (slot : List ℕ → Slot) (old new : List (List ℕ)) (n : ℕ) → new ≡ old ++ replicate n [] → length (map slot old) + n < 2 ^ 64 → length new < 2 ^ 64
empty_counted slot old new n is room =
    omega (arith, ap length is, length-append old (replicate n []), length-replicate {A = List ℕ} n [], length-map old slot, room)

-- the bytes of arrays
pub bytes_of_arrays : {A : Type 0} (values : A → ByteParts) (arrays : List (Bor A)) (own : List A) → own ≡ map (λ r. r.now) arrays → map (λ r. (values r.now).bytes) arrays ≡ map (λ p. p.bytes) (map values own)
bytes_of_arrays values [] own is = ap (λ xs. map (λ p. p.bytes) (map values xs)) (sym is)
bytes_of_arrays values (r ∷ rs) own is =
    ap (λ xs. (values r.now).bytes ∷ xs) (bytes_of_arrays values rs (map (λ q. q.now) rs) refl) ∙ ap (λ xs. map (λ p. p.bytes) (map values xs)) (sym is)

pub binds_shared : {A : Type 0} (values : A → ByteParts) (arrays : List (Bor A)) (own : List A) → own ≡ map (λ r. r.now) arrays → (i : ℕ) (r : Bor A) → i < length arrays → r ≡ slice_index_or arrays i r → BindsParts (map values own) i (values r.now)
binds_shared values arrays own is i r below at =
    let within : i < length (map values own) = omega (arith, below, ap length is, length-map arrays (λ q. q.now), length-map own values) in
    let read : r.now ≡ slice_index_or own i r.now = sym (ap (λ xs. slice_index_or xs i r.now) is ∙ (get_or-map (λ q. q.now) arrays i r r.now below ∙ ap (λ q. q.now) (sym at))) in
    (within, bound_at values own i r.now within read)

-- bits of which the first run is all, or of which none is set
module _ (bits rest : List Bool) (nulls count len : ℕ) (are : bits ≡ replicate nulls false ++ (replicate count true ++ rest)) (long : length bits ≡ len) where
  many : nulls + (count + length rest) ≡ len
  many = sym (run_long nulls count bits rest are) ∙ long

  no_rest : length rest ≡ 0 → rest ≡ []
  no_rest none = nil_from_length rest none

  pub all_bits_set : count ≡ len → bits ≡ replicate len true
  all_bits_set all =
      let none : nulls ≡ 0 = omega (arith, many, all) in
      are ∙ ((λ t. replicate (none t) false ++ (replicate (all t) true ++ no_rest (omega (arith, many, all)) t)) ∙ append-nil (replicate len true))

  pub no_bit_set : nulls ≡ len → bits ≡ replicate len false
  no_bit_set all =
      let none : count ≡ 0 = omega (arith, many, all) in
      are ∙ ((λ t. replicate (all t) false ++ (replicate (none t) true ++ no_rest (omega (arith, many, all)) t)) ∙ append-nil (replicate len false))

filled-unset : (n : ℕ) (rows : List (List ℕ)) → length rows ≡ n → filled (replicate n false) rows ≡ replicate n []
filled-unset zero [] long = refl
filled-unset zero (row ∷ rows) long = absurd (omega (arith, long))
filled-unset (suc n) [] long = absurd (omega (arith, long))
filled-unset (suc n) (row ∷ rows) long = ap (λ xs. [] ∷ xs) (filled-unset n rows (omega (arith, long)))

pub rows_unset : (rows : List (List ℕ)) (start len : ℕ) → start + len ≤ length rows → filled (replicate len false) (sliced rows start len) ≡ replicate len []
rows_unset rows start len within = filled-unset len (sliced rows start len) (length-sliced rows start len within)

-- rows of an array, wherever it is bound
pub lie_there : (arrays : List ByteParts) (array : ByteParts) (i start len : ℕ) → BindsParts arrays i array → 0 < len → start + len ≤ length (row_bytes array) → LieThere arrays i start len
lie_there arrays array i start len bound some within = record {
  some = some;
  bound = bound.0;
  within = subst (λ p. start + len ≤ length (row_bytes p)) (sym bound.1) within;
}
