-- Rows that lie one behind the other: a part of them.
use Rattle.std.specs.Prelude.{◌≡◌, ℕ, zero, suc, ◌+◌, ◌-◌, ◌*◌, ◌≤◌, List, [], ◌∷◌, map, take, drop, length, refl}
use Rattle.std.proofs.Common.{ap, sym, ◌∙◌, arith}
use Rattle.std.proofs.lemmas.List.{length-map, drop-drop, drop-take, take-take}
use Rattle.arrow_types.specs.Slot.{Slot}
use Rattle.arrow_memory.specs.Sliced.{sliced}
use Rattle.arrow_memory.proofs.OffsetLemmas.{map_sliced}
use Rattle.arrow_flat.specs.Pieces.{pieces, pieces_from, chunks}

take-pieces_from : {A : Type 0} (start n : ℕ) (offsets : List ℕ) (xs : List A) → pieces_from start (take n offsets) xs ≡ take n (pieces_from start offsets xs)
take-pieces_from start zero offsets xs = refl
take-pieces_from start (suc n) [] xs = refl
take-pieces_from start (suc n) (end ∷ offsets) xs = ap (λ rows. sliced xs start (end - start) ∷ rows) (take-pieces_from end n offsets xs)

take_none : {A : Type 0} (n : ℕ) → take {A = A} n [] ≡ []
take_none zero = refl
take_none (suc n) = refl

take-pieces : {A : Type 0} (n : ℕ) (offsets : List ℕ) (xs : List A) → pieces (take (suc n) offsets) xs ≡ take n (pieces offsets xs)
take-pieces n [] xs = sym (take_none n)
take-pieces n (start ∷ offsets) xs = take-pieces_from start n offsets xs

drop_none : {A : Type 0} (n : ℕ) → drop {A = A} n [] ≡ []
drop_none zero = refl
drop_none (suc n) = refl

drop-pieces : {A : Type 0} (n : ℕ) (offsets : List ℕ) (xs : List A) → pieces (drop n offsets) xs ≡ drop n (pieces offsets xs)
drop-pieces zero offsets xs = refl
drop-pieces (suc n) [] xs = refl
drop-pieces (suc n) (start ∷ []) xs = rw (drop_none {A = ℕ} n) refl
drop-pieces (suc n) (start ∷ end ∷ offsets) xs = drop-pieces n (end ∷ offsets) xs

-- the rows of a part of the offsets
pub pieces-sliced : {A : Type 0} (offsets : List ℕ) (xs : List A) (offset len : ℕ) → pieces (sliced offsets offset (len + 1)) xs ≡ sliced (pieces offsets xs) offset len
pieces-sliced offsets xs offset len =
    let next : len + 1 ≡ suc len = omega arith in
    rw next (take-pieces len (drop offset offsets) xs ∙ ap (take len) (drop-pieces offset offsets xs))

-- and as slots
pub slots_of_pieces : (slot : List ℕ → Slot) (offsets bytes : List ℕ) (offset len : ℕ) → map slot (pieces (sliced offsets offset (len + 1)) bytes) ≡ sliced (map slot (pieces offsets bytes)) offset len
slots_of_pieces slot offsets bytes offset len =
    ap (map slot) (pieces-sliced offsets bytes offset len) ∙ map_sliced slot (pieces offsets bytes) offset len

drop-chunks : {A : Type 0} (n count size : ℕ) (xs : List A) → chunks count size (drop (n * size) xs) ≡ drop n (chunks (n + count) size xs)
drop-chunks zero count size xs =
    let same : zero + count ≡ count = omega arith in
    let none : zero * size ≡ zero = omega arith in
    rw (same, none) refl
drop-chunks (suc n) count size xs =
    let split : suc n * size ≡ size + n * size = omega arith in
    let more : suc n + count ≡ suc (n + count) = omega arith in
    rw (split, more) (ap (chunks count size) (sym (drop-drop (n * size) size xs)) ∙ drop-chunks n count size (drop size xs))

take-chunks : {A : Type 0} (n count size : ℕ) (xs : List A) → chunks n size (take (n * size) xs) ≡ take n (chunks (n + count) size xs)
take-chunks zero count size xs = refl
take-chunks (suc n) count size xs =
    let split : suc n * size ≡ size + n * size = omega arith in
    let more : suc n + count ≡ suc (n + count) = omega arith in
    let first = take-take size (size + n * size) xs (omega arith) in
    let rest = ap (chunks n size) (drop-take size (n * size) xs) ∙ take-chunks n count size (drop size xs) in
    rw (split, more) (λ i. first i ∷ rest i)

-- the rows of a part of the values
pub chunks-sliced : {A : Type 0} (count size : ℕ) (xs : List A) (offset len : ℕ) → offset + len ≤ count → chunks len size (sliced xs (offset * size) (len * size)) ≡ sliced (chunks count size xs) offset len
chunks-sliced count size xs offset len within =
    let left : count ≡ offset + (len + (count - offset - len)) = omega (arith, within) in
    rw left (take-chunks len (count - offset - len) size (drop (offset * size) xs) ∙ ap (take len) (drop-chunks offset (len + (count - offset - len)) size xs))

pub length-chunks : {A : Type 0} (count size : ℕ) (xs : List A) → length (chunks count size xs) ≡ count
length-chunks zero size xs = refl
length-chunks (suc count) size xs = ap suc (length-chunks count size (drop size xs))

-- and as slots
pub slots_of_chunks : (slot : List ℕ → Slot) (count size : ℕ) (xs : List ℕ) (offset len : ℕ) → offset + len ≤ length (map slot (chunks count size xs)) → map slot (chunks len size (sliced xs (offset * size) (len * size))) ≡ sliced (map slot (chunks count size xs)) offset len
slots_of_chunks slot count size xs offset len within =
    ap (map slot) (chunks-sliced count size xs offset len (omega (arith, within, length-map (chunks count size xs) slot, length-chunks count size xs))) ∙ map_sliced slot (chunks count size xs) offset len
