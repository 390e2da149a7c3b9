-- Rows of so many items each: behind one's own, and what they name of the child.
use Rattle.arrow_growable.proofs.Common.{arith, ◌≡◌, ◌+◌, ◌-◌, ◌*◌, ◌/◌, ◌≤◌, ℕ, zero, suc, Bool, true, false, List, [], ◌∷◌, ◌++◌, Option, length, map, replicate, take, drop, if◌then◌else◌, refl, ap, sym, ◌∙◌, length-map, length-replicate, map-append, take_all, take_at, drop-drop, drop_at, replicate-append-replicate, ArrowType, fixed_items_in, mask, masked, Slot, Null, null_slot, from_slots-to_slots, sliced, map_sliced, length-sliced, bits_of_slice, chunks-sliced, length-chunks, chunks, fixed_items, items_row, length-fixed_items, mask-append, mask-part, mask-unset, chunks-append, spread, flat_map, length-append}

-- rows of s items each, in the rows of a child, and s null slots where a row is null
module _ (s : ℕ) (none : Slot) (xs : List Slot) where
  -- what row i names
  abbrev items : Bool → ℕ → List Slot
  items b i = if b then sliced xs (i * s) ((i + 1) * s - i * s) else replicate s none

  row_there : (i : ℕ) → sliced xs (i * s) ((i + 1) * s - i * s) ≡ take s (drop (i * s) xs)
  row_there i =
      let count : (i + 1) * s - i * s ≡ s = omega arith in
      ap (sliced xs (i * s)) count

  rest_there : (i : ℕ) → drop s (drop (i * s) xs) ≡ drop ((i + 1) * s) xs
  rest_there i =
      let next : i * s + s ≡ (i + 1) * s = omega arith in
      drop-drop s (i * s) xs ∙ ap (λ k. drop k xs) next

  items_long : (b : Bool) (i : ℕ) → i * s + s ≤ length xs → length (items b i) ≡ s
  items_long true i within = ap length (row_there i) ∙ length-sliced xs (i * s) s within
  items_long false i within = length-replicate s none

  -- null slots do not show
  items_shown : (b : Bool) (i : ℕ) → (if b then items_row (items b i) else Null) ≡ (if b then items_row (take s (drop (i * s) xs)) else Null)
  items_shown true i = ap items_row (row_there i)
  items_shown false i = refl

  spread_rows : (bits : List Bool) (i : ℕ) → (i + length bits) * s ≤ length xs → mask bits (map items_row (chunks (length bits) s (spread s none bits (λ k. k * s) xs i))) ≡ mask bits (map items_row (chunks (length bits) s (drop (i * s) xs)))
  spread_rows [] i within = refl
  spread_rows (b ∷ bits) i within =
      let rest = spread s none bits (λ k. k * s) xs (i + 1) in
      let long = items_long b i (omega (arith, within)) in
      let first = ap (λ ys. if b then items_row ys else Null) (take_at (items b i) rest s long) ∙ items_shown b i in
      let behind = drop_at (items b i) rest s long in
      let shown : List Slot → List Slot = λ ys. mask bits (map items_row (chunks (length bits) s ys)) in
      let others = ap shown behind ∙ (spread_rows bits (i + 1) (omega (arith, within)) ∙ ap shown (sym (rest_there i))) in
      λ t. first t ∷ others t

-- what a row names of the child
row_named : (s : ℕ) (u : ArrowType) (b : Bool) (xs : List Slot) (i : ℕ) → fixed_items_in s u (if b then items_row (take s (drop (i * s) xs)) else Null) ≡ items s (null_slot u) xs b i
row_named s u true xs i =
    from_slots-to_slots (take s (drop (i * s) xs)) ∙ sym (row_there s (null_slot u) xs i)
row_named s u false xs i = refl

-- what rows of a fixed-size list name of the child
pub fixed_named : (s : ℕ) (u : ArrowType) (bits : List Bool) (xs : List Slot) (i : ℕ) → (i + length bits) * s ≤ length xs → flat_map (fixed_items_in s u) (mask bits (map items_row (chunks (length bits) s (drop (i * s) xs)))) ≡ spread s (null_slot u) bits (λ k. k * s) xs i
fixed_named s u [] xs i within = refl
fixed_named s u (b ∷ bits) xs i within =
    let rest = ap (λ ys. flat_map (fixed_items_in s u) (mask bits (map items_row (chunks (length bits) s ys)))) (rest_there s (null_slot u) xs i) ∙ fixed_named s u bits xs (i + 1) (omega (arith, within)) in
    λ t. row_named s u b xs i t ++ rest t

-- rows of items behind one's own
module _ (s : ℕ) (bits : List Bool) (own : List Slot) (whole : length bits * s ≡ length own) where
  rows_behind : (more : List Bool) (ys : List Slot) → mask (bits ++ more) (map items_row (chunks (length (bits ++ more)) s (own ++ ys))) ≡ mask bits (map items_row (chunks (length bits) s own)) ++ mask more (map items_row (chunks (length more) s ys))
  rows_behind more ys =
      let first = chunks (length bits) s own in
      let behind = chunks (length more) s ys in
      let rows : chunks (length (bits ++ more)) s (own ++ ys) ≡ first ++ behind = ap (λ n. chunks n s (own ++ ys)) (length-append bits more) ∙ chunks-append (length bits) (length more) s own ys whole in
      ap (mask (bits ++ more)) (ap (map items_row) rows ∙ map-append items_row first behind) ∙ mask-append bits more (map items_row first) (map items_row behind) (omega (arith, length-map first items_row, length-chunks (length bits) s own))

-- rows behind one's own: those that are null have null slots, which does not show
pub fixed_appended : (s : ℕ) (none : Slot) (bits more : List Bool) (own xs : List Slot) (i : ℕ) → length bits * s ≡ length own → (i + length more) * s ≤ length xs → mask (bits ++ more) (map items_row (chunks (length (bits ++ more)) s (own ++ spread s none more (λ k. k * s) xs i))) ≡ mask bits (map items_row (chunks (length bits) s own)) ++ mask more (map items_row (chunks (length more) s (drop (i * s) xs)))
fixed_appended s none bits more own xs i whole within =
    rows_behind s bits own whole more (spread s none more (λ k. k * s) xs i) ∙ ap (λ rows. mask bits (map items_row (chunks (length bits) s own)) ++ rows) (spread_rows s none xs more i within)

-- null rows behind one's own
pub fixed_nulls : (s : ℕ) (none : Slot) (bits : List Bool) (own : List Slot) (n : ℕ) → length bits * s ≡ length own → mask (bits ++ replicate n false) (map items_row (chunks (length (bits ++ replicate n false)) s (own ++ replicate (n * s) none))) ≡ mask bits (map items_row (chunks (length bits) s own)) ++ replicate n Null
fixed_nulls s none bits own n whole =
    let unset = replicate n false in
    let nulls = chunks (length unset) s (replicate (n * s) none) in
    rows_behind s bits own whole unset (replicate (n * s) none) ∙ ap (λ rows. mask bits (map items_row (chunks (length bits) s own)) ++ rows) (mask-unset n (map items_row nulls) (omega (arith, length-map nulls items_row, length-chunks (length unset) s (replicate (n * s) none), length-replicate n false)))

-- and what they name of the child
pub fixed_of_nulls : (s : ℕ) (u : ArrowType) (n : ℕ) → flat_map (fixed_items_in s u) (replicate n Null) ≡ replicate (n * s) (null_slot u)
fixed_of_nulls s u zero =
    let none : 0 ≡ 0 * s = omega arith in
    ap (λ k. replicate k (null_slot u)) none
fixed_of_nulls s u (suc n) =
    let count : s + n * s ≡ suc n * s = omega arith in
    ap (λ ys. replicate s (null_slot u) ++ ys) (fixed_of_nulls s u n) ∙ (replicate-append-replicate s (n * s) (null_slot u) ∙ ap (λ k. replicate k (null_slot u)) count)

-- rows need no items behind their own
chunks_taken : (n s : ℕ) (ys : List Slot) → chunks n s (take (n * s) ys) ≡ chunks n s ys
chunks_taken n s ys =
    let none : 0 ≡ 0 * s = omega arith in
    ap (λ k. chunks n s (sliced ys k (n * s))) none ∙ (chunks-sliced n s ys 0 n (omega arith) ∙ take_all n (chunks n s ys) (omega (arith, length-chunks n s ys)))

-- a part of the rows of an array
pub fixed_part : (v : Option (List Bool)) (s : ℕ) (ys : List Slot) (start n : ℕ) → start + n ≤ length ys / s → mask (bits_of_slice v start n) (map items_row (chunks n s (drop (start * s) ys))) ≡ sliced (masked v (fixed_items s ys)) start n
fixed_part v s ys start n within =
    let rows = chunks (length ys / s) s ys in
    let part : chunks n s (drop (start * s) ys) ≡ sliced rows start n = sym (chunks_taken n s (drop (start * s) ys)) ∙ chunks-sliced (length ys / s) s ys start n within in
    ap (mask (bits_of_slice v start n)) (ap (map items_row) part ∙ map_sliced items_row rows start n) ∙ mask-part v (fixed_items s ys) start n (omega (arith, within, length-fixed_items s ys))
