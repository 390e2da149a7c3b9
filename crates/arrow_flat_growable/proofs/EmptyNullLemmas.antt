-- Rows of which those are empty whose bit is not set: the bits by words, and these rows behind others as any rows.
use Rattle.arrow_flat_growable.proofs.Common.{arith, ◌≡◌, ◌+◌, ◌-◌, ◌*◌, ◌/◌, ◌%◌, ◌^◌, ◌<◌, ◌≤◌, ℕ, zero, suc, Bool, true, false, List, [], ◌∷◌, ◌++◌, length, map, replicate, take, drop, slice_index, get_or, if◌then◌else◌, refl, ap, sym, subst, ◌∙◌, w64, inl, inr, bit_at, bit_not, trailing_zeros, bit_at_above, bit_at_and, bit_at_clear_other, bit_at_clear_same, bit_at_not, bit_at_ones, bit_at_ones_above, bit_at-lt, bit_at-trailing_zeros, ones_shr, cases_lt, eqb_tells, and_le_l, div-le_self, append-nil, get_or-drop, get_or-take, IsOffsets, last_of, valid_length, valid_items, valid_ends, with_rows, with_valid_rows, sliced, AreEmptyNulls, valid_values, bit_at-shr, offsets_rise, length-sliced}
use Rattle.std.specs.Prelude.{◌==◌, bit_and, slice_index_or}
use Rattle.arrow_flat_growable.proofs.GrownRowLemmas.{part_cut}
use Rattle.arrow_flat_growable.proofs.ValidRowLemmas.{set_run}

-- ---- the bits that are not set, in a word

-- so many ones
mask_is : (count : ℕ) → count ≤ 64 → 18446744073709551615 / 2 ^ (64 - count) ≡ 2 ^ count - 1
mask_is count most =
    let back : 64 - (64 - count) ≡ count = omega (arith, most) in
    ones_shr 64 (64 - count) (omega arith) ∙ ap (λ n. 2 ^ n - 1) back

-- none is set past them
pub unset_within : (word count k : ℕ) → count ≤ 64 → bit_at (bit_and word (18446744073709551615 / 2 ^ (64 - count))) k ≡ 1 → k < count
unset_within word count k most set =
    elim (cases_lt k count) as (λ _. k < count) [
      | inl before ↦ before
      | inr after ↦ absurd (omega (arith, set, bit_at_and word (18446744073709551615 / 2 ^ (64 - count)) k, ap (λ n. bit_at n k) (mask_is count most), bit_at_ones_above count k (omega (arith, after)), bit_at-lt word k))
    ]

-- a bit that is not set is set there
pub unset_set : (word shift count k : ℕ) → word < 2 ^ 64 → shift + count ≤ 64 → k < count → bit_at word (shift + k) ≡ 0 → bit_at (bit_and (18446744073709551615 - word / 2 ^ shift) (18446744073709551615 / 2 ^ (64 - count))) k ≡ 1
unset_set word shift count k small inside below unset =
    let low : word / 2 ^ shift < 2 ^ 64 = omega (arith, small, div-le_self word (2 ^ shift)) in
    let turned = bit_at_not w64 (word / 2 ^ shift) k low (omega (arith, inside, below)) in
    let other = bit_at-shr word shift k in
    let ones = ap (λ n. bit_at n k) (mask_is count (omega (arith, inside))) ∙ bit_at_ones count k below in
    bit_at_and (18446744073709551615 - word / 2 ^ shift) (18446744073709551615 / 2 ^ (64 - count)) k ∙ omega (arith, turned, other, ones, unset)

-- the digit of a bit that is not set
pub digit_unset : (b : ℕ) → b < 2 → (b == 1) ≡ false → b ≡ 0
digit_unset zero below is = refl
digit_unset (suc zero) below is = cc
digit_unset (suc (suc b)) below is = absurd (omega (arith, below))

-- ---- the lowest bit that is left, and the others

module _ (left : ℕ) (some : 0 < left) (small : left < 2 ^ 64) where
  abbrev lowest : ℕ
  lowest = trailing_zeros w64 left

  abbrev rest_of : ℕ
  rest_of = bit_and left (bit_not w64 (1 * 2 ^ lowest % 2 ^ 64))

  found : (lowest < 64) × (bit_at left lowest ≡ 1) × ((i : ℕ) → i < lowest → bit_at left i ≡ 0)
  found = bit_at-trailing_zeros w64 left some small

  pub lowest_set : bit_at left lowest ≡ 1
  lowest_set = found.1

  cleared : bit_at rest_of lowest ≡ 0
  cleared = bit_at_clear_same w64 left lowest found.0

  pub others_less : rest_of < left
  others_less =
      elim (cases_lt rest_of left) as (λ _. rest_of < left) [
        | inl less ↦ less
        | inr more ↦
            let same : rest_of ≡ left = omega (arith, more, and_le_l left (bit_not w64 (1 * 2 ^ lowest % 2 ^ 64))) in
            absurd (omega (arith, found.1, cleared, ap (λ n. bit_at n lowest) same))
      ]

  pub others_left : (k : ℕ) → bit_at rest_of k ≡ 1 → bit_at left k ≡ 1
  others_left k set =
      let other = bit_not w64 (1 * 2 ^ lowest % 2 ^ 64) in
      omega (arith, set, bit_at_and left other k, bit_at-lt left k, bit_at-lt other k)

  -- with the lowest one, what is not left is done
  pub one_done : (word : ℕ) → word < 2 ^ 64 → (Done : ℕ → Type 0) → Done lowest → ((k : ℕ) → bit_at word k ≡ 1 → bit_at left k ≡ 0 → Done k) → (k : ℕ) → bit_at word k ≡ 1 → bit_at rest_of k ≡ 0 → Done k
  one_done word fits Done here done k set gone =
      elim (cases_lt k 64) as (λ _. Done k) [
        | inr above ↦ absurd (omega (arith, set, bit_at_above word 64 k fits above))
        | inl below ↦
            elim (eqb_tells k lowest) as (λ _. Done k) [
              | inl at ↦ subst Done (sym at.1) here
              | inr off ↦ done k set (sym (bit_at_clear_other w64 left lowest found.0 k below off.1) ∙ gone)
            ]
      ]

-- ---- rows up to a place, and so many more

pub more_empty : (bits : List Bool) (os : List ℕ) (start row count word : ℕ) → AreEmptyNulls bits os start row → ((k : ℕ) → k < count → slice_index_or bits (row + k) false ≡ false → bit_at word k ≡ 1) → ((k : ℕ) → bit_at word k ≡ 1 → slice_index os (row + k + 1) ≡ slice_index os (row + k)) → AreEmptyNulls bits os start (row + count)
more_empty bits os start row count word before unset empty =
    λ i from to off.
    elim (cases_lt i row) as (λ _. slice_index os (i + 1) ≡ slice_index os i) [
      | inl below ↦ before i from below off
      | inr above ↦
          let at : row + (i - row) ≡ i = omega (arith, above) in
          let here = unset (i - row) (omega (arith, above, to)) (ap (λ n. slice_index_or bits n false) at ∙ off) in
          subst (λ n. slice_index os (n + 1) ≡ slice_index os n) at (empty (i - row) here)
    ]

-- ---- such rows behind others

-- the same of the rows from row i on, one for each bit
abbrev EmptyFrom : List Bool → List ℕ → ℕ → Type 0
EmptyFrom bits os i = (k : ℕ) → k < length bits → get_or bits k false ≡ false → slice_index os (i + k + 1) ≡ slice_index os (i + k)

first_long : (b : Bool) (bits : List Bool) (os : List ℕ) (i : ℕ) → EmptyFrom (b ∷ bits) os i → valid_length b os i ≡ slice_index os (i + 1) - slice_index os i
first_long true bits os i empty = refl
first_long false bits os i empty =
    let at : i + 0 ≡ i = omega arith in
    let here : slice_index os (i + 1) ≡ slice_index os i = subst (λ n. slice_index os (n + 1) ≡ slice_index os n) at (empty 0 (omega arith) refl) in
    let none : slice_index os (i + 1) - slice_index os i ≡ 0 = omega (arith, here) in
    sym none

rest_empty : (b : Bool) (bits : List Bool) (os : List ℕ) (i : ℕ) → EmptyFrom (b ∷ bits) os i → EmptyFrom bits os (i + 1)
rest_empty b bits os i empty =
    λ k below off.
    let at : i + suc k ≡ i + 1 + k = omega arith in
    subst (λ n. slice_index os (n + 1) ≡ slice_index os n) at (empty (suc k) (omega (arith, below)) off)

-- how many items they have
all_items : (bits : List Bool) (os : List ℕ) (i : ℕ) → IsOffsets os → i + length bits < length os → EmptyFrom bits os i → valid_items bits os i ≡ slice_index os (i + length bits) - slice_index os i
all_items [] os i held inside empty =
    let at : i + 0 ≡ i = omega arith in
    let none : slice_index os (i + 0) - slice_index os i ≡ 0 = omega (arith, ap (λ n. slice_index os n) at) in
    sym none
all_items (b ∷ bits) os i held inside empty =
    let at : i + 1 + length bits ≡ i + suc (length bits) = omega arith in
    let low = offsets_rise os i (i + 1) held (omega arith) (omega (arith, inside)) in
    let high = offsets_rise os (i + 1) (i + 1 + length bits) held (omega arith) (omega (arith, inside)) in
    let all : valid_length b os i + valid_items bits os (i + 1) ≡ slice_index os (i + suc (length bits)) - slice_index os i = omega (arith, first_long b bits os i empty, all_items bits os (i + 1) held (omega (arith, inside)) (rest_empty b bits os i empty), ap (λ n. slice_index os n) at, low, high) in
    all

-- where they end, counted from a place that belongs to a base
all_ends : (place base : ℕ) (bits : List Bool) (os : List ℕ) (i : ℕ) → IsOffsets os → i + length bits < length os → EmptyFrom bits os i → base ≤ slice_index os i → valid_ends (place + (slice_index os i - base)) bits os i ≡ map (λ n. place + (n - base)) (sliced os (i + 1) (length bits))
all_ends place base [] os i held inside empty low = refl
all_ends place base (b ∷ bits) os i held inside empty low =
    let next = slice_index os (i + 1) in
    let rises = offsets_rise os i (i + 1) held (omega arith) (omega (arith, inside)) in
    let end : place + (slice_index os i - base) + valid_length b os i ≡ place + (next - base) = omega (arith, first_long b bits os i empty, low, rises) in
    let more : suc (length bits) ≡ length bits + 1 = omega arith in
    let cut : sliced os (i + 1) (suc (length bits)) ≡ next ∷ sliced os (i + 1 + 1) (length bits) = ap (sliced os (i + 1)) more ∙ part_cut os (i + 1) (length bits) (omega (arith, inside)) in
    let rest = all_ends place base bits os (i + 1) held (omega (arith, inside)) (rest_empty b bits os i empty) (omega (arith, low, rises)) in
    (λ t. end t ∷ valid_ends (end t) bits os (i + 1)) ∙ ((λ t. (place + (next - base)) ∷ rest t) ∙ ap (map (λ n. place + (n - base))) (sym cut))

-- their values
first_item : {A : Type 0} (b : Bool) (bits : List Bool) (os : List ℕ) (xs : List A) (i : ℕ) → EmptyFrom (b ∷ bits) os i → (if b then sliced xs (slice_index os i) (slice_index os (i + 1) - slice_index os i) else []) ≡ sliced xs (slice_index os i) (slice_index os (i + 1) - slice_index os i)
first_item true bits os xs i empty = refl
first_item false bits os xs i empty = ap (λ n. take n (drop (slice_index os i) xs)) (first_long false bits os i empty)

as_set : {A : Type 0} (bits : List Bool) (os : List ℕ) (xs : List A) (i : ℕ) → EmptyFrom bits os i → valid_values bits os xs i ≡ valid_values (replicate (length bits) true) os xs i
as_set [] os xs i empty = refl
as_set (b ∷ bits) os xs i empty =
    λ t. first_item b bits os xs i empty t ++ as_set bits os xs (i + 1) (rest_empty b bits os i empty) t

module _ {A : Type 0} (others : List ℕ) (values : List A) (held : IsOffsets others) (within : last_of others ≤ length values) (validity : List Bool) (start len : ℕ) (part : start + len < length others) (covered : start + len ≤ length validity) (empty : AreEmptyNulls validity others start (start + len)) where
  abbrev bits : List Bool
  bits = sliced validity start len

  count : length bits ≡ len
  count = length-sliced validity start len covered

  inside : start + length bits < length others
  inside = omega (arith, part, count)

  empty_bits : EmptyFrom bits others start
  empty_bits =
      λ k below off.
      let here : k < len = omega (arith, below, count) in
      let read : get_or bits k false ≡ get_or validity (start + k) false = get_or-take len (drop start validity) k false here ∙ get_or-drop start validity k false in
      empty (start + k) (omega arith) (omega (arith, here)) (sym read ∙ off)

  pub same_count : slice_index others (start + len) - slice_index others start ≡ valid_items bits others start
  same_count =
      ap (λ n. slice_index others (start + n) - slice_index others start) (sym count) ∙ sym (all_items bits others start held inside empty_bits)

  pub same_offsets : (os : List ℕ) → with_rows os others start len ≡ with_valid_rows os bits others start
  same_offsets os =
      let first = slice_index others start in
      let place : last_of os + (first - first) ≡ last_of os = omega arith in
      ap (λ n. os ++ map (λ k. last_of os + (k - first)) (sliced others (start + 1) n)) (sym count) ∙ (ap (λ ys. os ++ ys) (sym (all_ends (last_of os) first bits others start held inside empty_bits (omega arith))) ∙ ap (λ n. os ++ valid_ends n bits others start) place)

  pub same_values : sliced values (slice_index others start) (slice_index others (start + len) - slice_index others start) ≡ valid_values bits others values start
  same_values =
      let first = slice_index others start in
      let set = replicate (length bits) true in
      let run : valid_values (set ++ []) others values start ≡ sliced values first (slice_index others (start + length bits) - first) = set_run others values held within (length bits) [] start inside ∙ append-nil _ in
      ap (λ n. sliced values first (slice_index others (start + n) - first)) (sym count) ∙ (sym run ∙ (ap (λ bs. valid_values bs others values start) (append-nil set) ∙ sym (as_set bits others values start empty_bits)))
