-- The lowest run of set bits of a word, found by what a carry does.
use Rattle.arrow_select.proofs.Common.{arith, inl, inr, ◌≡◌, ◌+◌, ◌-◌, ◌%◌, ◌^◌, ◌<◌, ◌≤◌, max, min, ℕ, ap, sym, subst, ◌∙◌, w64, bit_at, bit_not, trailing_ones, trailing_zeros, trailing_of_zero, cases_lt, and_le_l, or_lt, bit_at_and, bit_at_or, bit_at-lt, bit_at-trailing_ones, bit_at-trailing_zeros, bit_at-zero, bit_at_above, bit_at_ones, IsLowestRun, bit_and, bit_or}
use Rattle.arrow_select.proofs.SetLemmas.{LosesLowest, one_less}

-- one more than a number that ends in ones: these are zeros then, and the zero above them is a one
pub record Carries (x y k : ℕ) : Type 0 where
  pub below : (i : ℕ) → i < k → bit_at y i ≡ 0
  pub one : bit_at y k ≡ 1
  pub above : (i : ℕ) → k < i → bit_at y i ≡ bit_at x i

one_more : (x : ℕ) → x + 1 < 2 ^ 64 → Carries x (x + 1) (trailing_ones w64 x)
one_more x small =
    let k = trailing_ones w64 x in
    let j = trailing_zeros w64 (x + 1) in
    let ends = bit_at-trailing_ones w64 x small in
    let found = bit_at-trailing_zeros w64 (x + 1) (omega arith) small in
    let less = one_less (x + 1) j found.2 found.1 in
    let same : x + 1 - 1 ≡ x = omega arith in
    let at : j ≡ k = elim (cases_lt j k) as (λ _. j ≡ k) [
      | inl before ↦ absurd (omega (arith, ends.2 j before, ap (λ n. bit_at n j) same, less.unset))
      | inr after ↦ elim (cases_lt k j) as (λ _. j ≡ k) [
        | inl past ↦ absurd (omega (arith, less.ones k past, ap (λ n. bit_at n k) same, ends.1))
        | inr here ↦ omega (arith, after, here)
      ]
    ] in
    subst (Carries x (x + 1)) at (record { below = found.2; one = found.1; above = λ i from. sym (less.above i from) ∙ ap (λ n. bit_at n i) same })

-- ---- a word whose zeros below the lowest one are ones

filled_low : (w start i : ℕ) → LosesLowest w start → bit_at w start ≡ 1 → i ≤ start → bit_at (bit_or w (w - 1)) i ≡ 1
filled_low w start i less one to =
    bit_at_or w (w - 1) i ∙ elim (cases_lt i start) as (λ _. max (bit_at w i) (bit_at (w - 1) i) ≡ 1) [
      | inl before ↦ omega (arith, less.ones i before, bit_at-lt w i)
      | inr after ↦
          let at : i ≡ start = omega (arith, to, after) in
          omega (arith, ap (bit_at w) at ∙ one, ap (bit_at (w - 1)) at ∙ less.unset)
    ]

filled_high : (w start i : ℕ) → LosesLowest w start → start < i → bit_at (bit_or w (w - 1)) i ≡ bit_at w i
filled_high w start i less from = bit_at_or w (w - 1) i ∙ omega (arith, less.above i from)

differ : (w v k : ℕ) → bit_at w k ≡ 1 → bit_at v k ≡ 0 → w ≡ v → ⊥
differ w v k one none same = omega (arith, one, none, ap (λ n. bit_at n k) same)

-- bits of a word that has been filled up to its lowest one, from there on up to a place
ones_from : (w start end i : ℕ) → LosesLowest w start → bit_at w start ≡ 1 → ((i : ℕ) → i < end → bit_at (bit_or w (w - 1)) i ≡ 1) → start ≤ i → i < end → bit_at w i ≡ 1
ones_from w start end i less one filled from to =
    elim (cases_lt start i) as (λ _. bit_at w i ≡ 1) [
      | inl above ↦ sym (filled_high w start i less above) ∙ filled i to
      | inr here ↦
          let at : i ≡ start = omega (arith, from, here) in
          ap (bit_at w) at ∙ one
    ]

kept_above : (w y start end i : ℕ) → LosesLowest w start → start < end → bit_at y end ≡ 1 → ((i : ℕ) → end < i → bit_at y i ≡ bit_at (bit_or w (w - 1)) i) → end ≤ i → bit_at (bit_and w y) i ≡ bit_at w i
kept_above w y start end i less rises one above from =
    bit_at_and w y i ∙ elim (cases_lt end i) as (λ _. min (bit_at w i) (bit_at y i) ≡ bit_at w i) [
      | inl behind ↦ omega (arith, above i behind, filled_high w start i less (omega (arith, rises, behind)))
      | inr here ↦
          let at : i ≡ end = omega (arith, from, here) in
          omega (arith, ap (bit_at y) at ∙ one, bit_at-lt w i)
    ]

fewer : (w y k : ℕ) → bit_at w k ≡ 1 → bit_at (bit_and w y) k ≡ 0 → bit_and w y < w
fewer w y k one none =
    elim (cases_lt (bit_and w y) w) as (λ _. bit_and w y < w) [
      | inl below ↦ below
      | inr above ↦ absurd (differ w (bit_and w y) k one none (omega (arith, above, and_le_l w y)))
    ]

-- a carry takes the run away
module _ (w : ℕ) (some : 0 < w) (small : w < 2 ^ 64) where
  part_run : (start : ℕ) → LosesLowest w start → bit_at w start ≡ 1 → ((i : ℕ) → i < start → bit_at w i ≡ 0) → bit_or w (w - 1) + 1 < 2 ^ 64 → IsLowestRun w start (trailing_ones w64 (bit_or w (w - 1))) (bit_and w (bit_or w (w - 1) + 1))
  part_run start less one below part =
      let f = bit_or w (w - 1) in
      let end = trailing_ones w64 f in
      let ends = bit_at-trailing_ones w64 f part in
      let carry = one_more f part in
      let rises : start < end = elim (cases_lt start end) as (λ _. start < end) [
        | inl before ↦ before
        | inr after ↦ absurd (omega (arith, filled_low w start end less one after, ends.1))
      ] in
      let taken : (i : ℕ) → i < end → bit_at (bit_and w (f + 1)) i ≡ 0 = λ i to. bit_at_and w (f + 1) i ∙ omega (arith, carry.below i to) in
      record {
        rises = rises;
        within = omega (arith, ends.0);
        below = below;
        ones = λ i from to. ones_from w start end i less one ends.2 from to;
        taken = taken;
        above = λ i from. kept_above w (f + 1) start end i less rises carry.one carry.above from;
        less = fewer w (f + 1) start one (taken start rises);
      }

  whole_run : (start : ℕ) → start < 64 → LosesLowest w start → bit_at w start ≡ 1 → ((i : ℕ) → i < start → bit_at w i ≡ 0) → bit_or w (w - 1) ≡ 2 ^ 64 - 1 → IsLowestRun w start 64 (bit_and w 0)
  whole_run start inside less one below all =
      let full : (i : ℕ) → i < 64 → bit_at (bit_or w (w - 1)) i ≡ 1 = λ i to. ap (λ n. bit_at n i) all ∙ bit_at_ones 64 i to in
      let none : (i : ℕ) → bit_at (bit_and w 0) i ≡ 0 = λ i. bit_at_and w 0 i ∙ omega (arith, bit_at-zero i) in
      record {
        rises = inside;
        within = omega arith;
        below = below;
        ones = λ i from to. ones_from w start 64 i less one full from to;
        taken = λ i to. none i;
        above = λ i from. none i ∙ sym (bit_at_above w 64 i small from);
        less = fewer w 0 start one (none start);
      }

  pub lowest_run : IsLowestRun w (trailing_zeros w64 w) (trailing_ones w64 (bit_or w (w - 1))) (bit_and w ((bit_or w (w - 1) + 1) % 2 ^ 64))
  lowest_run =
      let f = bit_or w (w - 1) in
      let fits : f < 2 ^ 64 = or_lt 64 w (w - 1) small (omega (arith, small)) in
      let start = trailing_zeros w64 w in
      let found = bit_at-trailing_zeros w64 w some small in
      let less = one_less w start found.2 found.1 in
      elim (cases_lt (f + 1) (2 ^ 64)) as (λ _. IsLowestRun w start (trailing_ones w64 f) (bit_and w ((f + 1) % 2 ^ 64))) [
        | inl part ↦
            let same : f + 1 ≡ (f + 1) % 2 ^ 64 = omega (arith, part) in
            subst (λ y. IsLowestRun w start (trailing_ones w64 f) (bit_and w y)) same (part_run start less found.1 found.2 part)
        | inr whole ↦
            let all : f ≡ 2 ^ 64 - 1 = omega (arith, whole, fits) in
            let none : 0 ≡ (f + 1) % 2 ^ 64 = omega (arith, all) in
            let turned : bit_not w64 f ≡ 0 = omega (arith, all) in
            let end : 64 ≡ trailing_ones w64 f = sym (trailing_of_zero 64) ∙ sym (ap (trailing_zeros w64) turned) in
            subst (λ y. IsLowestRun w start (trailing_ones w64 f) (bit_and w y)) none (subst (λ e. IsLowestRun w start e (bit_and w 0)) end (whole_run start found.0 less found.1 found.2 all))
      ]
