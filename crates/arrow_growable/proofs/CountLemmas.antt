-- Offsets of rows that are all valid.
use Rattle.arrow_growable.proofs.Common.{arith, ◌≡◌, ◌+◌, ◌-◌, ◌<◌, ◌≤◌, ℕ, zero, suc, true, List, ◌∷◌, ◌++◌, length, map, replicate, slice_index, refl, ap, ◌∙◌, IsOffsets, last_of, valid_ends, valid_items, with_valid_rows, sliced, offsets_rise, part_cut}
use Rattle.arrow_memory.specs.Offsets.{with_rows}

-- how many items they have
pub all_items_of : (n : ℕ) (os : List ℕ) (i : ℕ) → IsOffsets os → i + n < length os → valid_items (replicate n true) os i ≡ slice_index os (i + n) - slice_index os i
all_items_of zero os i held inside =
    let same : i + 0 ≡ i = omega arith in
    omega (arith, ap (slice_index os) same)
all_items_of (suc n) os i held inside =
    let next : i + 1 + n ≡ i + suc n = omega arith in
    let rest = all_items_of n os (i + 1) held (omega (arith, inside)) in
    let first = offsets_rise os i (i + 1) held (omega arith) (omega (arith, inside)) in
    let second = offsets_rise os (i + 1) (i + 1 + n) held (omega arith) (omega (arith, inside)) in
    omega (arith, ap (slice_index os) next, rest, first, second)

ends_from : (n place base : ℕ) (os : List ℕ) (i : ℕ) → IsOffsets os → i + n < length os → base ≤ slice_index os i → map (λ k. place + (k - base)) (sliced os (i + 1) n) ≡ valid_ends (place + (slice_index os i - base)) (replicate n true) os i
ends_from zero place base os i held inside low = refl
ends_from (suc n) place base os i held inside low =
    let count : suc n ≡ n + 1 = omega arith in
    let rise = offsets_rise os i (i + 1) held (omega arith) (omega (arith, inside)) in
    let here : place + (slice_index os (i + 1) - base) ≡ place + (slice_index os i - base) + (slice_index os (i + 1) - slice_index os i) = omega (arith, low, rise) in
    let rest = ends_from n place base os (i + 1) held (omega (arith, inside)) (omega (arith, low, rise)) in
    ap (map (λ k. place + (k - base))) (ap (sliced os (i + 1)) count ∙ part_cut os (i + 1) n (omega (arith, inside))) ∙ (λ t. here t ∷ (rest ∙ ap (λ p. valid_ends p (replicate n true) os (i + 1)) here) t)

-- where they end
pub all_rows_of : (own os : List ℕ) (start n : ℕ) → IsOffsets os → start + n < length os → with_rows own os start n ≡ with_valid_rows own (replicate n true) os start
all_rows_of own os start n held inside =
    let same : last_of own + (slice_index os start - slice_index os start) ≡ last_of own = omega arith in
    ap (λ ends. own ++ ends) (ends_from n (last_of own) (slice_index os start) os start held inside (omega arith) ∙ ap (λ p. valid_ends p (replicate n true) os start) same)
