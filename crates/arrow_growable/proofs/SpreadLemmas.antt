-- What rows name of a child, a run at a time.
use Rattle.arrow_growable.proofs.Common.{arith, ◌≡◌, ◌+◌, ◌-◌, ◌*◌, ◌<◌, ◌≤◌, pos, ℕ, zero, suc, Bool, true, false, List, [], ◌∷◌, ◌++◌, length, replicate, slice_index, if◌then◌else◌, refl, ap, sym, subst, ◌∙◌, mul-le-mul_right, append-nil, length-map, length-replicate, replicate-append-replicate, Slot, IsOffsets, last_of, sliced, offsets_rise, length-sliced, valid_values, run_long, NoneBeneath, Rises, spread, append_assoc, length-append}
use Rattle.arrow_flat_growable.proofs.GrownRowLemmas.{sliced-cut}

module _ (w : ℕ) (none : Slot) (place : ℕ → ℕ) (xs : List Slot) where
  -- a run of rows that are null
  pub spread_unset : (k : ℕ) (bits : List Bool) (i : ℕ) → spread w none (replicate k false ++ bits) place xs i ≡ replicate (k * w) none ++ spread w none bits place xs (i + k)
  spread_unset zero bits i =
      let same : i + 0 ≡ i = omega arith in
      let nothing : 0 * w ≡ 0 = omega arith in
      rw (same, nothing) refl
  spread_unset (suc k) bits i =
      let next : i + 1 + k ≡ i + suc k = omega arith in
      let more : w + k * w ≡ suc k * w = omega arith in
      let rest = spread w none bits place xs (i + suc k) in
      let tail : spread w none (replicate k false ++ bits) place xs (i + 1) ≡ replicate (k * w) none ++ rest = spread_unset k bits (i + 1) ∙ ap (λ j. replicate (k * w) none ++ spread w none bits place xs j) next in
      ap (λ ys. replicate w none ++ ys) tail ∙ (sym (append_assoc (replicate w none) (replicate (k * w) none) rest) ∙ ap (λ ys. ys ++ rest) (replicate-append-replicate w (k * w) none ∙ ap (λ m. replicate m none) more))

  module _ (n : ℕ) (rises : Rises place n (length xs)) where
    -- and of rows that are valid
    pub spread_set : (k : ℕ) (bits : List Bool) (i : ℕ) → i + k ≤ n → spread w none (replicate k true ++ bits) place xs i ≡ sliced xs (place i) (place (i + k) - place i) ++ spread w none bits place xs (i + k)
    spread_set zero bits i inside =
        let same : i + 0 ≡ i = omega arith in
        let nothing : place i - place i ≡ 0 = omega arith in
        rw (same, nothing) refl
    spread_set (suc k) bits i inside =
        let next : i + 1 + k ≡ i + suc k = omega arith in
        let here = place i in
        let behind = place (i + 1) in
        let end = place (i + suc k) in
        let rest = spread w none bits place xs (i + suc k) in
        let low = rises.up i (i + 1) (omega arith) (omega (arith, inside)) in
        let high = rises.up (i + 1) (i + suc k) (omega arith) inside in
        let tail : spread w none (replicate k true ++ bits) place xs (i + 1) ≡ sliced xs behind (end - behind) ++ rest = spread_set k bits (i + 1) (omega (arith, inside)) ∙ ap (λ j. sliced xs behind (place j - behind) ++ spread w none bits place xs j) next in
        ap (λ ys. sliced xs here (behind - here) ++ ys) tail ∙ (sym (append_assoc (sliced xs here (behind - here)) (sliced xs behind (end - behind)) rest) ∙ ap (λ ys. ys ++ rest) (sliced-cut xs here behind end low high))

    -- a run at the head, and the rest
    pub spread_run : (nulls count : ℕ) (old bits : List Bool) (i : ℕ) → old ≡ replicate nulls false ++ (replicate count true ++ bits) → i + length old ≤ n → spread w none old place xs i ≡ replicate (nulls * w) none ++ (sliced xs (place (i + nulls)) (place (i + nulls + count) - place (i + nulls)) ++ spread w none bits place xs (i + (nulls + count)))
    spread_run nulls count old bits i is inside =
        let long = run_long nulls count old bits is in
        let at : i + nulls + count ≡ i + (nulls + count) = omega arith in
        let part = sliced xs (place (i + nulls)) (place (i + nulls + count) - place (i + nulls)) in
        let rest : spread w none (replicate count true ++ bits) place xs (i + nulls) ≡ part ++ spread w none bits place xs (i + (nulls + count)) = spread_set count bits (i + nulls) (omega (arith, inside, long)) ∙ ap (λ j. part ++ spread w none bits place xs j) at in
        ap (λ bs. spread w none bs place xs i) is ∙ (spread_unset nulls (replicate count true ++ bits) i ∙ ap (λ ys. replicate (nulls * w) none ++ ys) rest)

    -- rows that are all valid
    pub spread_all : (k i : ℕ) → i + k ≤ n → spread w none (replicate k true) place xs i ≡ sliced xs (place i) (place (i + k) - place i)
    spread_all k i inside =
        ap (λ bs. spread w none bs place xs i) (sym (append-nil (replicate k true))) ∙ (spread_set k [] i inside ∙ append-nil (sliced xs (place i) (place (i + k) - place i)))

    -- rows of which those that are null have nothing
    pub spread_bare : (bits : List Bool) (i : ℕ) → i + length bits ≤ n → w ≡ 0 → NoneBeneath bits place i → spread w none bits place xs i ≡ sliced xs (place i) (place (i + length bits) - place i)
    spread_bare [] i inside no_slots bare =
        let same : i + 0 ≡ i = omega arith in
        let nothing : place i - place i ≡ 0 = omega arith in
        rw (same, nothing) refl
    spread_bare (true ∷ bits) i inside no_slots bare =
        let next : i + 1 + length bits ≡ i + suc (length bits) = omega arith in
        let here = place i in
        let behind = place (i + 1) in
        let end = place (i + suc (length bits)) in
        let low = rises.up i (i + 1) (omega arith) (omega (arith, inside)) in
        let high = rises.up (i + 1) (i + suc (length bits)) (omega arith) inside in
        let tail = spread_bare bits (i + 1) (omega (arith, inside)) no_slots bare.1 ∙ ap (λ j. sliced xs behind (place j - behind)) next in
        ap (λ ys. sliced xs here (behind - here) ++ ys) tail ∙ sliced-cut xs here behind end low high
    spread_bare (false ∷ bits) i inside no_slots bare =
        let next : i + 1 + length bits ≡ i + suc (length bits) = omega arith in
        let here = bare.0 refl in
        ap (λ m. replicate m none ++ spread w none bits place xs (i + 1)) no_slots ∙ (spread_bare bits (i + 1) (omega (arith, inside)) no_slots bare.1 ∙ (λ t. sliced xs (here t) (place (next t) - here t)))

    -- how many, where each row has as many as a null one
    module _ (even : (k : ℕ) → k < n → place (k + 1) ≡ place k + w) where
      length-row : (bit : Bool) (i : ℕ) → i < n → length (if bit then sliced xs (place i) (place (i + 1) - place i) else replicate w none) ≡ w
      length-row true i inside =
          let last = rises.up (i + 1) n (omega (arith, inside)) (omega arith) in
          omega (arith, even i inside, length-sliced xs (place i) (place (i + 1) - place i) (omega (arith, even i inside, last, rises.within)))
      length-row false i inside = length-replicate w none

      pub length-spread : (bits : List Bool) (i : ℕ) → i + length bits ≤ n → length (spread w none bits place xs i) ≡ length bits * w
      length-spread [] i inside = omega arith
      length-spread (bit ∷ bits) i inside =
          omega (arith, length-append (if bit then sliced xs (place i) (place (i + 1) - place i) else replicate w none) (spread w none bits place xs (i + 1)), length-row bit i (omega (arith, inside)), length-spread bits (i + 1) (omega (arith, inside)))

module _ (place : ℕ → ℕ) (n high : ℕ) (rises : Rises place n high) where
  -- a run of null rows that have nothing, and one of valid rows
  bare_unset : (k : ℕ) (bits : List Bool) (i : ℕ) → i + k ≤ n → place (i + k) ≤ place i → NoneBeneath bits place (i + k) → NoneBeneath (replicate k false ++ bits) place i
  bare_unset zero bits i inside empty bare =
      let same : i + 0 ≡ i = omega arith in
      subst (NoneBeneath bits place) same bare
  bare_unset (suc k) bits i inside empty bare =
      let next : i + suc k ≡ i + 1 + k = omega arith in
      let at = ap place next in
      let low = rises.up i (i + 1) (omega arith) (omega (arith, inside)) in
      let high = rises.up (i + 1) (i + 1 + k) (omega arith) (omega (arith, inside)) in
      (λ unset. omega (arith, low, high, empty, at), bare_unset k bits (i + 1) (omega (arith, inside)) (omega (arith, low, empty, at)) (subst (NoneBeneath bits place) next bare))

  bare_set : (k : ℕ) (bits : List Bool) (i : ℕ) → NoneBeneath bits place (i + k) → NoneBeneath (replicate k true ++ bits) place i
  bare_set zero bits i bare =
      let same : i + 0 ≡ i = omega arith in
      subst (NoneBeneath bits place) same bare
  bare_set (suc k) bits i bare =
      let next : i + suc k ≡ i + 1 + k = omega arith in
      (λ unset. absurd cc, bare_set k bits (i + 1) (subst (NoneBeneath bits place) next bare))

  pub bare_run : (nulls count : ℕ) (old bits : List Bool) (i : ℕ) → old ≡ replicate nulls false ++ (replicate count true ++ bits) → i + length old ≤ n → place (i + nulls) ≤ place i → NoneBeneath bits place (i + (nulls + count)) → NoneBeneath old place i
  bare_run nulls count old bits i is inside empty bare =
      let long = run_long nulls count old bits is in
      let at : i + (nulls + count) ≡ i + nulls + count = omega arith in
      subst (λ bs. NoneBeneath bs place i) (sym is) (bare_unset nulls (replicate count true ++ bits) i (omega (arith, inside, long)) empty (bare_set count bits (i + nulls) (subst (NoneBeneath bits place) at bare)))

-- of lists: no null row has an item
pub spread-valid : (none : Slot) (bits : List Bool) (os : List ℕ) (xs : List Slot) (i : ℕ) → spread 0 none bits (slice_index os) xs i ≡ valid_values bits os xs i
spread-valid none [] os xs i = refl
spread-valid none (bit ∷ bits) os xs i =
    ap (λ ys. (if bit then sliced xs (slice_index os i) (slice_index os (i + 1) - slice_index os i) else []) ++ ys) (spread-valid none bits os xs (i + 1))

-- places by offsets, and by a size
pub offset_places : (os : List ℕ) → IsOffsets os → Rises (slice_index os) (length os - 1) (last_of os)
offset_places os held =
    let some : 0 < length os = omega (arith, held.some, length-map os pos) in
    record { up = λ i j order high. offsets_rise os i j held order (omega (arith, some, high)); within = omega arith }

pub size_places : (s n high : ℕ) → n * s ≤ high → Rises (λ k. k * s) n high
size_places s n high within = record { up = λ i j order below. mul-le-mul_right s order; within = within }

-- one row of the child each
pub row_places : (n high : ℕ) → n ≤ high → Rises (λ k. k) n high
row_places n high within = record { up = λ i j order below. order; within = within }
