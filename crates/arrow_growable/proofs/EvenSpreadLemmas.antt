-- What fixed-size lists name of a child, as rows of it under their own validity, each bit for as many items.
use Rattle.arrow_growable.proofs.Common.{arith, ◌≡◌, ◌+◌, ◌-◌, ◌*◌, ◌≤◌, ℕ, zero, suc, Bool, true, false, List, [], ◌∷◌, ◌++◌, length, replicate, if◌then◌else◌, refl, ap, sym, ◌∙◌, flat_map-cons, add-mul, length-replicate, mask, Slot, Null, null_slot, sliced, length-sliced, sliced-cut, Grown, BindsRows, bound_rows, spread, AreEven, AreSpans, span_count, span_nulls, span_place, Spans, flat_map, length-append}
use Rattle.arrow_growable.specs.declared.growable.spans.Spans.TheVariants.{FixedSize}
use Rattle.arrow_growable.proofs.StepLemmas.{rises_in}

-- rows under equal bits, before others
mask_run : (bit : Bool) (w : ℕ) (bits : List Bool) (xs ys : List Slot) → length xs ≡ w → mask (replicate w bit ++ bits) (xs ++ ys) ≡ (if bit then xs else replicate w Null) ++ mask bits ys
mask_run bit zero bits (x ∷ xs) ys same = absurd (omega (arith, same))
mask_run bit (suc w) bits [] ys same = absurd (omega (arith, same))
mask_run true (suc w) bits (x ∷ xs) ys same = ap (λ rest. x ∷ rest) (mask_run true w bits xs ys (omega (arith, same)))
mask_run false (suc w) bits (x ∷ xs) ys same =
    ap (λ rest. Null ∷ rest) (mask_run false w bits xs ys (omega (arith, same)))
mask_run true zero bits [] ys same = refl
mask_run false zero bits [] ys same = refl

spread_even : (w : ℕ) (bits : List Bool) (xs : List Slot) (i : ℕ) → i * w + length bits * w ≤ length xs → spread w Null bits (λ k. k * w) xs i ≡ mask (flat_map (replicate w) bits) (sliced xs (i * w) (length bits * w))
spread_even w [] xs i inside = refl
spread_even w (bit ∷ bits) xs i inside =
    let n = length bits in
    let one : suc n ≡ 1 + n = omega arith in
    let count : suc n * w ≡ w + n * w = ap (λ k. k * w) one ∙ (add-mul 1 n w ∙ omega arith) in
    let next : (i + 1) * w ≡ i * w + w = add-mul i 1 w ∙ omega arith in
    let here : (i + 1) * w - i * w ≡ w = omega (arith, next) in
    let part = sliced xs (i * w) w in
    let tail : spread w Null bits (λ k. k * w) xs (i + 1) ≡ mask (flat_map (replicate w) bits) (sliced xs (i * w + w) (n * w)) = spread_even w bits xs (i + 1) (omega (arith, inside, count, next)) ∙ ap (λ place. mask (flat_map (replicate w) bits) (sliced xs place (n * w))) next in
    let long : length part ≡ w = length-sliced xs (i * w) w (omega (arith, inside, count)) in
    (λ j. (if bit then sliced xs (i * w) (here j) else replicate w Null) ++ tail j) ∙ (sym (mask_run bit w (flat_map (replicate w) bits) part (sliced xs (i * w + w) (n * w)) long) ∙ (λ j. mask (sym (flat_map-cons (replicate w) bit bits) j) ((sym (sliced-cut xs (i * w) w (n * w)) ∙ ap (sliced xs (i * w)) (sym count)) j)))

-- what they name
pub even_named : (spans : Spans) (bits : List Bool) (xs : List Slot) (start : ℕ) → AreEven spans → span_place spans start + length bits * span_nulls spans ≤ length xs → spread (span_nulls spans) Null bits (span_place spans) xs start ≡ mask (flat_map (replicate (span_nulls spans)) bits) (sliced xs (span_place spans start) (length bits * span_nulls spans))
even_named (FixedSize size items) bits xs start even inside = spread_even size bits xs start inside
even_named spans bits xs start even inside = absurd even

-- where they lie
pub even_place : (spans : Spans) (i n : ℕ) → AreEven spans → span_place spans (i + n) ≡ span_place spans i + n * span_nulls spans
even_place (FixedSize size items) i n even = add-mul i n size
even_place spans i n even = absurd even

repeated_long : (w : ℕ) (bits : List Bool) → length (flat_map (replicate w) bits) ≡ length bits * w
repeated_long w [] = omega arith
repeated_long w (bit ∷ bits) =
    let n = length bits in
    let one : 1 + n ≡ suc n = omega arith in
    let sum : w + n * w ≡ (1 + n) * w = omega (arith, add-mul 1 n w) in
    ap length (flat_map-cons (replicate w) bit bits) ∙ (length-append (replicate w bit) (flat_map (replicate w) bits) ∙ (omega (arith, length-replicate w bit, repeated_long w bits) ∙ (sum ∙ ap (λ k. k * w) one)))

-- how many they are
pub even_count : (spans : Spans) (bits own : List Bool) (start : ℕ) → AreEven spans → own ≡ flat_map (replicate (span_nulls spans)) bits → span_place spans start + length own ≡ span_place spans (start + length bits)
even_count spans bits own start even is =
    omega (arith, ap length is, repeated_long (span_nulls spans) bits, even_place spans start (length bits) even)

-- as rows under the bits of each item
pub even_under : (spans : Spans) (bits own : List Bool) (xs : List Slot) (none : Slot) (start first : ℕ) → AreEven spans → own ≡ flat_map (replicate (span_nulls spans)) bits → first ≡ span_place spans start → none ≡ Null → span_place spans (start + length bits) ≤ length xs → mask own (sliced xs first (length own)) ≡ spread (span_nulls spans) none bits (span_place spans) xs start
even_under spans bits own xs none start first even is at null inside =
    let long : length own ≡ length bits * span_nulls spans = ap length is ∙ repeated_long (span_nulls spans) bits in
    let named = even_named spans bits xs start even (omega (arith, inside, even_place spans start (length bits) even)) in
    (λ j. mask (is j) (sliced xs (at j) (long j))) ∙ (sym named ∙ ap (λ x. spread (span_nulls spans) x bits (span_place spans) xs start) (sym null))

-- items of `len` lists from row `start` on: where they lie in a child that is bound, and what they are
module _ (spans : Spans) (g : Grown) (i start len first times : ℕ) (valid own : List Bool) (even : AreEven spans) (sound : AreSpans spans) (part : start + len ≤ span_count spans) (covered : start + len ≤ length valid) (bound : BindsRows g i (span_place spans (span_count spans))) (size : times ≡ span_nulls spans) (made : own ≡ flat_map (replicate times) (sliced valid start len)) (at : first ≡ span_place spans start) where
  abbrev bits : List Bool
  bits = sliced valid start len

  own_is : own ≡ flat_map (replicate (span_nulls spans)) bits
  own_is = made ∙ ap (λ n. flat_map (replicate n) bits) size

  last_inside : span_place spans (start + length bits) ≤ span_place spans (span_count spans)
  last_inside =
      let long = length-sliced valid start len covered in
      (rises_in spans g i sound bound).up (start + length bits) (span_count spans) (omega (arith, long, part)) (omega arith)

  pub items_bound : BindsRows g i (first + length own)
  items_bound =
      let count = even_count spans bits own start even own_is in
      record { layouts = bound.layouts; sources = bound.sources; bound = bound.bound; within = omega (arith, count, at, last_inside, bound.within) }

  pub items_named : null_slot g.arrow_type ≡ Null → mask own (sliced (bound_rows g i) first (length own)) ≡ spread (span_nulls spans) (null_slot g.arrow_type) bits (span_place spans) (bound_rows g i) start
  items_named null =
      even_under spans bits own (bound_rows g i) (null_slot g.arrow_type) start first even own_is at null (omega (arith, last_inside, (rises_in spans g i sound bound).within))
