-- A number of 256 bits gives its halves back, and compares as they do.
use Rattle.std.specs.Prelude.{◌≡◌, ℕ, ◌+◌, ◌-◌, ◌*◌, ◌^◌, ◌<◌, ℤ, pos, negsuc, ◌<ℤ◌, refl}
use Rattle.std.specs.declared.cmp.Ordering.{Ordering}
use Rattle.std.specs.declared.cmp.Ordering.TheVariants.{Less, Equal, Greater}
use Rattle.std.specs.Cmp.{int_cmp_is, int_ranks}
use Rattle.std.specs.Ordering.{MatchOrdering, nat_cmp, int_cmp, ordering_then}
use Rattle.std.proofs.Common.{arith, ap, ◌∙◌}
use Rattle.std.proofs.lemmas.Cmp.{ranked}
use Rattle.std.proofs.lemmas.Int.{ints}
use Rattle.std.proofs.lemmas.Nat.{div-mul-add, mod-mul-add}
use Rattle.arrow_types.specs.Wide.{wide, high_half, low_half}

-- the two signs of the high half
wide-pos : (h l : ℕ) → wide (pos h) l ≡ pos (h * 2 ^ 128 + l)
wide-pos h l = omega (arith, ints)

wide-negsuc : (h l : ℕ) → l < 2 ^ 128 → wide (negsuc h) l ≡ negsuc (h * 2 ^ 128 + (2 ^ 128 - 1 - l))
wide-negsuc h l low = omega (arith, ints)

-- the halves come back
pub high_half-wide : (high : ℤ) (low : ℕ) → low < 2 ^ 128 → high_half (wide high low) ≡ high
high_half-wide (pos h) l low = ap high_half (wide-pos h l) ∙ ap pos (div-mul-add h (2 ^ 128) l low)
high_half-wide (negsuc h) l low = ap high_half (wide-negsuc h l low) ∙ ap negsuc (div-mul-add h (2 ^ 128) (2 ^ 128 - 1 - l) (omega arith))

pub low_half-wide : (high : ℤ) (low : ℕ) → low < 2 ^ 128 → low_half (wide high low) ≡ low
low_half-wide (pos h) l low = ap low_half (wide-pos h l) ∙ mod-mul-add h (2 ^ 128) l low
low_half-wide (negsuc h) l low = ap low_half (wide-negsuc h l low) ∙ omega (arith, mod-mul-add h (2 ^ 128) (2 ^ 128 - 1 - l) (omega arith))

-- the high halves decide, and the low ones where those are equal
ranked_by_halves : (o p : Ordering) (h g : ℤ) (l m : ℕ) → l < 2 ^ 128 → m < 2 ^ 128 → MatchOrdering o (h <ℤ g) (h ≡ g) (g <ℤ h) → MatchOrdering p (l < m) (l ≡ m) (m < l)
    → MatchOrdering (ordering_then o p) (wide h l <ℤ wide g m) (wide h l ≡ wide g m) (wide g m <ℤ wide h l)
ranked_by_halves Less p h g l m low other high lows = omega (arith, ints)
ranked_by_halves Greater p h g l m low other high lows = omega (arith, ints)
ranked_by_halves Equal Less h g l m low other high lows = omega (arith, ints)
ranked_by_halves Equal Equal h g l m low other high lows = omega (arith, ints)
ranked_by_halves Equal Greater h g l m low other high lows = omega (arith, ints)

-- so the order of the halves is that of the numbers
pub int_cmp-wide : (h g : ℤ) (l m : ℕ) → l < 2 ^ 128 → m < 2 ^ 128 → ordering_then (int_cmp h g) (nat_cmp l m) ≡ int_cmp (wide h l) (wide g m)
int_cmp-wide h g l m low other =
    int_cmp_is (wide h l) (wide g m) (ordering_then (int_cmp h g) (nat_cmp l m)) (ranked_by_halves (int_cmp h g) (nat_cmp l m) h g l m low other (int_ranks h g) (ranked l m (nat_cmp l m) refl))
