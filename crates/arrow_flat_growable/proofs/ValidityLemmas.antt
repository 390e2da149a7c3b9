-- Bits that are kept only where one of them may not be set.
use Rattle.arrow_flat_growable.proofs.Common.{arith, ◌≡◌, ◌+◌, ◌≤◌, ℕ, Bool, true, List, ◌++◌, Option, Some, None, length, replicate, refl, ap, sym, ◌∙◌, option_map, IfSome, IsSomeAnd, length-replicate, replicate-append-replicate, AppendsValidity}
use Rattle.std.specs.Prelude.{◌^◌}
use Rattle.std.proofs.lemmas.List.{length-append}

-- bits that are set come behind others, whether these are kept or not
pub set_appended : (old new : Option (List Bool)) (n len : ℕ) → new ≡ option_map (λ bits. bits ++ replicate len true) old → IfSome old (λ bits. length bits ≡ n) → AppendsValidity old new n (replicate len true)
set_appended None new n len is counted =
    (rw (is, length-replicate len true) (sym (replicate-append-replicate n len true)), rw is tt)
set_appended (Some bits) new n len is counted =
    (rw is refl, rw is (length-append bits (replicate len true) ∙ ap (λ k. k + length (replicate len true)) counted))

-- more of them than can be counted
pub set_overflows : (old : Option (List Bool)) (n len : ℕ) → IfSome old (λ bits. length bits ≡ n) → IsSomeAnd old (λ bits. 2 ^ 64 ≤ length bits + len) → 2 ^ 64 ≤ n + len
set_overflows None n len counted more = absurd more
set_overflows (Some bits) n len counted more = omega (arith, counted, more)
