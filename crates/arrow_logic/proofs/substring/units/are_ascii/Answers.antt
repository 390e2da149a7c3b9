use Rattle.arrow_logic.proofs.Common.{◌≡◌, ◌∙◌, ◌<◌, arith, lt-ltb, ltb-true, subst, sym, at_drop_all}
use Rattle.arrow_logic.proofs.TextLemmas.{each_low, low_together, together}
use Rattle.arrow_logic.proofs.substring.units.are_ascii.Goals as goal

pub returns : goal.returns
returns c =
    let bytes = c.args.bytes.now in
    let n = c.loop-byte.together in
    let all : n ≡ together 0 bytes = sym (at_drop_all (together n) bytes c.loop-byte.byte-index (omega arith)) ∙ c.loop-byte.invariant in (
      (λ low. (each_low 0 bytes (subst (λ t. t < 128) all (ltb-true n 128 low))).1),
      (λ ascii. lt-ltb n 128 (subst (λ t. t < 128) (sym all) (low_together 0 bytes (omega arith) ascii))),
    )
