use Rattle.arrow_flat_growable.proofs.Common.{◌∙◌, ◌+◌, ◌<◌, ap, arith, length, option_copied, subst, sym, IfSome, bit_at_ones, valid_at}
use Rattle.std.specs.Prelude.{◌==◌}
use Rattle.arrow_flat_growable.proofs.MovedLemmas.{half_marks}
use Rattle.arrow_flat_growable.proofs.growable.keys.moved.valid_half.Goals as goal

pub returns-in-Some : goal.returns-in-Some
returns-in-Some c = λ k below within.
    let there = subst (λ v. IfSome (option_copied v) (λ bits. c.args.row + k < length bits)) c.in-Some.is within in
    half_marks c.in-Some.bits.now c.word.result c.low_half.result c.args.row c.low_half.ensures c.word.ensures.each k below there ∙ ap (λ v. valid_at (option_copied v) (c.args.row + k)) (sym c.in-Some.is)

pub returns-in-None : goal.returns-in-None
returns-in-None c = λ k below within.
    ap (λ b. b == 1) (bit_at_ones 32 k (omega (arith, below))) ∙ ap (λ v. valid_at (option_copied v) (c.args.row + k)) (sym c.in-None.is)
