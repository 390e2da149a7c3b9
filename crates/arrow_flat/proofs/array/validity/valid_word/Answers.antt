use Rattle.std.proofs.Common.{◌∙◌, ◌+◌, ◌*◌, ap, option_copied, sym}
use Rattle.std.specs.Prelude.{◌==◌}
use Rattle.std.proofs.lemmas.Nat.Bits.{bit_at_ones}
use Rattle.arrow_types.specs.Rows.{valid_at}
use Rattle.arrow_flat.proofs.array.validity.valid_word.Goals as goal

pub returns-in-None : goal.returns-in-None
returns-in-None c = λ k below within.
    ap (λ b. b == 1) (bit_at_ones 64 k below) ∙ ap (λ v. valid_at (option_copied v) (64 * c.args.j + k)) (sym c.in-None.is)
