use Rattle.arrow_logic.proofs.Common.{◌≡◌, ◌+◌, ◌*◌, ◌==◌, ap, option_copied, subst, sym, bit_at, bit_at_ones, valid_at}
use Rattle.arrow_logic.proofs.length.word_of_rows.Goals as goal

pub returns-in-None : goal.returns-in-None
returns-in-None c = λ k below some. subst (λ v. (bit_at 18446744073709551615 k == 1) ≡ valid_at (option_copied v) (64 * c.args.j + k)) (sym c.in-None.is) (ap (λ bit. bit == 1) (bit_at_ones 64 k below))
