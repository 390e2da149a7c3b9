use Rattle.arrow_relate.proofs.SameLemmas.{finished_row}
use Rattle.arrow_relate.proofs.fixed.EqualSameness.shows_rows.Goals as goal

pub returns : goal.returns
returns c = λ p q s r b is. finished_row p q s r b is
