use Rattle.arrow_relate.proofs.SameLemmas.{finished_other}
use Rattle.arrow_relate.proofs.fixed.NotEqualSameness.shows_rows.Goals as goal

pub returns : goal.returns
returns c = λ p q s r b is. finished_other p q s r b is
