use Rattle.arrow_logic.proofs.Common.{map}
use Rattle.arrow_logic.proofs.BatchLemmas.{pairs_by_batch}
use Rattle.arrow_logic.proofs.laws.row_by_row_goes_by_batches.Goals as goal

pub returns : goal.returns
returns g c = pairs_by_batch (map (λ batch. g.L.Rows.rows batch.now) c.args.lhs.now) (map (λ batch. g.R.Rows.rows batch.now) c.args.rhs.now) c.requires
