use Rattle.arrow_logic.proofs.Common.{map}
use Rattle.arrow_logic.proofs.BatchLemmas.{each_by_batch}
use Rattle.arrow_logic.proofs.laws.each_row_goes_by_batches.Goals as goal

pub returns : goal.returns
returns g c = each_by_batch (map (λ batch. g.A.Rows.rows batch.now) c.args.batches.now)
