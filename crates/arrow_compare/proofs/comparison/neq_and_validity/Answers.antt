use Rattle.arrow_compare.proofs.PairLemmas.{differs_turned}
use Rattle.arrow_compare.proofs.comparison.neq_and_validity.Goals as goal

pub returns : goal.returns
returns c = record {
  array_type = c.not.ensures.array_type;
  rows = rw (differs_turned, ← c.in_ok-same.ensures.rows) c.not.ensures.rows;
  err = c.not.ensures.err;
}
