use Rattle.std.proofs.lemmas.Simd.{map-map}
use Rattle.arrow_compare.proofs.comparison.neq_scalar_and_validity.Goals as goal

pub returns : goal.returns
returns c = record {
  array_type = c.not.ensures.array_type;
  rows = rw (c.in_ok-same_scalar.ensures.rows, map-map) at c.not.ensures.rows;
  err = c.not.ensures.err;
}
