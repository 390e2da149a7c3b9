use Rattle.arrow_arrays.specs.Any.{any_array_rows}
use Rattle.arrow_relate.specs.Related.{relation_of}
use Rattle.arrow_compare.proofs.PairLemmas.{related_nulls}
use Rattle.arrow_compare.proofs.comparison.scalars.relate_scalar.Goals as goal

pub returns-in-None-clause-rows : goal.returns-in-None-clause-rows
returns-in-None-clause-rows c =
    rw (c.in-None.ensures, related_nulls (relation_of c.args.by) (any_array_rows c.args.lhs.now), ← c.len.ensures) c.all_null.ensures.rows
