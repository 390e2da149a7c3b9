use Rattle.arrow_arrays.proofs.FixedLemmas.{fixed_rows_whole}
use Rattle.arrow_arrays.proofs.array.fixed_size_list.FixedSizeListArray.values.Goals as goal

pub returns-clause-whole : goal.returns-clause-whole
returns-clause-whole c =
    rw (← c.self.view_is) (fixed_rows_whole _ c.self.invariant)
