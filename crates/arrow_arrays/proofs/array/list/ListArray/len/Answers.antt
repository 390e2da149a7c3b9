use Rattle.std.proofs.Common.{arith}
use Rattle.arrow_arrays.proofs.ListLemmas.{length-list_rows}
use Rattle.arrow_arrays.proofs.array.list.ListArray.len.Goals as goal

pub returns-clause-rows : goal.returns-clause-rows
returns-clause-rows c =
    rw (← c.self.view_is) (omega (arith, c.len.ensures.count, length-list_rows _ c.self.invariant))
