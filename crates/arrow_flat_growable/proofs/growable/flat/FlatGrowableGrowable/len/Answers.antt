use Rattle.arrow_flat_growable.proofs.FlatLemmas.{counts_rows}
use Rattle.arrow_flat_growable.proofs.growable.flat.FlatGrowableGrowable.len.Goals as goal

pub returns-clause-rows : goal.returns-clause-rows
returns-clause-rows g c =
    rw (← c.self.view_is) (counts_rows c.self.invariant)
