use Rattle.arrow_growable.proofs.GrownLemmas.{counts}
use Rattle.arrow_growable.proofs.growable.nested.GrowableNestedGrowable.len.Goals as goal

pub returns-clause-rows : goal.returns-clause-rows
returns-clause-rows c =
    rw (← c.self.view_is) (λ well. counts _ _ _ _ _ (c.self.invariant.holds well))
