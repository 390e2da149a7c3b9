use Rattle.arrow_growable.proofs.UnionStructLemmas.{held_counted}
use Rattle.arrow_growable.proofs.growable.union.GrowableUnionGrowable.len.Goals as goal

pub returns-clause-rows : goal.returns-clause-rows
returns-clause-rows c =
    rw (← c.self.view_is) (λ well. held_counted _ _ _ _ _ _ _ c.self.invariant well)
