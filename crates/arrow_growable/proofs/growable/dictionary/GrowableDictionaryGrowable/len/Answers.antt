use Rattle.arrow_growable.proofs.DictionaryLemmas.{rows_counted}
use Rattle.arrow_growable.proofs.growable.dictionary.GrowableDictionaryGrowable.len.Goals as goal

pub returns-clause-rows : goal.returns-clause-rows
returns-clause-rows c =
    rw (← c.self.view_is) (λ well. rows_counted _ _ _ _ _ (c.self.invariant.0.holds well))
