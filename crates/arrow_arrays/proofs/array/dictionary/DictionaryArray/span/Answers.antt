use Rattle.arrow_arrays.proofs.KeyLemmas.{key_below}
use Rattle.arrow_arrays.proofs.array.dictionary.DictionaryArray.span.Goals as goal

pub returns-clause-within : goal.returns-clause-within
returns-clause-within c =
    rw (← c.self.view_is) (key_below _ _ c.args.i c.in_ok-key.key c.self.invariant.within c.in_ok-key.ensures)
