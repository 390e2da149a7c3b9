use Rattle.std.proofs.Common.{sym, ◌∙◌}
use Rattle.arrow_arrays.proofs.KeyLemmas.{null_count-keyed}
use Rattle.arrow_arrays.proofs.array.dictionary.DictionaryArray.null_count.Goals as goal

pub returns : goal.returns
returns c =
    rw (← c.self.view_is) (c.null_count.ensures ∙ sym (null_count-keyed _ _ _ c.self.invariant.within))
