use Rattle.std.proofs.Common.{sym, ◌∙◌}
use Rattle.arrow_arrays.proofs.ListLemmas.{null_count-list}
use Rattle.arrow_arrays.proofs.array.map.MapArray.null_count.Goals as goal

pub returns : goal.returns
returns c =
    rw (← c.self.view_is) (c.unset_bits.ensures ∙ sym (null_count-list _ c.self.invariant))
