use Rattle.std.proofs.Common.{sym, ◌∙◌}
use Rattle.arrow_arrays.proofs.FixedLemmas.{null_count-fixed}
use Rattle.arrow_arrays.proofs.array.fixed_size_list.FixedSizeListArray.null_count.Goals as goal

pub returns : goal.returns
returns c =
    rw (← c.self.view_is) (c.unset_bits.ensures ∙ sym (null_count-fixed _ c.self.invariant))
