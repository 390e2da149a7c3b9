use Rattle.std.proofs.Common.{sym, ◌∙◌}
use Rattle.arrow_arrays.proofs.StructLemmas.{null_count-struct}
use Rattle.arrow_arrays.proofs.array.struct_.StructArray.null_count.Goals as goal

pub returns : goal.returns
returns c =
    rw (← c.self.view_is) (c.unset_bits.ensures ∙ sym (null_count-struct _ c.self.invariant))
