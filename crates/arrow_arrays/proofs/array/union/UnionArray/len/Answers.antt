use Rattle.std.proofs.Common.{sym, ◌∙◌}
use Rattle.arrow_arrays.proofs.UnionLemmas.{length-union_rows}
use Rattle.arrow_arrays.proofs.array.union.UnionArray.len.Goals as goal

pub returns-clause-rows : goal.returns-clause-rows
returns-clause-rows c =
    rw (← c.self.view_is) (c.len.ensures ∙ sym (length-union_rows _ c.self.invariant))
