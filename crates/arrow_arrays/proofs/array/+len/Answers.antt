use Rattle.std.proofs.Common.{sym, ◌∙◌}
use Rattle.arrow_arrays.specs.Any.{layout_of}
use Rattle.arrow_arrays.proofs.FixedLemmas.{length-fixed_list_rows}
use Rattle.arrow_arrays.proofs.StructLemmas.{first_rows, length-struct_rows}
use Rattle.arrow_arrays.proofs.array.+len.Goals as goal

pub fixed_size_list::FixedSizeListArray::len-returns-clause-rows : goal.fixed_size_list::FixedSizeListArray::len-returns-clause-rows
fixed_size_list::FixedSizeListArray::len-returns-clause-rows t c =
    rw (← c.self.view_is, c.len.ensures, c.deref.ensures) (sym (length-fixed_list_rows _ c.self.invariant))

pub struct_::StructArray::len-returns-clause-rows : goal.struct_::StructArray::len-returns-clause-rows
struct_::StructArray::len-returns-clause-rows t c =
    rw (← c.self.view_is) (c.len.ensures ∙ (first_rows layout_of c.self.inside.values.items _ c.self.invariant.some c.index.ensures ∙ sym (length-struct_rows _ c.self.invariant)))
