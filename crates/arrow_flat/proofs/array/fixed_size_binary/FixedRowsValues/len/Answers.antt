use Rattle.std.proofs.Common.{sym}
use Rattle.arrow_flat.proofs.FixedLemmas.{length-fixed_slots}
use Rattle.arrow_flat.proofs.array.fixed_size_binary.FixedRowsValues.len.Goals as goal

pub returns : goal.returns
returns c =
    rw (← c.self.view_is) (sym (length-fixed_slots (record { size = c.self.inside.size; count = c.self.inside.count; bytes = c.self.inside.bytes })))
