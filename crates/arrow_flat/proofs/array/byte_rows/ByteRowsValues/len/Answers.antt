use Rattle.std.proofs.Common.{arith}
use Rattle.arrow_flat.proofs.PieceLemmas.{length-byte_slots}
use Rattle.arrow_flat.proofs.array.byte_rows.ByteRowsValues.len.Goals as goal

pub returns : goal.returns
returns g c =
    let rows = length-byte_slots g.K.ByteKind.slot (record { offsets = c.self.inside.offsets; bytes = c.self.inside.bytes }) in
    rw (← c.self.view_is) (omega (arith, c.len.ensures.count, rows))
