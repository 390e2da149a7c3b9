use Rattle.std.proofs.Common.{sym}
use Rattle.arrow_flat.proofs.LengthLemmas.{length_at}
use Rattle.arrow_flat.proofs.array.byte_rows.row_len.Goals as goal

pub returns : goal.returns
returns g c = rw (c.start_end-start.ensures.start, c.start_end-start.ensures.end) (sym (length_at c.args.offsets.now c.args.i c.requires))
