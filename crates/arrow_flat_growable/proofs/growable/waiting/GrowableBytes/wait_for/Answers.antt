use Rattle.arrow_flat_growable.proofs.Common.{arith, ap, total, row_bytes, bits_of_slice}
use Rattle.arrow_flat_growable.proofs.WaitingLemmas.{filled_few}
use Rattle.arrow_flat_growable.proofs.growable.waiting.GrowableBytes.wait_for.Goals as goal

pub wait-requires-clause-few : goal.wait-requires-clause-few
wait-requires-clause-few g c =
    let array = c.args.array.now in
    omega (arith, c.bytes_in.ensures, ap total (c.few_rows.ensures c.args.self.now.0 c.requires.bound).1, filled_few (bits_of_slice array.validity c.args.start c.args.len) (row_bytes array.values) c.args.start c.args.len)
