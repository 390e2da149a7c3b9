use Rattle.arrow_flat_growable.proofs.Common.{arith, ap, length, total, row_bytes}
use Rattle.arrow_flat_growable.proofs.WaitingLemmas.{filled_few}
use Rattle.arrow_flat_growable.proofs.growable.waiting.GrowableBytes.wait_under.Goals as goal

pub wait-requires-clause-wait : goal.wait-requires-clause-wait
wait-requires-clause-wait g c = (c.rows_under.ensures c.args.array.now.values c.requires.within c.args.self.now.0 c.requires.bound).0

pub wait-requires-clause-few : goal.wait-requires-clause-few
wait-requires-clause-few g c =
    let array = c.args.array.now.values in
    omega (arith, c.bytes_in.ensures, ap total (c.rows_under.ensures array c.requires.within c.args.self.now.0 c.requires.bound).1, filled_few c.args.bits.now (row_bytes array) c.args.start (length c.args.bits.now))
