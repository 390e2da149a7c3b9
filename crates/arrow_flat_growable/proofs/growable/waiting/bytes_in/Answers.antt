use Rattle.arrow_flat_growable.proofs.Common.{arith, length, ap, subst, IsOffsets}
use Rattle.arrow_flat_growable.proofs.WaitingLemmas.{rows_few}
use Rattle.arrow_flat_growable.proofs.growable.waiting.bytes_in.Goals as goal

pub returns : goal.returns
returns g c =
    let array = c.args.array.now.values in
    omega (arith, c.len-2.ensures, ap length c.values.ensures.same, rows_few array.offsets array.bytes (subst IsOffsets c.offsets.ensures c.len.ensures.sound) c.values.ensures.within)
