use Rattle.arrow_flat_growable.proofs.Common.{arith, ap, length, row_bytes, length-pieces}
use Rattle.arrow_flat_growable.proofs.WaitingLemmas.{bound_at}
use Rattle.arrow_flat_growable.proofs.growable.waiting.bytes_between.Goals as goal

pub range-first-requires : goal.range-first-requires
range-first-requires g c =
    let array = c.index-arrays-index in
    let rows = array.result.values in
    let same = bound_at (λ x. x.values) c.args.arrays.now c.args.index array.result c.requires.bound array.is in
    omega (arith, c.requires.some, c.requires.within, ap (λ p. length (row_bytes p)) same, length-pieces rows.offsets rows.bytes, ap length c.offsets.ensures)
