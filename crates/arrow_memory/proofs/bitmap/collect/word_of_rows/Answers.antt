use Rattle.arrow_memory.proofs.Common.{◌-◌, ◌*◌, arith, min}
use Rattle.arrow_memory.proofs.GatherLemmas.{gathers_all, gathers_both}
use Rattle.arrow_memory.proofs.bitmap.collect.word_of_rows.Goals as goal

pub returns : goal.returns
returns g c =
    let both = gathers_both _ (64 * c.args.j) c.from.result c.from-2.result (rw c.from.ensures c.half_of_rows-low.ensures) (rw c.from-2.ensures c.half_of_rows-high.ensures) in
    gathers_all _ (64 * c.args.j) 64 (min 64 (c.args.len - 64 * c.args.j)) _ (omega (arith, c.if-len-start-lt-WORD_BITS.false)) both
