use Rattle.arrow_memory.proofs.Common.{◌<◌, ◌%◌, arith, sym, one_shl, and_mask}
use Rattle.arrow_memory.proofs.WordLemmas.{set_count-below}
use Rattle.arrow_memory.proofs.words.count_ones_below.Goals as goal

pub returns : goal.returns
returns c =
    let place = c.args.place in
    let within : place % 64 < 64 = omega arith in
    rw (one_shl (place % 64) 64 within, and_mask, c.word_at.ensures) (sym (set_count-below c.args.words.now place))
