use Rattle.arrow_memory.proofs.Common.{◌-◌, ◌*◌, ◌/◌, ◌%◌, length, arith, bits_in}
use Rattle.arrow_memory.proofs.AppendLemmas.{appends_both}
use Rattle.arrow_memory.proofs.WordLemmas.{length-bits_in, bits_in-add}
use Rattle.arrow_memory.proofs.words.append_more.Goals as goal

-- as many as fill the last word, whole words behind them, and what is left
pub returns-clause-appended : goal.returns-clause-appended
returns-clause-appended c =
    let others = c.args.others.now in
    let from = c.args.from in
    let place = c.args.place in
    let len = c.args.len in
    let old = c.args.words.now.items in
    let filled = c.fill_from.new.words.items in
    let whole_words = c.append_words.new.words.items in
    let new = c.push_from.new.words.items in
    let head = (64 - place % 64) % 64 in
    let whole = (len - head) / 64 in
    let tail = (len - head) % 64 in
    let both = appends_both (bits_in others) (length-bits_in others) (bits_in-add others) old filled whole_words place (64 * length filled) from head (64 * whole) (len - tail) c.fill_from.ensures.appended c.append_words.ensures.appended (omega (arith, c.fill_from.ensures.full)) (omega (arith, c.requires.many)) in
    appends_both (bits_in others) (length-bits_in others) (bits_in-add others) old whole_words new place (64 * length whole_words) from (len - tail) tail len both c.push_from.ensures.appended (omega (arith, c.append_words.ensures.long, c.fill_from.ensures.full, c.requires.many)) (omega (arith, c.requires.many))
