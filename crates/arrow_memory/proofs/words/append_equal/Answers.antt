use Rattle.arrow_memory.proofs.Common.{◌+◌, ◌-◌, ◌*◌, ◌/◌, ◌%◌, length, replicate, sym, arith, length-replicate, replicate-append-replicate}
use Rattle.arrow_memory.proofs.AppendLemmas.{appends_both, word_appends}
use Rattle.arrow_memory.proofs.words.append_equal.Goals as goal

-- the first word, whole words behind it, and what is left
pub returns-clause-appended : goal.returns-clause-appended
returns-clause-appended c =
    let bit = c.args.bit in
    let place = c.args.place in
    let old = c.args.words.now.items in
    let begun = c.append_word.new.words.items in
    let filled = c.append_equal_words.new.words.items in
    let new = c.append_word-2.new.words.items in
    let head = 64 - place % 64 in
    let whole = (c.args.count - head) / 64 in
    let tail = (c.args.count - head) % 64 in
    let behind = appends_both (λ a n. replicate n bit) (λ a n. length-replicate n bit) (λ a m n. sym (replicate-append-replicate m n bit)) in
    let front = word_appends old begun place c.equal_bits.result head (replicate head bit) c.append_word.ensures.appended c.equal_bits.ensures (length-replicate head bit) in
    let both = behind old begun filled place (64 * length begun) 0 head (64 * whole) (c.args.count - tail) front c.append_equal_words.ensures.appended (omega (arith, c.append_word.ensures.full)) (omega arith) in
    let rest = word_appends filled new (place + (c.args.count - tail)) c.equal_bits-2.result tail (replicate tail bit) c.append_word-2.ensures.appended c.equal_bits-2.ensures (length-replicate tail bit) in
    behind old filled new place (place + (c.args.count - tail)) 0 (c.args.count - tail) tail c.args.count both rest (omega arith) (omega arith)
