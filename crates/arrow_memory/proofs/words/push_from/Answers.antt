use Rattle.arrow_memory.proofs.Common.{◌*◌, [], ◌∷◌, arith, length, bits_in}
use Rattle.arrow_memory.proofs.AppendLemmas.{appends_none, reads_join, reads_word}
use Rattle.arrow_memory.proofs.WordLemmas.{length-bits_in}
use Rattle.arrow_memory.proofs.words.push_from.Goals as goal

pub returns-then-count-gt0-clause-appended : goal.returns-then-count-gt0-clause-appended
returns-then-count-gt0-clause-appended c =
    let others = c.args.others.now in
    let bits = bits_in others c.args.from c.args.count in
    let one = reads_word bits c.bits_from.result c.bits_from.ensures (omega (arith, c.requires.in_word, length-bits_in others c.args.from c.args.count)) in
    λ xs reads at. rw c.push_reserved.ensures.items (reads_join c.args.words.now.items (c.bits_from.result ∷ []) xs bits reads one at)

pub returns-else-count-gt0-clause-appended : goal.returns-else-count-gt0-clause-appended
returns-else-count-gt0-clause-appended c =
    appends_none c.args.words.now.items c.args.others.now (64 * length c.args.words.now.items) c.args.from c.args.count (omega (arith, c.if-count-gt0.false))
