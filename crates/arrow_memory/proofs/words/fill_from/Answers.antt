use Rattle.arrow_memory.proofs.Common.{arith, bits_in}
use Rattle.arrow_memory.proofs.AppendLemmas.{appends_none, word_appends}
use Rattle.arrow_memory.proofs.WordLemmas.{length-bits_in}
use Rattle.arrow_memory.proofs.words.fill_from.Goals as goal

pub returns-then-count-gt0-clause-appended : goal.returns-then-count-gt0-clause-appended
returns-then-count-gt0-clause-appended c =
    let bits = bits_in c.args.others.now c.args.from c.args.count in
    word_appends c.args.words.now.items c.fill_last.new.words.items c.args.place c.bits_from.result c.args.count bits c.fill_last.ensures.appended c.bits_from.ensures (length-bits_in c.args.others.now c.args.from c.args.count)

pub returns-else-count-gt0-clause-appended : goal.returns-else-count-gt0-clause-appended
returns-else-count-gt0-clause-appended c =
    appends_none c.args.words.now.items c.args.others.now c.args.place c.args.from c.args.count (omega (arith, c.if-count-gt0.false))
