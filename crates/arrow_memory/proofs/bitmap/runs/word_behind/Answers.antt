use Rattle.arrow_memory.proofs.RunLemmas.{word_behind}
use Rattle.arrow_memory.proofs.bitmap.runs.word_behind.Goals as goal

pub returns-then-taken-count-clause-word : goal.returns-then-taken-count-clause-word
returns-then-taken-count-clause-word c =
    word_behind c.args.words.now c.args.start c.args.count c.args.taken c.args.word c.requires.word
