use Rattle.arrow_memory.proofs.Common.{bits_in}
use Rattle.arrow_memory.proofs.WordLemmas.{length-bits_in}
use Rattle.arrow_memory.proofs.words.append_bits.Goals as goal

-- a word at most
pub returns-then-len-le-WORD_BITS-clause-appended : goal.returns-then-len-le-WORD_BITS-clause-appended
returns-then-len-le-WORD_BITS-clause-appended c =
    λ xs reads long. c.append_word.ensures.appended xs (bits_in c.args.others.now c.args.from c.args.len) reads long c.bits_from.ensures (length-bits_in c.args.others.now c.args.from c.args.len)
