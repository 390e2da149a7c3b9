use Rattle.arrow_memory.proofs.Common.{◌≡◌, ◌%◌, ◌^◌, ap, sym, ◌∙◌, arith, one_shl, and_mask, low_bits, word_of}
use Rattle.arrow_memory.proofs.WordLemmas.{word_of-low_bits}
use Rattle.arrow_memory.proofs.words.low_word.Goals as goal

pub returns-then-count-lt-WORD_BITS : goal.returns-then-count-lt-WORD_BITS
returns-then-count-lt-WORD_BITS c =
    rw (one_shl c.args.count 64 c.if-count-lt-WORD_BITS.true, and_mask) (sym (word_of-low_bits c.args.word c.args.count))

pub returns-else-count-lt-WORD_BITS : goal.returns-else-count-lt-WORD_BITS
returns-else-count-lt-WORD_BITS c =
    let full : c.args.count ≡ 64 = omega (arith, c.requires) in
    let whole : c.args.word % 2 ^ 64 ≡ c.args.word = omega arith in
    sym (ap (λ n. word_of (low_bits c.args.word n)) full ∙ (word_of-low_bits c.args.word 64 ∙ whole))
