use Rattle.arrow_memory.proofs.Common.{◌≡◌, true, false, replicate, ap, sym, ◌∙◌, rules, one_shl, word_of}
use Rattle.arrow_memory.proofs.MutableLemmas.{word_of-ones, word_of-zeros}
use Rattle.arrow_memory.proofs.words.equal_bits.Goals as goal

pub returns-then-not-bit : goal.returns-then-not-bit
returns-then-not-bit c =
    let unset : c.args.bit ≡ false = search rules in
    sym (ap (λ bit. word_of (replicate c.args.count bit)) unset ∙ word_of-zeros c.args.count)

pub returns-then-count-lt-WORD_BITS : goal.returns-then-count-lt-WORD_BITS
returns-then-count-lt-WORD_BITS c =
    let set : c.args.bit ≡ true = search rules in
    rw (one_shl c.args.count 64 c.if-count-lt-WORD_BITS.true) (sym (ap (λ bit. word_of (replicate c.args.count bit)) set ∙ word_of-ones c.args.count))
