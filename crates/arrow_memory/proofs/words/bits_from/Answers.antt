use Rattle.arrow_memory.proofs.Common.{◌+◌, ◌-◌, ◌/◌, ◌%◌, ◌^◌, ◌<◌, ap, sym, ◌∙◌, arith, slice_index, bits_in, word_of}
use Rattle.arrow_memory.proofs.WordLemmas.{word_of-ends, word_of-low_bits}
use Rattle.arrow_memory.proofs.words.bits_from.Goals as goal

pub returns-then-count-eq0 : goal.returns-then-count-eq0
unfolding bits_in
returns-then-count-eq0 c = ap (λ n. word_of (bits_in c.args.words.now c.args.place n)) (sym c.if-count-eq0.true)

pub returns : goal.returns
returns c =
    let words = c.args.words.now in
    let place = c.args.place in
    let count = c.args.count in
    let end = place + count - 1 in
    let some : 0 < count = omega (arith, c.if-count-eq0.false) in
    c.low_word.ensures ∙ (word_of-low_bits c.across-both.result count ∙ (ap (λ w. w % 2 ^ count) c.across-both.ensures ∙ word_of-ends words place count (slice_index words (end / 64)) (c.type_inv.words (place / 64)).fits c.requires.in_word (λ over. ap (slice_index words) (omega (arith, some, over, c.requires.in_word)))))
