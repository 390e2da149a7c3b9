use Rattle.arrow_memory.proofs.Common.{◌/◌, ◌<◌, length, ◌∙◌, arith, get_or_default_zero}
use Rattle.arrow_memory.proofs.AppendLemmas.{one_word}
use Rattle.arrow_memory.proofs.words.fill_last.Goals as goal

pub returns-clause-appended : goal.returns-clause-appended
returns-clause-appended c =
    let place = c.args.place in
    let words = c.args.words.now.items in
    let within : place / 64 < length words = omega (arith, c.requires.full, c.requires.some, c.requires.room) in
    let old = c.index_mut.ensures.value ∙ get_or_default_zero words (place / 64) c.index_mut.result.now within in
    λ xs ys reads long is count.
    rw old (one_word words xs ys place c.args.word reads long is within (omega (arith, count, c.requires.some, c.requires.room)))
