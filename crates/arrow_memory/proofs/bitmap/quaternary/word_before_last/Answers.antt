use Rattle.arrow_memory.proofs.Common.{◌≡◌, ◌+◌, ◌*◌, ◌/◌, ◌%◌, ◌∙◌, arith}
use Rattle.arrow_memory.proofs.WordLemmas.{word_of-across}
use Rattle.arrow_memory.proofs.bitmap.quaternary.word_before_last.Goals as goal

pub returns : goal.returns
returns c =
    let words = c.args.words.now in
    let from = c.args.from in
    let j = c.args.j in
    let index : from / 64 + j ≡ (from + 64 * j) / 64 = omega arith in
    let shift : from % 64 ≡ (from + 64 * j) % 64 = omega arith in
    c.across.ensures ∙ rw (← index, ← shift) at (word_of-across words (from + 64 * j) (c.type_inv.words ((from + 64 * j) / 64)).fits)
