use Rattle.std.proofs.Common.{◌<◌, ◌∙◌, ◌+◌, ◌*◌, Some, length, map, arith, ap, sym}
use Rattle.std.proofs.lemmas.List.{length-map}
use Rattle.arrow_types.specs.Slot.{Boolean}
use Rattle.arrow_relate.proofs.FinishLemmas.{finished_at, length-finished}
use Rattle.arrow_relate.proofs.comparison.finished_word.Goals as goal

pub returns : goal.returns
returns g c = λ k below within.
    let bits = c.args.stored.now in
    let give = g.E.Sameness.finishes in
    let place = 64 * c.args.j + k in
    let inside : place < length bits = omega (arith, within, length-finished give (map Boolean bits) c.args.lhs.now c.args.rhs.now, length-map bits Boolean) in
    let left = c.valid_word.ensures (length bits) k c.requires.left below inside in
    let right = c.valid_word-2.ensures (length bits) k c.requires.right below inside in
    finished_at give bits c.args.lhs.now c.args.rhs.now place _ _ _ inside (c.word.ensures.each k below) left right ∙ ap Some (sym (c.finished_word.ensures k below))
