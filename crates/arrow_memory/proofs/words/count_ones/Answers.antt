use Rattle.arrow_memory.proofs.Common.{◌≡◌, ◌+◌, ◌-◌, ◌*◌, ◌/◌, ◌%◌, drop, arith, bits_in, set_count, length-take, length-drop}
use Rattle.arrow_memory.proofs.WordLemmas.{set_count-le, set_count-more, set_count-between}
use Rattle.arrow_memory.proofs.words.count_ones.Goals as goal

pub loop-word-init : goal.loop-word-init
loop-word-init c = omega (arith, set_count-le c.args.words.now (64 * (c.args.start / 64)) 0)

pub overflow_add-ones : goal.overflow_add-ones
overflow_add-ones c =
    let words = c.args.words.now in
    let first = c.args.start / 64 in
    let n = c.args.end / 64 - first in
    let i = c.loop-word.word-index in
    let more = set_count-more words first n i c.type_inv.words c.loop-word-test.true in
    let counted = set_count-le words (64 * first) (64 * (i + 1)) in
    let behind = set_count-le words (c.args.end - c.args.end % 64) (c.args.end % 64) in
    let below = length-take n (drop first words) in
    record { fits = omega (arith, c.loop-word.invariant, c.count_ones_below-ones.ensures, c.ranges.end.fits) }

pub loop-word-preserved : goal.loop-word-preserved
loop-word-preserved c =
    let first = c.args.start / 64 in
    let more = set_count-more c.args.words.now first (c.args.end / 64 - first) c.loop-word.word-index c.type_inv.words c.loop-word-test.true in
    omega (arith, c.loop-word.invariant)

-- the ones of all words are those before the bits, and the bits' own
counted : (c : goal.After-count_ones_below) → c.loop-word.ones ≡ c.count_ones_below.result + set_count (bits_in c.args.words.now c.args.start (c.args.end - c.args.start))
counted c =
    let first = c.args.start / 64 in
    let n = c.args.end / 64 - first in
    let whole : c.loop-word.word-index ≡ n = omega (arith, length-take n (drop first c.args.words.now), length-drop first c.args.words.now) in
    let between = set_count-between c.args.words.now c.args.start c.args.end c.loop-word.word-index c.requires.ordered whole in
    omega (arith, c.loop-word.invariant, c.count_ones_below-ones.ensures, c.count_ones_below.ensures)

pub overflow_sub-result : goal.overflow_sub-result
overflow_sub-result c = omega (arith, counted c)

pub returns : goal.returns
returns c = omega (arith, counted c)
