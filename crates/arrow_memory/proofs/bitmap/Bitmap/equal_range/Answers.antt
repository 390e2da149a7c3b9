use Rattle.arrow_memory.proofs.Common.{◌+◌, ◌≤◌, ap, sym, ◌∙◌, arith, word_of}
use Rattle.arrow_memory.proofs.BitmapLemmas.{same_more}
use Rattle.arrow_memory.proofs.SlicedLemmas.{same_within}
use Rattle.arrow_memory.proofs.bitmap.Bitmap.equal_range.Goals as goal

pub returns-then-word-bits_from : goal.returns-then-word-bits_from
returns-then-word-bits_from c =
    let within : c.loop-place.place + c.min-count.result ≤ c.args.len = omega (arith, c.loop-place-test.true, c.min-count.ensures) in
    (λ never. cc, λ same. absurd (c.if-word-bits_from.true (c.bits_from-word.ensures ∙ (ap word_of (same_within c.args.self.now c.args.other.now c.args.start c.args.other_start c.args.len c.loop-place.place c.min-count.result within same) ∙ sym c.bits_from.ensures))))

pub loop-place-preserved : goal.loop-place-preserved
loop-place-preserved c =
    let within : c.loop-place.place + c.min-count.result ≤ c.args.len = omega (arith, c.loop-place-test.true, c.min-count.ensures) in
    (within, same_more c.args.self.now c.args.other.now c.args.start c.args.other_start c.loop-place.place c.min-count.result (omega (arith, within, c.requires.here)) (omega (arith, within, c.requires.there)) c.loop-place.invariant.1 (sym c.bits_from-word.ensures ∙ (c.if-word-bits_from.false ∙ c.bits_from.ensures)))
