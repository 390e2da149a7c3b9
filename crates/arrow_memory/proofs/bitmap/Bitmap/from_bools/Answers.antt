use Rattle.arrow_memory.proofs.Common.{◌≡◌, ◌+◌, ◌*◌, length, ap, ◌∙◌, min, arith, length_push, length-drop, chunks_rest}
use Rattle.arrow_memory.proofs.BitmapLemmas.{Packs-more, drop-more, bits_in_is}
use Rattle.arrow_memory.proofs.bitmap.Bitmap.from_bools.Goals as goal

pub loop-chunk-preserved : goal.loop-chunk-preserved
loop-chunk-preserved c =
    let words = c.loop-chunk.words.items in
    let bits = c.args.bits.now in
    let steps = c.in-Some.ensures.steps in
    let rest = chunks_rest c.loop-chunk.chunk-iterator in
    let chunk = c.in-Some.chunk.now in
    let next = chunks_rest c.next.new.self in
    let long : length chunk ≡ min 64 (length rest) = rw c.loop-chunk.invariant.2 at steps.1.1 in
    let pushed = rw c.pack.ensures at c.in_ok-push.ensures.items in
    let longer : length c.push.new.self.items ≡ length words + 1 = ap length c.in_ok-push.ensures.items ∙ length_push words c.pack.result in
    (rw pushed (Packs-more words bits rest chunk next c.loop-chunk.invariant.0 c.loop-chunk.invariant.1 steps.1.0 long), rw longer (drop-more (length words) bits rest chunk next c.loop-chunk.invariant.1 steps.1.0 long), steps.0 ∙ c.loop-chunk.invariant.2)

pub returns-clause-ok : goal.returns-clause-ok
returns-clause-ok c =
    let words = c.loop-chunk.words.items in
    let bits = c.args.bits.now in
    let none = rw c.loop-chunk.invariant.1 at c.in-None.ensures.steps.1.0 in
    let left = length-drop (64 * length words) bits in
    rw (bits_in_is words bits (λ i below. c.loop-chunk.invariant.0.each i (omega arith))) at c.from_words.ensures.ok
