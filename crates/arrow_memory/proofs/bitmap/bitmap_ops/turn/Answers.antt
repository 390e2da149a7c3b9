use Rattle.arrow_memory.proofs.Common.{◌%◌, ◌<◌, ap, sym, ◌∙◌, slice_index, not, length, arith, bit_at, length-set}
use Rattle.std.specs.Prelude.{◌==◌}
use Rattle.arrow_memory.proofs.LogicLemmas.{gives_more}
use Rattle.arrow_memory.proofs.bitmap.bitmap_ops.turn.Goals as goal

pub loop-j-preserved : goal.loop-j-preserved
loop-j-preserved c =
    let words = c.loop-j.words in
    let j = c.loop-j.j in
    let within : j < length words = omega (arith, c.loop-j.invariant.long, c.loop-j-test.true) in
    record {
      long = length-set words j c.turned.result ∙ c.loop-j.invariant.long;
      each = gives_more (λ bit i. not bit) c.args.words.now words j c.turned.result c.loop-j.invariant.each within (λ i here. c.turned.ensures (i % 64) (omega arith) ∙ ap (λ q. not (bit_at (slice_index words q) (i % 64) == 1)) (sym here));
    }
