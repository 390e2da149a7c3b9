use Rattle.arrow_memory.proofs.Common.{◌≡◌, ◌+◌, ◌<◌, length, take, ◌∙◌, arith, ints, length-set, take_more_set}
use Rattle.arrow_memory.proofs.LengthLemmas.{length_next}
use Rattle.arrow_memory.proofs.OffsetLemmas.{number_at, offsets_rise}
use Rattle.arrow_memory.proofs.offset.write_some_lengths.Goals as goal

pub length_if-requires-clause-starts : goal.length_if-requires-clause-starts
length_if-requires-clause-starts g c =
    let begin = number_at g.O.NativeOrd.number c.buffer-rows.result.now c.args.offsets.now (c.args.start + c.args.done + c.loop-k.k) c.index-rows-row.result c.buffer-rows.ensures.values (omega arith) c.index-rows-row.is in
    omega (arith, ints, begin)

pub length_if-requires-clause-rises : goal.length_if-requires-clause-rises
length_if-requires-clause-rises g c =
    let os = c.args.offsets.now in
    let row = c.args.start + c.args.done + c.loop-k.k in
    let begin = number_at g.O.NativeOrd.number c.buffer-rows.result.now os row c.index-rows-row.result c.buffer-rows.ensures.values (omega arith) c.index-rows-row.is in
    let end = number_at g.O.NativeOrd.number c.buffer-rows.result.now os (row + 1) c.index-rows-row-in-loop-k.result c.buffer-rows.ensures.values (omega arith) c.index-rows-row-in-loop-k.is in
    omega (arith, ints, begin, end, offsets_rise os row (row + 1) c.buffer-rows.ensures.sound (omega arith) (omega arith))

pub length_if-requires-clause-fits : goal.length_if-requires-clause-fits
length_if-requires-clause-fits g c =
    let os = c.args.offsets.now in
    let row = c.args.start + c.args.done + c.loop-k.k in
    let end = number_at g.O.NativeOrd.number c.buffer-rows.result.now os (row + 1) c.index-rows-row-in-loop-k.result c.buffer-rows.ensures.values (omega arith) c.index-rows-row-in-loop-k.is in
    omega (arith, ints, end, c.range.ensures.end, c.range.ensures.fits, offsets_rise os (row + 1) (c.args.start + c.args.done + c.args.count) c.buffer-rows.ensures.sound (omega arith) c.requires.part)

pub loop-k-preserved : goal.loop-k-preserved
loop-k-preserved g c =
    let number = g.O.NativeOrd.number in
    let os = c.args.offsets.now in
    let start = c.args.start in
    let done = c.args.done in
    let k = c.loop-k.k in
    let row = start + done + k in
    let begin = number_at number c.buffer-rows.result.now os row c.index-rows-row.result c.buffer-rows.ensures.values (omega arith) c.index-rows-row.is in
    let end = number_at number c.buffer-rows.result.now os (row + 1) c.index-rows-row-in-loop-k.result c.buffer-rows.ensures.values (omega arith) c.index-rows-row-in-loop-k.is in
    let order = offsets_rise os row (row + 1) c.buffer-rows.ensures.sound (omega arith) (omega arith) in
    let bit = c.half_of-half.ensures k (omega (arith, c.loop-k-test.true, c.requires.in_half)) in
    let within : done + k < length c.loop-k.lengths = omega (arith, c.loop-k-test.true, c.requires.there, c.loop-k.invariant.long) in
    let at : done + (k + 1) ≡ done + k + 1 = omega arith in
    let next = length_next number (take (done + k) c.loop-k.lengths) _ c.length_if.result c.args.word c.half_of-half.result os start done k (number c.index-rows-row.result) (number c.index-rows-row-in-loop-k.result) bit (take_more_set c.loop-k.lengths (done + k) c.length_if.result within) c.length_if.ensures begin end (omega (arith, ints, begin, end, order)) c.loop-k.invariant.so_far in
    record {
      long = length-set c.loop-k.lengths (done + k) c.length_if.result ∙ c.loop-k.invariant.long;
      so_far = rw at next;
    }
