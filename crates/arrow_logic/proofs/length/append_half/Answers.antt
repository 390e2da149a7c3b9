use Rattle.arrow_logic.proofs.Common.{◌+◌, map, arith, ints, offsets_rise}
use Rattle.arrow_logic.proofs.LengthLemmas.{length_next, row_bounds}
use Rattle.arrow_logic.proofs.length.append_half.Goals as goal

pub length_if-requires-clause-starts : goal.length_if-requires-clause-starts
length_if-requires-clause-starts g c =
    let row = row_bounds g.O.NativeOrd.number c.buffer-offsets.result.now c.args.offsets.now (c.args.start + c.args.first + c.loop-k.k) _ _ c.buffer-offsets.ensures.values c.buffer-offsets.ensures.sound (omega arith) c.index-offsets-row.is c.index-offsets-row-in-loop-k.is in
    omega (arith, ints, row.0)

pub length_if-requires-clause-rises : goal.length_if-requires-clause-rises
length_if-requires-clause-rises g c =
    let row = row_bounds g.O.NativeOrd.number c.buffer-offsets.result.now c.args.offsets.now (c.args.start + c.args.first + c.loop-k.k) _ _ c.buffer-offsets.ensures.values c.buffer-offsets.ensures.sound (omega arith) c.index-offsets-row.is c.index-offsets-row-in-loop-k.is in
    omega (arith, ints, row.0, row.1, row.2)

pub length_if-requires-clause-fits : goal.length_if-requires-clause-fits
length_if-requires-clause-fits g c =
    let os = c.args.offsets.now in
    let from = c.args.start + c.args.first in
    let row = row_bounds g.O.NativeOrd.number c.buffer-offsets.result.now os (from + c.loop-k.k) _ _ c.buffer-offsets.ensures.values c.buffer-offsets.ensures.sound (omega arith) c.index-offsets-row.is c.index-offsets-row-in-loop-k.is in
    omega (arith, ints, row.1, c.range.ensures.end, c.range.ensures.fits, offsets_rise os (from + c.loop-k.k + 1) (from + c.args.count) c.buffer-offsets.ensures.sound (omega arith) c.requires.within)

pub loop-k-preserved : goal.loop-k-preserved
loop-k-preserved g c =
    let os = c.args.offsets.now in
    let k = c.loop-k.k in
    let number = g.O.NativeOrd.number in
    let row = row_bounds number c.buffer-offsets.result.now os (c.args.start + c.args.first + k) _ _ c.buffer-offsets.ensures.values c.buffer-offsets.ensures.sound (omega arith) c.index-offsets-row.is c.index-offsets-row-in-loop-k.is in
    record {
      items = length_next number c.loop-k.lengths.items c.push_reserved.new.self.items c.length_if.result (map number c.args.lengths.now.items) c.args.word c.half_of-half.result os c.args.start c.args.first k (number c.index-offsets-row.result) (number c.index-offsets-row-in-loop-k.result) (c.half_of-half.ensures k (omega (arith, c.requires.in_half))) c.push_reserved.ensures.items c.length_if.ensures row.0 row.1 (omega (arith, ints, row.0, row.1, row.2)) c.loop-k.invariant.items;
      len = omega (arith, c.push_reserved.ensures.len, c.loop-k.invariant.len);
      capacity = omega (arith, c.push_reserved.ensures.capacity, c.loop-k.invariant.capacity);
    }
