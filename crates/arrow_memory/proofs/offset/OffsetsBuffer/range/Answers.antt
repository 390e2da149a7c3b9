use Rattle.arrow_memory.proofs.Common.{◌+◌, arith, ints}
use Rattle.arrow_memory.proofs.OffsetLemmas.{number_at, offsets_rise, at_most_last}
use Rattle.arrow_memory.proofs.offset.OffsetsBuffer.range.Goals as goal

pub to_usize-requires : goal.to_usize-requires
to_usize-requires g c =
    let start = number_at g.O.NativeOrd.number c.buffer-offsets.result.now c.args.self.now c.args.start _ c.buffer-offsets.ensures.values (omega arith) c.index-offsets-start.is in
    omega (arith, ints, start)

pub to_usize-requires-2 : goal.to_usize-requires-2
to_usize-requires-2 g c =
    let end = number_at g.O.NativeOrd.number c.buffer-offsets.result.now c.args.self.now (c.args.start + c.args.len) _ c.buffer-offsets.ensures.values (omega arith) c.index-offsets-start-2.is in
    omega (arith, ints, end)

pub returns-clause-start : goal.returns-clause-start
returns-clause-start g c =
    let start = number_at g.O.NativeOrd.number c.buffer-offsets.result.now c.args.self.now c.args.start _ c.buffer-offsets.ensures.values (omega arith) c.index-offsets-start.is in
    omega (arith, ints, start, c.to_usize.ensures.value)

pub returns-clause-end : goal.returns-clause-end
returns-clause-end g c =
    let end = number_at g.O.NativeOrd.number c.buffer-offsets.result.now c.args.self.now (c.args.start + c.args.len) _ c.buffer-offsets.ensures.values (omega arith) c.index-offsets-start-2.is in
    omega (arith, ints, end, c.to_usize-2.ensures.value)

pub returns-clause-rises : goal.returns-clause-rises
returns-clause-rises g c =
    let start = returns-clause-start g c in
    let end = returns-clause-end g c in
    let order = offsets_rise c.args.self.now c.args.start (c.args.start + c.args.len) c.buffer-offsets.ensures.sound (omega arith) c.requires in
    omega (arith, start, end, order)

pub returns-clause-within : goal.returns-clause-within
returns-clause-within g c =
    let end = returns-clause-end g c in
    let order = at_most_last c.args.self.now (c.args.start + c.args.len) c.buffer-offsets.ensures.sound c.requires in
    omega (arith, end, order)
