use Rattle.std.proofs.Common.{◌+◌, arith, subst}
use Rattle.std.proofs.lemmas.Int.{ints}
use Rattle.arrow_flat.specs.ByteRows.{AreByteRows}
use Rattle.arrow_memory.proofs.OffsetLemmas.{at_most_last, offsets_rise}
use Rattle.arrow_relate.proofs.ByteLemmas.{lent_offset}
use Rattle.arrow_relate.proofs.comparison.bytes.LentRows.start_end.Goals as goal

pub to_usize-requires : goal.to_usize-requires
to_usize-requires g c =
    omega (arith, ints, lent_offset g.O.NativeOrd.number g.K.ByteKind.Allows c.self.inside.offsets.now c.self.inside.bytes.now c.args.self.now c.args.i c.index-offsets-i.result c.self.invariant c.self.view_is (omega (arith, c.requires)) c.index-offsets-i.is)

pub to_usize-requires-2 : goal.to_usize-requires-2
to_usize-requires-2 g c =
    omega (arith, ints, lent_offset g.O.NativeOrd.number g.K.ByteKind.Allows c.self.inside.offsets.now c.self.inside.bytes.now c.args.self.now (c.args.i + 1) c.index-offsets-i-2.result c.self.invariant c.self.view_is c.requires c.index-offsets-i-2.is)

pub returns : goal.returns
returns g c =
    let begin = lent_offset g.O.NativeOrd.number g.K.ByteKind.Allows c.self.inside.offsets.now c.self.inside.bytes.now c.args.self.now c.args.i c.index-offsets-i.result c.self.invariant c.self.view_is (omega (arith, c.requires)) c.index-offsets-i.is in
    let end = lent_offset g.O.NativeOrd.number g.K.ByteKind.Allows c.self.inside.offsets.now c.self.inside.bytes.now c.args.self.now (c.args.i + 1) c.index-offsets-i-2.result c.self.invariant c.self.view_is c.requires c.index-offsets-i-2.is in
    let held = subst (AreByteRows g.K.ByteKind.Allows) c.self.view_is c.self.invariant.rows in
    record {
      start = omega (arith, ints, begin, c.to_usize.ensures.value);
      end = omega (arith, ints, end, c.to_usize-2.ensures.value);
      rises = omega (arith, ints, begin, end, c.to_usize.ensures.value, c.to_usize-2.ensures.value, offsets_rise c.args.self.now.offsets c.args.i (c.args.i + 1) held.offsets (omega arith) c.requires);
      within = omega (arith, ints, end, c.to_usize-2.ensures.value, held.within, at_most_last c.args.self.now.offsets (c.args.i + 1) held.offsets c.requires);
    }
