use Rattle.std.proofs.Common.{◌∙◌, ap, map, pos, subst}
use Rattle.arrow_memory.specs.Offsets.{IsOffsets}
use Rattle.arrow_relate.proofs.ByteLemmas.{lent_held, lent_seen}
use Rattle.arrow_relate.proofs.comparison.bytes.LentRows.of.Goals as goal

pub invariant_of-result : goal.invariant_of-result
invariant_of-result g c =
    lent_held g.O.NativeOrd.number g.K.ByteKind.Allows c.args.array.now.values c.buffer.result.now c.as_slice.result.now (c.buffer.ensures.values ∙ ap (map pos) c.offsets.ensures) (c.as_slice.ensures ∙ c.values.ensures.same) (record { offsets = subst IsOffsets c.offsets.ensures c.buffer.ensures.sound; within = c.values.ensures.within; rows = c.values.ensures.allowed })

pub returns : goal.returns
returns g c =
    lent_seen g.O.NativeOrd.number c.args.array.now.values c.buffer.result.now c.as_slice.result.now (c.buffer.ensures.values ∙ ap (map pos) c.offsets.ensures) (c.as_slice.ensures ∙ c.values.ensures.same)
