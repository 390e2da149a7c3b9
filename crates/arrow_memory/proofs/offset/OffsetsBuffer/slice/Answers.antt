use Rattle.arrow_memory.proofs.OffsetLemmas.{stored_part}
use Rattle.arrow_memory.proofs.offset.OffsetsBuffer.slice.Goals as goal

pub invariant_of-self : goal.invariant_of-self
invariant_of-self g c =
    (stored_part g.O.NativeOrd.number c.self.inside.offsets c.slice.new.self c.args.self.now c.args.offset c.args.len c.self.invariant c.self.view_is c.slice.ensures c.requires.part c.requires.some).held

pub returns : goal.returns
returns g c =
    (stored_part g.O.NativeOrd.number c.self.inside.offsets c.slice.new.self c.args.self.now c.args.offset c.args.len c.self.invariant c.self.view_is c.slice.ensures c.requires.part c.requires.some).seen
