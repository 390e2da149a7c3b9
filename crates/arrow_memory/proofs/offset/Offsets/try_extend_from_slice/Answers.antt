use Rattle.arrow_memory.proofs.Common.{unsigned_abs, ap, arith, with_rows}
use Rattle.arrow_memory.proofs.OffsetLemmas.{StoredAs, stored_rows}
use Rattle.arrow_memory.proofs.offset.Offsets.try_extend_from_slice.Given.{Over}
use Rattle.arrow_memory.proofs.offset.Offsets.try_extend_from_slice.Goals as goal

stored : (g : Over) (c : goal.After-append_rows g) → StoredAs g.O.NativeOrd.number c.append_rows.new.offsets.items (with_rows c.args.self.now c.args.other.now c.args.start c.args.len)
stored g c =
    stored_rows g.O.NativeOrd.number c.self.inside.offsets.items c.reserve.new.self.items c.append_rows.new.offsets.items c.args.self.now c.args.other.now (unsigned_abs (g.O.NativeOrd.number c.last-to.result.now)) c.args.start c.args.len c.self.invariant c.self.view_is c.reserve.ensures.items c.append_rows.ensures (ap unsigned_abs c.last-to.ensures) c.range-first.ensures.sound (omega (arith, c.requires))

pub invariant_of-self-2 : goal.invariant_of-self-2
invariant_of-self-2 g c = (stored g c).held

pub returns-clause-ok : goal.returns-clause-ok
returns-clause-ok g c = (stored g c).seen
