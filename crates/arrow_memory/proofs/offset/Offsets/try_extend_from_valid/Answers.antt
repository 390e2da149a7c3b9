use Rattle.arrow_memory.proofs.Common.{unsigned_abs, ap, with_valid_rows, sliced}
use Rattle.arrow_memory.proofs.OffsetLemmas.{StoredAs}
use Rattle.arrow_memory.proofs.ValidLemmas.{stored_valid_rows}
use Rattle.arrow_memory.proofs.offset.Offsets.try_extend_from_valid.Given.{Over}
use Rattle.arrow_memory.proofs.offset.Offsets.try_extend_from_valid.Goals as goal

stored : (g : Over) (c : goal.After-append_valid_rows g) → StoredAs g.O.NativeOrd.number c.append_valid_rows.new.offsets.items (with_valid_rows c.args.self.now (sliced c.args.validity.now c.args.start c.args.len) c.args.other.now c.args.start)
stored g c =
    stored_valid_rows g.O.NativeOrd.number c.self.inside.offsets.items c.reserve.new.self.items c.append_valid_rows.new.offsets.items c.args.self.now (sliced c.args.validity.now c.args.start c.args.len) c.args.other.now (unsigned_abs (g.O.NativeOrd.number c.last.result.now)) c.args.start c.self.invariant c.self.view_is c.reserve.ensures.items c.append_valid_rows.ensures (ap unsigned_abs c.last.ensures)

pub invariant_of-self-2 : goal.invariant_of-self-2
invariant_of-self-2 g c = (stored g c).held

pub returns-clause-ok : goal.returns-clause-ok
returns-clause-ok g c = (stored g c).seen
