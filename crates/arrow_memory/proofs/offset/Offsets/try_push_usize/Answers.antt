use Rattle.arrow_memory.proofs.Common.{◌≡◌, pos, ◌+◌, arith, ints, last_of, with_row}
use Rattle.arrow_memory.proofs.OffsetLemmas.{StoredAs, stored_row}
use Rattle.arrow_memory.proofs.offset.Offsets.try_push_usize.Given.{Over}
use Rattle.arrow_memory.proofs.offset.Offsets.try_push_usize.Goals as goal

stored : (g : Over) (c : goal.In_ok-push g) → StoredAs g.O.NativeOrd.number c.push.new.self.items (with_row c.args.self.now c.args.length)
stored g c =
    let value : g.O.NativeOrd.number c.in-Some-from_usize.offset ≡ pos (last_of c.args.self.now + c.args.length) = omega (arith, ints, c.in-Some-from_usize.ensures.value, c.in-Some.ensures.1, c.to_usize.ensures.value, c.last.ensures) in
    stored_row g.O.NativeOrd.number c.self.inside.offsets.items c.push.new.self.items c.args.self.now c.in-Some-from_usize.offset c.args.length c.self.invariant c.self.view_is c.in_ok-push.ensures.items value

pub invariant_of-self-2 : goal.invariant_of-self-2
invariant_of-self-2 g c = (stored g c).held

pub returns-clause-ok : goal.returns-clause-ok
returns-clause-ok g c = (stored g c).seen
