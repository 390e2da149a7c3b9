use Rattle.arrow_memory.proofs.Common.{◌≡◌, ◌∙◌, ◌+◌, ◌++◌, ◌-◌, length, replicate, take, ap, arith, rules, sym, vec_len, last_of}
use Rattle.arrow_memory.proofs.OffsetLemmas.{StoredAs, stored_constant}
use Rattle.arrow_memory.proofs.offset.Offsets.extend_constant.Given.{Over}
use Rattle.arrow_memory.proofs.offset.Offsets.extend_constant.Goals as goal

stored : (g : Over) (c : goal.In_ok-resize g) → StoredAs g.O.NativeOrd.number c.resize.new.self.items (c.args.self.now ++ replicate c.args.additional (last_of c.args.self.now))
stored g c =
    let room = c.reserve.new.self in
    let count = c.len.result + c.args.additional in
    let long : length c.self.inside.offsets.items ≡ vec_len room = ap length (sym c.reserve.ensures.items) ∙ (search rules) in
    let items = c.in_ok-resize.ensures.items ∙ ap (λ xs. take count xs ++ replicate (count - vec_len room) c.last-offset.result.now) c.reserve.ensures.items in
    stored_constant g.O.NativeOrd.number c.self.inside.offsets.items c.resize.new.self.items c.args.self.now c.last-offset.result.now (vec_len room) count c.args.additional c.self.invariant c.self.view_is items long (omega (arith, c.len.ensures)) c.last-offset.ensures

pub invariant_of-self-2 : goal.invariant_of-self-2
invariant_of-self-2 g c = (stored g c).held

pub returns-clause-ok : goal.returns-clause-ok
returns-clause-ok g c = (stored g c).seen
