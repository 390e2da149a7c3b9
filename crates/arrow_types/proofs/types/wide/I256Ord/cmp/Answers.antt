use Rattle.std.proofs.Common.{◌≡◌, ◌∙◌, rules}
use Rattle.std.specs.Ordering.{int_cmp, nat_cmp, ordering_then}
use Rattle.arrow_types.specs.WideHalves.{int_cmp-wide}
use Rattle.arrow_types.proofs.types.wide.I256Ord.cmp.Goals as goal

pub returns : goal.returns
returns c =
    let a = c.self.inside in
    let b = c.other.inside in
    let is : c.then.result ≡ ordering_then (int_cmp a.high b.high) (nat_cmp a.low b.low) = search rules in
    rw (← c.self.view_is, ← c.other.view_is) (is ∙ int_cmp-wide a.high b.high a.low b.low c.self.invariant c.other.invariant)
