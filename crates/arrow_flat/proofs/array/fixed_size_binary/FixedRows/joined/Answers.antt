use Rattle.std.proofs.Common.{◌≡◌, ◌-◌, ◌*◌, refl, subst, arith}
use Rattle.arrow_flat.specs.FixedRows.{AreFixedRows}
use Rattle.arrow_flat.proofs.FixedLemmas.{count_fits}
use Rattle.arrow_flat.proofs.array.fixed_size_binary.FixedRows.joined.Goals as goal

pub overflow_add-start : goal.overflow_add-start
overflow_add-start c =
    let held = subst AreFixedRows c.self.view_is c.self.invariant in
    omega (arith, c.requires, count_fits c.args.self.now held)

pub returns-clause-bytes : goal.returns-clause-bytes
returns-clause-bytes c =
    let p = c.args.self.now in
    let long : c.start-to.result - c.start-from.result ≡ c.args.len * p.size = omega (arith, c.start-to.ensures.place, c.start-from.ensures.place) in
    let bytes = subst (λ q. c.as_slice-bytes.result.now ≡ q.bytes) c.self.view_is c.as_slice-bytes.ensures in
    rw (long, bytes, c.start-from.ensures.place) refl
