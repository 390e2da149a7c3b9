use Rattle.std.proofs.Common.{◌≤◌, sym, subst, arith}
use Rattle.arrow_flat.specs.FixedRows.{FixedParts}
use Rattle.arrow_flat.proofs.FixedLemmas.{row_within}
use Rattle.arrow_flat.proofs.array.fixed_size_binary.FixedRows.start.Goals as goal

pub overflow_mul-result : goal.overflow_mul-result
overflow_mul-result c =
    let p : FixedParts = record { size = c.self.inside.size; count = c.self.inside.count; bytes = c.self.inside.bytes } in
    let within : c.args.i ≤ p.count = subst (λ q. c.args.i ≤ q.count) (sym c.self.view_is) c.requires in
    omega (arith, row_within p c.args.i c.self.invariant within, c.self.invariant.fits)

pub returns-clause-within : goal.returns-clause-within
returns-clause-within c =
    rw (← c.self.view_is) (row_within _ c.args.i c.self.invariant (subst (λ q. c.args.i ≤ q.count) (sym c.self.view_is) c.requires))
