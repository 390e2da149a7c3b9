use Rattle.std.proofs.Common.{◌-◌, ◌≡◌, ◌<◌, subst, arith}
use Rattle.arrow_flat.specs.FixedRows.{AreFixedRows}
use Rattle.arrow_flat.specs.PieceLaws.{length-chunks}
use Rattle.arrow_flat.proofs.FixedLemmas.{chunk_at, count_fits}
use Rattle.arrow_flat.proofs.array.fixed_size_binary.FixedRows.row.Goals as goal

pub start-start-requires : goal.start-start-requires
start-start-requires c =
    let p = c.args.self.now in
    omega (arith, c.requires, length-chunks p.count p.size p.bytes)

pub overflow_add-i : goal.overflow_add-i
overflow_add-i c =
    let p = c.args.self.now in
    let held = subst AreFixedRows c.self.view_is c.self.invariant in
    omega (arith, c.requires, length-chunks p.count p.size p.bytes, count_fits p held)

pub start-end-requires : goal.start-end-requires
start-end-requires c =
    let p = c.args.self.now in
    omega (arith, c.requires, length-chunks p.count p.size p.bytes)

pub returns : goal.returns
returns c =
    let p = c.args.self.now in
    let within : c.args.i < p.count = omega (arith, c.requires, length-chunks p.count p.size p.bytes) in
    let long : c.start-end.result - c.start-start.result ≡ p.size = omega (arith, c.start-end.ensures.place, c.start-start.ensures.place) in
    let bytes = subst (λ q. c.as_slice-bytes.result.now ≡ q.bytes) c.self.view_is c.as_slice-bytes.ensures in
    rw (long, bytes, c.start-start.ensures.place) (chunk_at p.count p.size p.bytes c.args.i within)
