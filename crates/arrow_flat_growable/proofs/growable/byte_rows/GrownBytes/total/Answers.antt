use Rattle.arrow_flat_growable.proofs.Common.{arith, ints, ◌≡◌, subst, row_bytes, total}
use Rattle.arrow_flat_growable.proofs.GrownRowLemmas.{total_grown}
use Rattle.arrow_flat_growable.proofs.growable.byte_rows.GrownBytes.total.Goals as goal

pub returns-clause-bytes : goal.returns-clause-bytes
returns-clause-bytes g c =
    let all = total_grown g.K.ByteKind.Allows c.self.inside.offsets c.self.inside.bytes.1 c.self.invariant c.len.ensures.sound in
    subst (λ p. c.to_usize.result ≡ total (row_bytes p.1)) c.self.view_is (omega (arith, ints, all, c.to_usize.ensures.value, c.last.ensures))
