use Rattle.arrow_flat_growable.proofs.Common.{arith, ap, subst, length, row_bytes, length-pieces, FitsRows}
use Rattle.arrow_flat_growable.proofs.growable.byte_rows.GrownBytes.into_array.Goals as goal

pub new-requires-clause-length : goal.new-requires-clause-length
new-requires-clause-length g c =
    subst (λ n. FitsRows c.args.validity n) (omega (arith, ap (λ p. length (row_bytes p.1)) c.self.view_is, length-pieces c.self.inside.offsets c.self.inside.bytes.1, ap length c.in_ok-offsets.ensures.ok)) c.requires.fits
