use Rattle.std.proofs.Common.{ap, length, arith}
use Rattle.arrow_flat.proofs.PieceLemmas.{length-pieces}
use Rattle.arrow_relate.proofs.ByteLemmas.{lent_long}
use Rattle.arrow_relate.proofs.comparison.bytes.LentRows.len.Goals as goal

pub returns : goal.returns
returns g c =
    let long = lent_long g.O.NativeOrd.number c.self.inside.offsets.now c.self.inside.bytes.now in
    omega (arith, long, ap (λ p. length p.offsets) c.self.view_is, length-pieces c.args.self.now.offsets c.args.self.now.bytes)
