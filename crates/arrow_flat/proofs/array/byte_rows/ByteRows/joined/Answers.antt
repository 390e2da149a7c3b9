use Rattle.std.proofs.Common.{◌+◌, ◌<◌, length, sym, subst}
use Rattle.arrow_flat.proofs.LengthLemmas.{joined_part}
use Rattle.arrow_flat.proofs.array.byte_rows.ByteRows.joined.Goals as goal

pub returns : goal.returns
returns g c =
    let part = subst (λ p. c.args.start + c.args.len < length p.offsets) (sym c.self.view_is) c.requires in
    rw (← c.self.view_is, c.as_slice.ensures, c.range-start.ensures.start, c.range-start.ensures.end) (joined_part c.self.inside.offsets c.self.inside.bytes c.args.start c.args.len c.self.invariant.offsets part)
