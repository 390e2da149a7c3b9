use Rattle.std.proofs.Common.{◌+◌, ◌<◌, length, sym, subst, arith}
use Rattle.arrow_flat.specs.ByteRows.{row_bytes}
use Rattle.arrow_flat.proofs.PieceLemmas.{length-pieces, piece_at, holds_at}
use Rattle.arrow_flat.proofs.array.byte_rows.ByteRows.row.Goals as goal

pub start_end-start-requires : goal.start_end-start-requires
start_end-start-requires g c =
    let within = subst (λ p. c.args.i < length (row_bytes p)) (sym c.self.view_is) c.requires in
    omega (arith, within, length-pieces c.self.inside.offsets c.self.inside.bytes)

pub returns-clause-row : goal.returns-clause-row
returns-clause-row g c =
    let within = subst (λ p. c.args.i < length (row_bytes p)) (sym c.self.view_is) c.requires in
    let next : c.args.i + 1 < length c.self.inside.offsets = omega (arith, within, length-pieces c.self.inside.offsets c.self.inside.bytes) in
    rw (← c.self.view_is, c.as_slice.ensures, c.start_end-start.ensures.start, c.start_end-start.ensures.end) (piece_at c.self.inside.offsets c.self.inside.bytes c.args.i next)

pub returns-clause-kind : goal.returns-clause-kind
returns-clause-kind g c =
    let within = subst (λ p. c.args.i < length (row_bytes p)) (sym c.self.view_is) c.requires in
    let next : c.args.i + 1 < length c.self.inside.offsets = omega (arith, within, length-pieces c.self.inside.offsets c.self.inside.bytes) in
    rw (c.as_slice.ensures, c.start_end-start.ensures.start, c.start_end-start.ensures.end) (holds_at g.K.ByteKind.Allows _ c.args.i _ c.self.invariant.rows (piece_at c.self.inside.offsets c.self.inside.bytes c.args.i next) within)
