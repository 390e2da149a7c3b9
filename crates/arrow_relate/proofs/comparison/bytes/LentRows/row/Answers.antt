use Rattle.std.proofs.Common.{◌+◌, ◌-◌, ◌<◌, ◌∙◌, Some, ap, arith, drop, length, slice_index, sym, take}
use Rattle.std.proofs.lemmas.List.{length-drop, take_all}
use Rattle.arrow_flat.proofs.PieceLemmas.{length-pieces, piece_at}
use Rattle.arrow_relate.proofs.comparison.bytes.LentRows.row.Goals as goal

pub start_end-start-requires : goal.start_end-start-requires
start_end-start-requires g c = omega (arith, c.requires, length-pieces c.args.self.now.offsets c.args.self.now.bytes)

pub returns : goal.returns
returns g c =
    let offsets = c.args.self.now.offsets in
    let bytes = c.args.self.now.bytes in
    let start = slice_index offsets c.args.i in
    let next : c.args.i + 1 < length offsets = omega (arith, c.requires, length-pieces offsets bytes) in
    let rest = take_all (length bytes - start) (drop start bytes) (omega (arith, length-drop start bytes)) in
    rw (ap (λ p. p.bytes) c.self.view_is, c.start_end-start.ensures.start, c.start_end-start.ensures.end) (piece_at offsets bytes c.args.i next ∙ ap (λ bytes. Some (take (slice_index offsets (c.args.i + 1) - start) bytes)) (sym rest))
