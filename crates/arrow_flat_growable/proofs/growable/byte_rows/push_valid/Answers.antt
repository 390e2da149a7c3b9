use Rattle.arrow_flat_growable.proofs.Common.{arith, ◌+◌, ◌≡◌, ap, sym, length, slice_index}
use Rattle.arrow_flat_growable.proofs.PartLemmas.{one_part}
use Rattle.arrow_flat_growable.proofs.growable.byte_rows.push_valid.Goals as goal

pub returns : goal.returns
returns g c =
    let others = c.args.rows.now in
    let long : c.args.start + c.args.len ≡ c.args.start + length c.args.runs = ap (λ n. c.args.start + n) (sym c.requires.covered) in
    λ sources there within. one_part sources c.args.index others there c.range-first.ensures.sound within c.args.parts.now.items c.push_reserved.new.self.items c.args.runs c.args.start c.range-first.result.0 c.range-first.result.1 (omega (arith, c.requires.part, long)) c.range-first.ensures.start (omega (arith, c.range-first.ensures.end, ap (slice_index others) long)) (omega (arith, c.requires.counted, c.if-count-end.false)) c.push_reserved.ensures.items
