use Rattle.arrow_memory.proofs.Common.{arith, ints}
use Rattle.arrow_memory.proofs.OffsetLemmas.{number_at, rows_fit, rows_counted}
use Rattle.arrow_memory.proofs.offset.append_rows.Goals as goal

pub append_shifted-requires-clause-starts : goal.append_shifted-requires-clause-starts
append_shifted-requires-clause-starts g c =
    let start = number_at g.O.NativeOrd.number c.buffer-values.result.now c.args.other.now c.args.start _ c.buffer-values.ensures.values (omega (arith, c.requires.part)) c.index-values-start.is in
    omega (arith, ints, start)

pub append_shifted-requires-clause-fits : goal.append_shifted-requires-clause-fits
append_shifted-requires-clause-fits g c =
    rows_fit g.O.NativeOrd.number c.buffer-values.result.now c.args.other.now c.args.start c.args.len _ c.buffer-values.ensures.values c.buffer-values.ensures.sound c.requires.part (omega arith) c.index-values-start.result c.args.to c.index-values-start.is c.requires.not_negative g.O.Index.greatest c.requires.fits

pub returns : goal.returns
returns g c =
    rows_counted g.O.NativeOrd.number c.buffer-values.result.now c.args.other.now c.args.start c.args.len _ c.buffer-values.ensures.values c.buffer-values.ensures.sound c.requires.part (omega arith) c.index-values-start.result c.args.to c.index-values-start.is c.requires.not_negative c.args.offsets.now.items c.append_shifted.new.offsets.items c.append_shifted.ensures
