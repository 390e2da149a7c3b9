use Rattle.std.proofs.Common.{◌+◌, ◌<◌, length, [], refl, subst, arith}
use Rattle.std.specs.List.{All}
use Rattle.std.proofs.lemmas.List.{take_all}
use Rattle.std.proofs.lemmas.List.Elements.{All-more}
use Rattle.std.proofs.lemmas.Option.{get_or_from_slice_get}
use Rattle.arrow_flat.specs.Pieces.{pieces}
use Rattle.arrow_flat.proofs.PieceLemmas.{length-pieces, piece_at, holds_at}
use Rattle.arrow_flat.proofs.array.byte_rows.are_allowed.Goals as goal

pub returns-then-not-allows : goal.returns-then-not-allows
returns-then-not-allows g c =
    let next : c.loop-i.i + 1 < length c.args.offsets.now = omega (arith, c.loop-i-test.true, c.loop-i.auto.i-end, c.len-i-end.ensures.count) in
    let row = piece_at c.args.offsets.now c.args.bytes.now c.loop-i.i next in
    let within : c.loop-i.i < length (pieces c.args.offsets.now c.args.bytes.now) = omega (arith, next, length-pieces c.args.offsets.now c.args.bytes.now) in
    (λ e. cc, λ all. c.if-not-allows.ensures.1 (rw (c.start_end-start.ensures.start, c.start_end-start.ensures.end) (holds_at g.K.ByteKind.Allows _ c.loop-i.i _ all row within)))

pub loop-i-preserved : goal.loop-i-preserved
loop-i-preserved g c =
    let rows = pieces c.args.offsets.now c.args.bytes.now in
    let next : c.loop-i.i + 1 < length c.args.offsets.now = omega (arith, c.loop-i-test.true, c.loop-i.auto.i-end, c.len-i-end.ensures.count) in
    let row = piece_at c.args.offsets.now c.args.bytes.now c.loop-i.i next in
    let within : c.loop-i.i < length rows = omega (arith, next, length-pieces c.args.offsets.now c.args.bytes.now) in
    let read = get_or_from_slice_get rows c.loop-i.i _ [] row in
    let allowed = c.if-not-allows.ensures.0 refl in
    All-more g.K.ByteKind.Allows rows c.loop-i.i [] within c.loop-i.invariant (rw (read, ← c.start_end-start.ensures.start, ← c.start_end-start.ensures.end) allowed)

pub returns : goal.returns
returns g c =
    let rows = pieces c.args.offsets.now c.args.bytes.now in
    let all = take_all c.loop-i.i rows (omega (arith, c.loop-i-test.false, c.loop-i.auto.i-end, c.len-i-end.ensures.count, length-pieces c.args.offsets.now c.args.bytes.now)) in
    (λ _. subst (All g.K.ByteKind.Allows) all c.loop-i.invariant, λ _. refl)
