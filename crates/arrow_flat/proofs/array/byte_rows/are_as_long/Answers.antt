use Rattle.std.proofs.Common.{◌≡◌, ◌+◌, ◌<◌, length, slice_index, sym, ◌∙◌, arith}
use Rattle.arrow_flat.specs.Pieces.{lengths}
use Rattle.arrow_flat.proofs.LengthLemmas.{length-lengths, row_of_part}
use Rattle.arrow_flat.proofs.PartsLemmas.{sliced_next}
use Rattle.arrow_flat.proofs.array.byte_rows.are_as_long.Goals as goal

pub returns-then-row_len : goal.returns-then-row_len
returns-then-row_len g c =
    let offsets = lengths c.args.offsets.now in
    let others = lengths c.args.others.now in
    (λ never. cc, λ same. absurd (c.if-row_len.true (c.row_len.ensures ∙ (row_of_part offsets others c.args.start c.args.other_start c.args.len c.loop-i.i c.loop-i-test.true same ∙ sym c.row_len-in-loop-i.ensures))))

pub loop-i-preserved : goal.loop-i-preserved
loop-i-preserved g c =
    let offsets = lengths c.args.offsets.now in
    let others = lengths c.args.others.now in
    let here : c.args.start + c.loop-i.i < length offsets = omega (arith, c.loop-i-test.true, c.requires.here, length-lengths c.args.offsets.now) in
    let there : c.args.other_start + c.loop-i.i < length others = omega (arith, c.loop-i-test.true, c.requires.there, length-lengths c.args.others.now) in
    let row : slice_index offsets (c.args.start + c.loop-i.i) ≡ slice_index others (c.args.other_start + c.loop-i.i) = sym c.row_len.ensures ∙ (c.if-row_len.false ∙ c.row_len-in-loop-i.ensures) in
    sliced_next offsets others c.args.start c.args.other_start c.loop-i.i 0 here there c.loop-i.invariant row
