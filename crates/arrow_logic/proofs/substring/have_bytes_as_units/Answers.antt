use Rattle.arrow_logic.proofs.Common.{◌≡◌, ◌∙◌, ◌+◌, ◌-◌, ap, arith, length, slice_index, subst, IsOffsets, sliced, IsCutByBytes}
use Rattle.arrow_logic.proofs.PartLemmas.{of_each_row}
use Rattle.arrow_logic.proofs.substring.have_bytes_as_units.Goals as goal

pub returns : goal.returns
returns g c = λ told.
    let rows = c.args.rows.now.values in
    let lent = c.offsets-offsets.ensures in
    let first = c.range-first.result.0 in
    let n = c.range-first.result.1 - first in
    let last : 0 + (c.len-len.result - 1) ≡ length rows.offsets - 1 = omega (arith, c.len-len.ensures.count, ap length lent) in
    let end = c.range-first.ensures.end ∙ ((λ t. slice_index (lent t) (last t))) in
    let bytes = c.as_slice.ensures ∙ c.values.ensures.same in
    of_each_row (IsCutByBytes g.K.Units.cut) rows.offsets rows.bytes first c.range-first.result.1 (subst IsOffsets lent c.range-first.ensures.sound) (c.range-first.ensures.start ∙ ap (λ os. slice_index os 0) lent) end (λ place k. subst (λ xs. IsCutByBytes g.K.Units.cut (sliced (sliced xs first n) place k)) bytes (c.are_bytes.ensures told place k))
