use Rattle.std.proofs.Common.{◌≡◌, ◌∙◌, ap, arith, length, rules, sym}
use Rattle.std.proofs.lemmas.List.{length-map}
use Rattle.arrow_types.specs.Relation.{related}
use Rattle.arrow_flat.specs.ByteRows.{byte_slots, row_bytes}
use Rattle.arrow_flat.specs.RowByRow.{row_by_row}
use Rattle.arrow_relate.proofs.WordLemmas.{answered_rows}
use Rattle.arrow_flat.proofs.RowLemmas.{length-row_by_row}
use Rattle.arrow_relate.proofs.comparison.bytes.ByteRowsRelatedBy.related_bits.Goals as goal

pub returns-clause-ok : goal.returns-clause-ok
returns-clause-ok g c =
    let slot = g.K.ByteKind.slot in
    let left = byte_slots slot c.of-left.result in
    let right = byte_slots slot c.of-right.result in
    let stored : length (byte_slots slot c.args.lhs.now.values) ≡ length (byte_slots slot c.args.rhs.now.values) = omega (arith, c.requires, c.len.ensures.rows, c.len.ensures.values, c.len-2.ensures.rows, c.len-2.ensures.values) in
    let same = ap (λ p. length (byte_slots slot p)) c.of-left.ensures ∙ (stored ∙ ap (λ p. length (byte_slots slot p)) (sym c.of-right.ensures)) in
    let long = length-row_by_row (related g.R.FixedRelation.op) left right same ∙ (length-map (row_bytes c.of-left.result) slot ∙ sym c.len-3.ensures) in
    rw (← c.of-left.ensures, ← c.of-right.ensures) (answered_rows c.collect_bool.result _ c.len-3.result (row_by_row (related g.R.FixedRelation.op) left right) long (λ row bit within answered. search rules) c.collect_bool.ensures.ok)
