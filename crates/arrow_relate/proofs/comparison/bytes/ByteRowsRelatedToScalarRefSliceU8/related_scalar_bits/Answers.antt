use Rattle.std.proofs.Common.{◌∙◌, map, rules, sym}
use Rattle.std.proofs.lemmas.List.{length-map}
use Rattle.arrow_types.specs.Relation.{related}
use Rattle.arrow_types.specs.Slot.{Slot}
use Rattle.arrow_flat.specs.ByteRows.{byte_slots, row_bytes}
use Rattle.arrow_relate.proofs.WordLemmas.{answered_rows}
use Rattle.arrow_relate.proofs.comparison.bytes.ByteRowsRelatedToScalarRefSliceU8.related_scalar_bits.Goals as goal

pub returns-clause-ok : goal.returns-clause-ok
returns-clause-ok g c =
    let slot = g.K.ByteKind.slot in
    let give = λ (s : Slot). related g.R.FixedRelation.op s (slot c.whole-scalar.result) in
    let rows = byte_slots slot c.of-rows.result in
    let long = length-map rows give ∙ (length-map (row_bytes c.of-rows.result) slot ∙ sym c.len.ensures) in
    rw (← c.of-rows.ensures, ← c.whole-scalar.ensures) (answered_rows c.collect_bool.result _ c.len.result (map give rows) long (λ row bit within answered. search rules) c.collect_bool.ensures.ok)
