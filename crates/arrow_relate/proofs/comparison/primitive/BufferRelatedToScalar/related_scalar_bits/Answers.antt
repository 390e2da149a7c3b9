use Rattle.std.proofs.Common.{rules, ◌≡◌, ◌∙◌, length, map, subst}
use Rattle.std.specs.Prelude.{IfOk}
use Rattle.std.proofs.lemmas.List.{length-map}
use Rattle.arrow_types.specs.Relation.{related}
use Rattle.arrow_types.specs.Slot.{Slot, Boolean}
use Rattle.arrow_relate.proofs.WordLemmas.{answered_rows}
use Rattle.arrow_relate.proofs.comparison.primitive.BufferRelatedToScalar.related_scalar_bits.Goals as goal

pub returns-clause-ok : goal.returns-clause-ok
returns-clause-ok g c =
    let slot = g.T.NativeType.slot in
    let by = λ (s : Slot). related g.R.FixedRelation.op s (slot c.args.rhs) in
    let xs = c.as_slice-left.result.now in
    let long = length-map (map slot xs) by ∙ length-map xs slot in
    let stored = answered_rows c.collect_bool.result _ (length xs) (map by (map slot xs)) long (λ row bit within answered. search rules) c.collect_bool.ensures.ok in
    subst (λ values. IfOk c.collect_bool.result (λ bits. map Boolean bits ≡ map by (map slot values))) (c.as_slice-left.ensures ∙ c.values.ensures) stored
