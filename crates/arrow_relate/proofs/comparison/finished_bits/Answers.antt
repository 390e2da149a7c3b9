use Rattle.std.proofs.Common.{◌∙◌, rules, ap, map, sym}
use Rattle.std.proofs.lemmas.List.{length-map}
use Rattle.arrow_types.specs.Slot.{Boolean}
use Rattle.arrow_relate.specs.Finished.{finished}
use Rattle.arrow_relate.proofs.FinishLemmas.{finished_valid, length-finished}
use Rattle.arrow_relate.proofs.WordLemmas.{rows_of_words}
use Rattle.arrow_relate.proofs.comparison.finished_bits.Goals as goal

pub returns-then-is_none-2-clause-ok : goal.returns-then-is_none-2-clause-ok
returns-then-is_none-2-clause-ok g c =
    ap (map Boolean) c.in_ok-clone.ensures.cases ∙ finished_valid g.E.Sameness.finishes g.met.E.Sameness.finishes_valid c.args.stored.now c.args.lhs.now c.args.rhs.now (search rules) (search rules)

pub returns-clause-ok : goal.returns-clause-ok
returns-clause-ok g c =
    let rows = finished g.E.Sameness.finishes (map Boolean c.args.stored.now) c.args.lhs.now c.args.rhs.now in
    let long = length-finished g.E.Sameness.finishes (map Boolean c.args.stored.now) c.args.lhs.now c.args.rhs.now ∙ (length-map c.args.stored.now Boolean ∙ sym c.len.ensures) in
    rows_of_words c.collect_words.result _ c.len.result rows long (λ j word some answered. search rules) c.collect_words.ensures.ok
