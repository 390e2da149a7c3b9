use Rattle.arrow_select.proofs.Common.{◌∙◌}
use Rattle.arrow_select.proofs.RangedLemmas.{ranged_all}
use Rattle.arrow_select.proofs.filter.ranged.ranged_values.Goals as goal

pub returns-clause-ok : goal.returns-clause-ok
returns-clause-ok g c =
    c.loop-start.invariant ∙ ranged_all c.ranges-start-items.result.now c.args.filter.now c.args.values.now c.loop-start.start-index c.ranges-start-items.ensures.named c.requires c.loop-start-test.false
