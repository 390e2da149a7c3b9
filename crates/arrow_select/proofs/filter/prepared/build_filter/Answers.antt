use Rattle.arrow_select.proofs.Common.{◌∙◌}
use Rattle.arrow_select.proofs.PlanLemmas.{plan_mask, plan_of}
use Rattle.arrow_select.proofs.filter.prepared.build_filter.Goals as goal

pub invariant_of-result : goal.invariant_of-result
invariant_of-result c =
    plan_of c.in_ok-ranges.ranges.items _ c.len.result c.in_ok-mask.mask c.len.ensures c.in_ok-ranges.ensures.ok c.count_set.ensures

pub returns-clause-ok : goal.returns-clause-ok
returns-clause-ok c =
    plan_mask c.in_ok-ranges.ranges.items c.len.result c.in_ok-mask.mask c.len.ensures c.in_ok-ranges.ensures.ok ∙ c.in_ok-mask.ensures.ok
