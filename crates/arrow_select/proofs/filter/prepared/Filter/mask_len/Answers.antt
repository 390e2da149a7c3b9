use Rattle.arrow_select.proofs.Common.{ap, length, sym, ◌∙◌, named}
use Rattle.arrow_select.proofs.PlanLemmas.{length-mask_at}
use Rattle.arrow_select.proofs.filter.prepared.Filter.mask_len.Goals as goal

pub returns : goal.returns
returns c =
    let filter = c.self.inside in
    sym (length-mask_at 0 filter.mask_len (named filter.ranges.items)) ∙ ap length c.self.view_is
