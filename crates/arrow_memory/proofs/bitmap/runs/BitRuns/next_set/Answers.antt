use Rattle.arrow_memory.proofs.Common.{◌≡◌, ◌+◌, ◌-◌, ap, sym, ◌∙◌, arith, bits_in}
use Rattle.arrow_memory.proofs.RunLemmas.{cut_twice, not_first}
use Rattle.arrow_memory.proofs.bitmap.runs.BitRuns.next_set.Goals as goal

pub returns-clause-bits : goal.returns-clause-bits
returns-clause-bits c =
    let words = c.self.inside.words.now in
    let start = c.self.inside.place in
    let end = start + c.self.inside.left in
    let width : end - start ≡ c.self.inside.left = omega arith in
    let ends = c.run_ends-set in
    sym c.self.view_is ∙ (ap (bits_in words start) (sym width) ∙ cut_twice words start ends.result.0 ends.result.1 end ends.ensures.order.0 ends.ensures.order.1 ends.ensures.within ends.ensures.unset ends.ensures.run)

pub returns-clause-longest : goal.returns-clause-longest
returns-clause-longest c first =
    not_first c.self.inside.words.now c.run_ends-set.result.1 (c.self.inside.place + c.self.inside.left) c.run_ends-set.ensures.longest first
