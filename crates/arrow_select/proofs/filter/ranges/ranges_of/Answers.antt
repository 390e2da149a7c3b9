use Rattle.arrow_select.proofs.Common.{arith, ◌*◌, ap, ◌∙◌}
use Rattle.arrow_select.proofs.PlanLemmas.{walk_apart, walk_on, walks_all, walks_out}
use Rattle.arrow_select.proofs.filter.ranges.ranges_of.Goals as goal
use Rattle.arrow_select.proofs.filter.ranges.ranges_of.Goals.{then-row-first+in_ok-end_run, else-row-first}

pub loop-word-preserved : goal.loop-word-preserved
loop-word-preserved c =
    let start = c.lowest_run-start.result.0 in
    let end = c.lowest_run-start.result.1 in
    let rest = c.lowest_run-start.result.2 in
    let mask = c.args.mask.now in
    let base = 64 * c.loop-j.j in
    let here = c.loop-word in
    let run = c.lowest_run-start.ensures in
    elim c.if-row-first.branch [
      | then-row-first+in_ok-end_run w ↦
          walk_apart here.ranges.items here.first here.count here.word base start end rest mask run here.invariant _ _ _ w.if-row-first.true (ap (λ rs. rs.items) w.ranges-is ∙ w.in_ok-end_run.ensures.ok) w.first-is w.count-is
      | else-row-first w ↦
          walk_on here.ranges.items here.first here.count here.word base start end rest mask run here.invariant _ _ _ w.if-row-first.false (ap (λ rs. rs.items) w.ranges-is) w.first-is w.count-is
    ]

pub overflow_add-count : goal.overflow_add-count
overflow_add-count c =
    let walk = loop-word-preserved c in
    omega (arith, walk.opens.inside, c.len.ensures, c.len.type_inv)

pub loop-j-preserved : goal.loop-j-preserved
loop-j-preserved c =
    walks_out _ _ _ c.loop-word.word (64 * c.loop-j.j) _ c.args.mask.now c.loop-word-test.false (omega arith) c.loop-word.invariant

pub returns-clause-ok : goal.returns-clause-ok
returns-clause-ok c =
    walks_all c.loop-j.ranges.items _ c.loop-j.first c.loop-j.count (64 * c.loop-j.j) c.args.mask.now (omega (arith, c.loop-j-test.false, c.div_ceil-j-end.ensures, c.len.ensures)) c.loop-j.invariant c.in_ok-end_run-2.ensures.ok
