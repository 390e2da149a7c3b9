use Rattle.arrow_choice.proofs.Common.{◌-◌, ◌++◌, ◌∙◌, sliced, on_ok}
use Rattle.arrow_choice.proofs.ChosenRuns.{run_appended}
use Rattle.arrow_choice.proofs.if_then_else.bytes.append_all.Goals as goal

pub returns-clause-ok : goal.returns-clause-ok
returns-clause-ok g c =
    on_ok c.append_span.result c.append_span.ensures.ok (λ copied. run_appended c.args.rows.0.now c.args.rows.1.now c.len.ensures.sound c.requires.within c.args.start c.args.count c.requires.part _ _ _ _ c.in_ok-try_extend_from_slice.ensures.ok (copied ∙ (λ i. c.args.bytes.now.items ++ sliced c.args.rows.1.now (c.range-first.ensures.start i) (c.range-first.ensures.end i - c.range-first.ensures.start i))))
