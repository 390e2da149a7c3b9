use Rattle.arrow_choice.proofs.Common.{on_ok}
use Rattle.arrow_choice.proofs.ChosenRuns.{valid_appended}
use Rattle.arrow_choice.proofs.if_then_else.bytes.append_valid.Goals as goal

pub returns-clause-ok : goal.returns-clause-ok
returns-clause-ok g c =
    on_ok c.append_valid_bytes.result c.append_valid_bytes.ensures.ok (valid_appended c.args.validity.now c.args.rows.0.now c.args.rows.1.now c.len.ensures.sound c.requires.within c.args.start c.args.count c.requires.part c.requires.covered _ _ _ _ c.in_ok-try_extend_from_valid.ensures.ok)
