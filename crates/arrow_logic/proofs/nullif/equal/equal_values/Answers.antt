use Rattle.arrow_logic.proofs.Common.{rules, IfOk-weaker, row_by_row, get_or-row_by_row, length-row_by_row}
use Rattle.arrow_logic.proofs.PairLemmas.{answered_bits}
use Rattle.arrow_logic.proofs.nullif.equal.equal_values.Goals as goal

pub returns-clause-ok : goal.returns-clause-ok
returns-clause-ok g c =
    let pairs = row_by_row g.T.PartialEq.eq c.args.left.now c.args.right.now in
    let long = length-row_by_row g.T.PartialEq.eq c.args.left.now c.args.right.now c.requires in
    answered_bits c.collect_bool.result _ _ pairs long (λ row bit within answered. search (rules, get_or-row_by_row)) c.collect_bool.ensures.ok

pub returns-clause-count : goal.returns-clause-count
returns-clause-count g c =
    IfOk-weaker c.collect_bool.result _ _ (λ bits answers. answers.count) c.collect_bool.ensures.ok
