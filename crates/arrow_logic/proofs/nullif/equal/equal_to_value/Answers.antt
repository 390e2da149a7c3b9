use Rattle.arrow_logic.proofs.Common.{rules, map, get_or-map, length-map, IfOk-weaker}
use Rattle.arrow_logic.proofs.PairLemmas.{answered_bits}
use Rattle.arrow_logic.proofs.nullif.equal.equal_to_value.Goals as goal

pub returns-clause-ok : goal.returns-clause-ok
returns-clause-ok g c =
    let equals = λ (x : g.row.T.Denot). g.T.PartialEq.eq x c.args.other in
    let long = length-map c.args.values.now equals in
    answered_bits c.collect_bool.result _ _ (map equals c.args.values.now) long (λ row bit within answered. search (rules, get_or-map)) c.collect_bool.ensures.ok

pub returns-clause-count : goal.returns-clause-count
returns-clause-count g c =
    IfOk-weaker c.collect_bool.result _ _ (λ bits answers. answers.count) c.collect_bool.ensures.ok
