use Rattle.std.proofs.Common.{rules}
use Rattle.arrow_growable.proofs.IdLemmas.{words_of_id}
use Rattle.arrow_growable.proofs.growable.ids.rows_of_id.Goals as goal

pub returns-clause-ok : goal.returns-clause-ok
returns-clause-ok c =
    words_of_id _ c.args.types.now c.args.id c.in_ok-own.own c.in_ok-own.ensures.ok (λ j word answered. search rules)
