use Rattle.uses.proofs.Common.{Decides-like, Decides-not, any_array_rows, any_array_type, not, rules}
use Rattle.uses.proofs.ApartLemmas.{apart}
use Rattle.uses.proofs.distinct.is_distinct.Goals as goal

pub returns-clause-answer : goal.returns-clause-answer
returns-clause-answer c =
    let rows = any_array_rows c.args.column.now in
    let compared = rw c.in_ok-before.ensures.rows at c.in_ok-are_equal.ensures.rows in
    let distinct = apart (any_array_type c.args.column.now) rows _ (search rules) compared in
    Decides-like (not c.any.result) distinct.0 distinct.1 (Decides-not c.any.result c.any.ensures)
