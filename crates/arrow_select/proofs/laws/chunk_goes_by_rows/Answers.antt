use Rattle.arrow_select.proofs.Common.{◌∙◌, sym, boolean_rows}
use Rattle.arrow_select.proofs.LawLemmas.{columns_alike}
use Rattle.arrow_select.proofs.laws.chunk_goes_by_rows.Goals as goal

pub returns-clause-rows : goal.returns-clause-rows
returns-clause-rows c =
    c.requires.other_rows ∙ (columns_alike (boolean_rows c.args.filter.now) (boolean_rows c.args.other_filter.now) c.args.columns.now c.args.other.now c.requires.filters c.requires.same_rows ∙ sym c.requires.rows)
