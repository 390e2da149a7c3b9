use Rattle.arrow_select.proofs.Common.{◌∙◌, sym, gather}
use Rattle.arrow_select.proofs.laws.take_goes_by_rows.Goals as goal

pub returns : goal.returns
returns g c =
    c.requires.other_taken ∙ ((λ i. ((c.requires.same i).0, gather (c.requires.same i).1 (c.requires.indices i) (c.requires.same i).0)) ∙ sym c.requires.taken)
