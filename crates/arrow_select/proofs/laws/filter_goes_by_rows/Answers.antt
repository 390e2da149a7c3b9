use Rattle.arrow_select.proofs.Common.{◌∙◌, sym, mask_of, select}
use Rattle.arrow_select.proofs.laws.filter_goes_by_rows.Goals as goal

pub returns : goal.returns
returns c =
    c.requires.other_kept ∙ ((λ i. ((c.requires.same i).0, select (mask_of (c.requires.filters i)) (c.requires.same i).1)) ∙ sym c.requires.kept)
