use Rattle.arrow_select.proofs.Common.{◌∙◌, ap, sym, shifted}
use Rattle.arrow_select.proofs.laws.shift_goes_by_rows.Goals as goal

pub returns : goal.returns
returns c =
    c.requires.moved.1 ∙ (ap (λ m. (m.0, shifted m.1 c.args.offset m.0)) c.requires.same ∙ sym c.requires.moved.0)
