use Rattle.arrow_logic.proofs.TextLemmas.{ascii_by_bytes}
use Rattle.arrow_logic.proofs.substring.units.TextUnits.are_bytes.Goals as goal

pub returns : goal.returns
returns c = λ told. ascii_by_bytes c.args.bytes.now (c.are_ascii.ensures.0 told)
