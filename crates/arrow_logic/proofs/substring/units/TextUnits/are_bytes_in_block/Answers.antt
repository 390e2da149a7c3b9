use Rattle.arrow_logic.proofs.Common.{take}
use Rattle.arrow_logic.proofs.TextLemmas.{ascii_cut}
use Rattle.arrow_logic.proofs.substring.units.TextUnits.are_bytes_in_block.Goals as goal

pub returns : goal.returns
returns c = λ told. ascii_cut (take c.args.len c.args.from.now) (c.are_ascii_in_block.ensures told)
