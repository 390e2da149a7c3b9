use Rattle.arrow_logic.proofs.Common.{leb-true}
use Rattle.arrow_logic.proofs.AsciiLemmas.{low_take}
use Rattle.arrow_logic.proofs.substring.units.are_ascii_in_block.Goals as goal

pub returns : goal.returns
returns c told =
    low_take c.args.from.now c.args.len c.ascii_at_front.result (leb-true c.args.len c.ascii_at_front.result told) c.ascii_at_front.ensures
