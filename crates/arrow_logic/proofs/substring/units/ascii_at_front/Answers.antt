use Rattle.arrow_logic.proofs.Common.{refl, arith}
use Rattle.arrow_logic.proofs.AsciiLemmas.{low_before}
use Rattle.arrow_logic.proofs.substring.units.ascii_at_front.Goals as goal

pub returns : goal.returns
returns c k below =
    low_before c.args.from.now _ k c.requires refl (omega (arith, below, c.min.ensures)) (omega (arith, below, c.min.ensures))
