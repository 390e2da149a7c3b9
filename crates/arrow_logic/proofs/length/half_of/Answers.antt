use Rattle.arrow_logic.proofs.Common.{part_bit}
use Rattle.arrow_logic.proofs.length.half_of.Goals as goal

pub returns : goal.returns
returns c = λ k below. part_bit c.args.word c.args.first k below
