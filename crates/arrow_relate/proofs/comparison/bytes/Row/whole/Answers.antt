use Rattle.std.proofs.Common.{arith, length}
use Rattle.std.proofs.lemmas.List.{take_all}
use Rattle.arrow_relate.proofs.comparison.bytes.Row.whole.Goals as goal

pub returns : goal.returns
returns c = take_all (length c.args.bytes.now) c.args.bytes.now (omega arith)
