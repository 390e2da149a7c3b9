use Rattle.arrow_select.proofs.Common.{arith, count_by-not}
use Rattle.arrow_select.proofs.filter.any.count_set.Goals as goal

pub returns : goal.returns
returns c = omega (arith, c.len.ensures, c.unset_bits.ensures, count_by-not c.args.mask.now)
