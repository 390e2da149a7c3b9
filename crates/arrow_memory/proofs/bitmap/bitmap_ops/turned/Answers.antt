use Rattle.arrow_memory.proofs.LogicLemmas.{not_each}
use Rattle.arrow_memory.proofs.bitmap.bitmap_ops.turned.Goals as goal

pub returns : goal.returns
returns c = λ k below. not_each c.args.word k c.ranges.word.fits below
