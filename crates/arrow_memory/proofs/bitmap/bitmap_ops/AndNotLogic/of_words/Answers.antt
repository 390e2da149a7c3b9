use Rattle.arrow_memory.proofs.LogicLemmas.{and_not_each}
use Rattle.arrow_memory.proofs.bitmap.bitmap_ops.AndNotLogic.of_words.Goals as goal

pub returns : goal.returns
returns c k below = and_not_each c.args.left c.args.right k c.ranges.right.fits below
