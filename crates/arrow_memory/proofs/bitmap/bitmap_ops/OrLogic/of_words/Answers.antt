use Rattle.arrow_memory.proofs.LogicLemmas.{or_each}
use Rattle.arrow_memory.proofs.bitmap.bitmap_ops.OrLogic.of_words.Goals as goal

pub returns : goal.returns
returns c k below = or_each c.args.left c.args.right k
