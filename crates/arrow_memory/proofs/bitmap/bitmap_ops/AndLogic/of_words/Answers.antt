use Rattle.arrow_memory.proofs.LogicLemmas.{and_each}
use Rattle.arrow_memory.proofs.bitmap.bitmap_ops.AndLogic.of_words.Goals as goal

pub returns : goal.returns
returns c k below = and_each c.args.left c.args.right k
