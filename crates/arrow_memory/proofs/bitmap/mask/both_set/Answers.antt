use Rattle.arrow_memory.proofs.Common.{◌&&◌}
use Rattle.arrow_memory.proofs.MaskLemmas.{both_of_words}
use Rattle.arrow_memory.proofs.bitmap.mask.both_set.Goals as goal

pub returns : goal.returns
returns c = λ len few. both_of_words (λ x y. x && y) c.args.left c.args.right c.of_words.result len c.of_words.ensures few
