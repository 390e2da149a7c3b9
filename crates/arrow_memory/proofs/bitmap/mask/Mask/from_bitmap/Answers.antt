use Rattle.arrow_memory.proofs.Common.{◌∙◌, arith, take_all}
use Rattle.arrow_memory.proofs.bitmap.mask.Mask.from_bitmap.Goals as goal

pub returns-then-len-le-WORD_BITS : goal.returns-then-len-le-WORD_BITS
returns-then-len-le-WORD_BITS c = c.from_part.ensures ∙ take_all c.len-len.result c.args.bits (omega (arith, c.len-len.ensures))
