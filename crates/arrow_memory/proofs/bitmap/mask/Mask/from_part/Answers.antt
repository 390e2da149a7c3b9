use Rattle.arrow_memory.proofs.Common.{◌∙◌, sliced}
use Rattle.arrow_memory.proofs.BitLemmas.{bits_of_word}
use Rattle.arrow_memory.proofs.SlicedLemmas.{length-sliced}
use Rattle.arrow_memory.proofs.bitmap.mask.Mask.from_part.Goals as goal

pub returns : goal.returns
returns c =
    let part = sliced c.args.bits.now c.args.start c.args.len in
    c.from_word.ensures ∙ bits_of_word part c.bits_from.result c.args.len c.bits_from.ensures (length-sliced c.args.bits.now c.args.start c.args.len c.requires.within)
