use Rattle.arrow_memory.proofs.Common.{◌*◌, ap, ◌∙◌, flat_map, replicate, sliced}
use Rattle.arrow_memory.proofs.BitLemmas.{bits_of_word}
use Rattle.arrow_memory.proofs.SlicedLemmas.{length-sliced}
use Rattle.arrow_memory.proofs.RepeatLemmas.{repeated_long}
use Rattle.arrow_memory.proofs.bitmap.mask.Mask.repeated.Goals as goal

pub returns : goal.returns
returns c =
    let rows = sliced c.args.bits.now c.args.start c.args.len in
    let long = repeated_long c.args.times rows ∙ ap (λ n. n * c.args.times) (length-sliced c.args.bits.now c.args.start c.args.len c.requires.within) in
    c.from_word.ensures ∙ bits_of_word (flat_map (replicate c.args.times) rows) c.repeated_word.result (c.args.len * c.args.times) c.repeated_word.ensures long
