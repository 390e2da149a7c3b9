use Rattle.arrow_memory.proofs.Common.{◌/◌, ◌^◌, ap, bit_or}
use Rattle.arrow_memory.proofs.WordLemmas.{shifted_twice}
use Rattle.arrow_memory.proofs.words.across.Goals as goal

pub returns : goal.returns
returns c = ap (λ high. bit_or (c.args.low / 2 ^ c.args.shift) high) (shifted_twice c.args.high c.args.shift c.requires)
