use Rattle.arrow_memory.proofs.MaskLemmas.{own_bits_of}
use Rattle.arrow_memory.proofs.bitmap.mask.Mask.word.Goals as goal

pub returns : goal.returns
returns c = own_bits_of c.self.inside.bits c.self.inside.word c.self.inside.len c.args.self.now c.self.invariant c.self.view_is c.requires
