use Rattle.arrow_memory.proofs.Common.{refl}
use Rattle.arrow_memory.proofs.WordLemmas.{part_seen}
use Rattle.arrow_memory.proofs.bitmap.Bitmap.slice.Goals as goal

pub returns : goal.returns
returns c =
    let part = c.self.inside in
    part_seen part.words.value.items part.words.value.items part.offset part.len c.args.offset c.args.len c.args.self.now refl c.self.view_is c.requires
