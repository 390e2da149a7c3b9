use Rattle.arrow_memory.proofs.Common.{ap, ◌∙◌, word_of}
use Rattle.arrow_memory.proofs.WordLemmas.{part_seen}
use Rattle.arrow_memory.proofs.bitmap.Bitmap.bits_from.Goals as goal

pub returns : goal.returns
returns c =
    let map = c.self.inside in
    let read = c.deref-2.ensures.value ∙ ap (λ v. v.items) c.deref.ensures in
    c.bits_from.ensures ∙ ap word_of (part_seen c.deref-2.result.now map.words.value.items map.offset map.len c.args.first c.args.count c.args.self.now read c.self.view_is c.requires.within)
