use Rattle.arrow_memory.proofs.Common.{ap, ◌∙◌}
use Rattle.arrow_memory.proofs.WordLemmas.{part_seen}
use Rattle.arrow_memory.proofs.bitmap.Bitmap.append_to.Goals as goal

pub returns-clause-appended : goal.returns-clause-appended
returns-clause-appended c =
    let map = c.self.inside in
    let read = c.deref-2.ensures.value ∙ ap (λ v. v.items) c.deref.ensures in
    rw (part_seen c.deref-2.result.now map.words.value.items map.offset map.len c.args.start c.args.len c.args.self.now read c.self.view_is c.requires.part) at c.append_bits.ensures.appended
