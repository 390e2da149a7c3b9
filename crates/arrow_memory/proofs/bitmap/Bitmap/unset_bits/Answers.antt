use Rattle.arrow_memory.proofs.Common.{ap, ◌∙◌}
use Rattle.arrow_memory.proofs.BitmapLemmas.{unset_count}
use Rattle.arrow_memory.proofs.bitmap.Bitmap.unset_bits.Goals as goal

pub overflow_sub-result : goal.overflow_sub-result
overflow_sub-result c =
    let map = c.self.inside in
    let words = c.deref-2.ensures.value ∙ ap (λ v. v.items) c.deref.ensures in
    let ones = rw words at c.count_ones.ensures in
    (unset_count map.words.value.items map.offset map.len c.args.self.now c.count_ones.result c.self.view_is ones).0

pub returns : goal.returns
returns c =
    let map = c.self.inside in
    let words = c.deref-2.ensures.value ∙ ap (λ v. v.items) c.deref.ensures in
    let ones = rw words at c.count_ones.ensures in
    (unset_count map.words.value.items map.offset map.len c.args.self.now c.count_ones.result c.self.view_is ones).1
