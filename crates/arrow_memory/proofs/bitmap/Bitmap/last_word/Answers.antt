use Rattle.arrow_memory.proofs.BitmapLemmas.{word_clamped}
use Rattle.arrow_memory.proofs.bitmap.Bitmap.last_word.Goals as goal

pub returns : goal.returns
returns c =
    word_clamped c.args.self.now c.args.j c.len-len.result c.saturating_mul.result c.min-start.result c.min.result c.bits_from.result c.len-len.ensures c.len-len.type_inv c.saturating_mul.ensures c.min-start.ensures c.min.ensures c.bits_from.ensures
