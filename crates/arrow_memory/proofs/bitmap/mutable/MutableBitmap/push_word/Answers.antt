use Rattle.arrow_memory.proofs.Common.{◌≡◌, subst, OnOk, low_bits}
use Rattle.std.specs.Prelude.{◌++◌}
use Rattle.arrow_memory.proofs.BitLemmas.{bits_of_word, own_bits}
use Rattle.arrow_memory.proofs.WordLemmas.{length-low_bits}
use Rattle.arrow_memory.proofs.bitmap.mutable.MutableBitmap.push_word.Goals as goal

pub push_low-requires-clause-low : goal.push_low-requires-clause-low
push_low-requires-clause-low c =
    own_bits (low_bits c.args.word c.args.len) c.low_word.result c.args.len c.low_word.ensures (length-low_bits c.args.word c.args.len)

pub returns-clause-ok : goal.returns-clause-ok
returns-clause-ok c =
    subst (λ bits. OnOk c.push_low.result (c.push_low.new.self ≡ c.args.self.now ++ bits)) (bits_of_word (low_bits c.args.word c.args.len) c.low_word.result c.args.len c.low_word.ensures (length-low_bits c.args.word c.args.len)) c.push_low.ensures.ok
