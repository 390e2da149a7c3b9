use Rattle.arrow_memory.proofs.Common.{◌≡◌, replicate, arith, rules}
use Rattle.arrow_memory.proofs.BitmapLemmas.{bits_in-constant}
use Rattle.arrow_memory.proofs.bitmap.Bitmap.new_constant.Goals as goal

pub returns-clause-ok : goal.returns-clause-ok
returns-clause-ok c =
    let all : c.in_ok-words.words.items ≡ replicate c.div_ceil.result c.equal_bits.result = search rules in
    rw (bits_in-constant c.in_ok-words.words.items c.args.value c.div_ceil.result c.equal_bits.result c.args.len all (omega (arith, c.div_ceil.ensures)) c.equal_bits.ensures) at c.from_words.ensures.ok
