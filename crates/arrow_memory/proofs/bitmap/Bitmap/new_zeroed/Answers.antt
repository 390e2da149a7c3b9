use Rattle.arrow_memory.proofs.Common.{◌≡◌, false, replicate, refl, arith, rules}
use Rattle.arrow_memory.proofs.BitmapLemmas.{bits_in-constant}
use Rattle.arrow_memory.proofs.bitmap.Bitmap.new_zeroed.Goals as goal

pub returns-clause-ok : goal.returns-clause-ok
returns-clause-ok c =
    let zeros : c.in_ok-words.words.items ≡ replicate c.div_ceil.result 0 = search rules in
    rw (bits_in-constant c.in_ok-words.words.items false c.div_ceil.result 0 c.args.len zeros (omega (arith, c.div_ceil.ensures)) refl) at c.from_words.ensures.ok
