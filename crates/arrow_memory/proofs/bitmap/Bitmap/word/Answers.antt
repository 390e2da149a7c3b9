use Rattle.arrow_memory.proofs.Common.{◌*◌, length, ap, ◌∙◌, arith, word_of}
use Rattle.arrow_memory.proofs.BitmapLemmas.{bit_of-word}
use Rattle.arrow_memory.proofs.WordLemmas.{length-bits_in, part_seen}
use Rattle.arrow_memory.proofs.bitmap.Bitmap.word.Goals as goal

pub returns-then-j-self-clause-word : goal.returns-then-j-self-clause-word
returns-then-j-self-clause-word c =
    let map = c.self.inside in
    let words = map.words.value.items in
    let read = c.deref-then-j-self.ensures.value ∙ ap (λ v. v.items) c.deref.ensures in
    c.word_within.ensures ∙ ap word_of (part_seen c.deref-then-j-self.result.now words map.offset map.len (64 * c.args.j) 64 c.args.self.now read c.self.view_is (omega (arith, c.if-j-self.true, length-bits_in words map.offset map.len, ap length c.self.view_is)))

pub returns-then-j-self-clause-each : goal.returns-then-j-self-clause-each
returns-then-j-self-clause-each c k within =
    bit_of-word c.args.self.now (64 * c.args.j) 64 c.word_within.result k within (returns-then-j-self-clause-word c)

pub returns-else-j-self-clause-each : goal.returns-else-j-self-clause-each
returns-else-j-self-clause-each c k within =
    bit_of-word c.args.self.now (64 * c.args.j) 64 c.last_word.result k within c.last_word.ensures
