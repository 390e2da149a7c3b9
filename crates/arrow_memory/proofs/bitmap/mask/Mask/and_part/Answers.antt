use Rattle.arrow_memory.proofs.Common.{◌≡◌, ◌≤◌, length, sym, ap, ◌∙◌, arith, both_bits, sliced, low_bits}
use Rattle.arrow_memory.proofs.BitLemmas.{bits_of_word}
use Rattle.arrow_memory.proofs.MaskLemmas.{mask_length, own_bits_of}
use Rattle.arrow_memory.proofs.SlicedLemmas.{length-sliced}
use Rattle.arrow_memory.proofs.bitmap.mask.Mask.and_part.Goals as goal

pub returns-clause-ok : goal.returns-clause-ok
returns-clause-ok c =
    let mask = c.self.inside in
    let bits = c.args.self.now in
    let part = sliced c.args.validity.now c.args.start (length bits) in
    let long : mask.len ≡ length bits = sym (mask_length mask.bits mask.word mask.len c.self.invariant) ∙ ap length c.self.view_is in
    let few : length bits ≤ 64 = omega (arith, c.if-self-gt-WORD_BITS.false, long) in
    let own = own_bits_of mask.bits mask.word mask.len bits c.self.invariant c.self.view_is few in
    let other = bits_of_word part c.bits_from-part.result (length bits) (rw long at c.bits_from-part.ensures) (length-sliced c.args.validity.now c.args.start (length bits) c.requires) in
    c.from_word.ensures ∙ (ap (low_bits c.both_set.result) long ∙ (c.both_set.ensures (length bits) few ∙ (λ t. both_bits (other t) (own t))))
