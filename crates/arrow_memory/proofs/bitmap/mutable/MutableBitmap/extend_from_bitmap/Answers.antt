use Rattle.arrow_memory.proofs.Common.{◌≡◌, ◌++◌, subst, OnOk, sliced}
use Rattle.arrow_memory.proofs.BitLemmas.{bits_of_word, own_bits}
use Rattle.arrow_memory.proofs.MutableLemmas.{PaddedAs, put_behind}
use Rattle.arrow_memory.proofs.SlicedLemmas.{length-sliced}
use Rattle.arrow_memory.proofs.bitmap.mutable.MutableBitmap.extend_from_bitmap.Goals as goal

stored : (c : goal.After-self-1) → PaddedAs c.append_to.new.words.items c.in_ok-total.total (c.args.self.now ++ sliced c.args.bitmap.now c.args.start c.args.len)
stored c =
    put_behind (sliced c.args.bitmap.now c.args.start c.args.len) c.self.invariant c.self.view_is c.in_ok-total.ensures.unchanged c.in_ok-total.ensures.ok.0 c.append_to.ensures.full (length-sliced c.args.bitmap.now c.args.start c.args.len c.requires) c.append_to.ensures.appended

pub invariant_of-self-2 : goal.invariant_of-self-2
invariant_of-self-2 c = (stored c).padded

pub returns-clause-ok : goal.returns-clause-ok
returns-clause-ok c = (stored c).seen

pub returns-then-len-le-WORD_BITS-clause-ok : goal.returns-then-len-le-WORD_BITS-clause-ok
returns-then-len-le-WORD_BITS-clause-ok c =
    subst (λ bits. OnOk c.push_low.result (c.push_low.new.self ≡ c.args.self.now ++ bits)) (bits_of_word (sliced c.args.bitmap.now c.args.start c.args.len) c.bits_from.result c.args.len c.bits_from.ensures (length-sliced c.args.bitmap.now c.args.start c.args.len c.requires)) c.push_low.ensures.ok

pub push_low-requires-clause-low : goal.push_low-requires-clause-low
push_low-requires-clause-low c =
    own_bits (sliced c.args.bitmap.now c.args.start c.args.len) c.bits_from.result c.args.len c.bits_from.ensures (length-sliced c.args.bitmap.now c.args.start c.args.len c.requires)
