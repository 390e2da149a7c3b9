use Rattle.arrow_memory.proofs.Common.{◌≡◌, ◌++◌, subst, OnOk, replicate, length-replicate}
use Rattle.arrow_memory.proofs.BitLemmas.{bits_of_word, own_bits}
use Rattle.arrow_memory.proofs.MutableLemmas.{PaddedAs, put_behind}
use Rattle.arrow_memory.proofs.bitmap.mutable.MutableBitmap.extend_constant.Goals as goal

stored : (c : goal.After-self-1) → PaddedAs c.append_equal.new.words.items c.in_ok-total.total (c.args.self.now ++ replicate c.args.additional c.args.bit)
stored c =
    put_behind (replicate c.args.additional c.args.bit) c.self.invariant c.self.view_is c.in_ok-total.ensures.unchanged c.in_ok-total.ensures.ok.0 c.append_equal.ensures.full (length-replicate c.args.additional c.args.bit) c.append_equal.ensures.appended

pub invariant_of-self-2 : goal.invariant_of-self-2
invariant_of-self-2 c = (stored c).padded

pub returns-clause-ok : goal.returns-clause-ok
returns-clause-ok c = (stored c).seen

pub returns-then-additional-le-WORD_BITS-clause-ok : goal.returns-then-additional-le-WORD_BITS-clause-ok
returns-then-additional-le-WORD_BITS-clause-ok c =
    subst (λ bits. OnOk c.push_low.result (c.push_low.new.self ≡ c.args.self.now ++ bits)) (bits_of_word (replicate c.args.additional c.args.bit) c.equal_bits.result c.args.additional c.equal_bits.ensures (length-replicate c.args.additional c.args.bit)) c.push_low.ensures.ok

pub push_low-requires-clause-low : goal.push_low-requires-clause-low
push_low-requires-clause-low c =
    own_bits (replicate c.args.additional c.args.bit) c.equal_bits.result c.args.additional c.equal_bits.ensures (length-replicate c.args.additional c.args.bit)
