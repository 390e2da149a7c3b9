use Rattle.arrow_memory.proofs.Common.{◌++◌, refl, low_bits}
use Rattle.arrow_memory.proofs.MutableLemmas.{PaddedAs, put_behind}
use Rattle.arrow_memory.proofs.WordLemmas.{length-low_bits}
use Rattle.arrow_memory.proofs.bitmap.mutable.MutableBitmap.push_low.Goals as goal

stored : (c : goal.After-self-1) → PaddedAs c.append_low.new.words.items c.in-Some.total (c.args.self.now ++ low_bits c.args.word c.args.len)
stored c =
    let long = length-low_bits c.args.word c.args.len in
    put_behind (low_bits c.args.word c.args.len) c.self.invariant c.self.view_is refl c.in-Some.ensures.1 c.in_ok-append_low.ensures.full long (λ xs reads at. c.in_ok-append_low.ensures.appended xs (low_bits c.args.word c.args.len) reads at c.requires.low long)

pub invariant_of-self-2 : goal.invariant_of-self-2
invariant_of-self-2 c = (stored c).padded

pub returns-clause-ok : goal.returns-clause-ok
returns-clause-ok c = (stored c).seen
