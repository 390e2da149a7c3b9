use Rattle.arrow_memory.proofs.Common.{◌++◌, ◌∷◌, [], refl, ◌∙◌}
use Rattle.arrow_memory.proofs.MutableLemmas.{PaddedAs, put_behind}
use Rattle.arrow_memory.proofs.WordLemmas.{one_bit}
use Rattle.arrow_memory.proofs.bitmap.mutable.MutableBitmap.push.Goals as goal

stored : (c : goal.After-self-1) → PaddedAs c.append_word.new.words.items c.in_ok-total.total (c.args.self.now ++ c.args.bit ∷ [])
stored c =
    put_behind (c.args.bit ∷ []) c.self.invariant c.self.view_is c.in_ok-total.ensures.unchanged c.in_ok-total.ensures.ok.0 c.append_word.ensures.full refl (λ xs reads at. c.append_word.ensures.appended xs (c.args.bit ∷ []) reads at (c.from.ensures ∙ one_bit c.args.bit) refl)

pub invariant_of-self-2 : goal.invariant_of-self-2
invariant_of-self-2 c = (stored c).padded

pub returns-clause-ok : goal.returns-clause-ok
returns-clause-ok c = (stored c).seen
