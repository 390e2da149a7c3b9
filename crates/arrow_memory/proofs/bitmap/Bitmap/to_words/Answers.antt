use Rattle.arrow_memory.proofs.Common.{◌≡◌, [], sym, refl, subst, arith, take_all, sliced, Reads}
use Rattle.arrow_memory.proofs.AppendLemmas.{reads_none}
use Rattle.arrow_memory.proofs.bitmap.Bitmap.to_words.Goals as goal

pub returns-clause-ok : goal.returns-clause-ok
returns-clause-ok c =
    let all : sliced c.args.self.now 0 c.len-len.result ≡ c.args.self.now = take_all c.len-len.result c.args.self.now (omega (arith, c.len-len.ensures)) in
    rw all at (c.append_to.ensures.appended [] (subst (λ words. Reads words []) (sym c.in_ok-words.ensures.items) reads_none) refl)
