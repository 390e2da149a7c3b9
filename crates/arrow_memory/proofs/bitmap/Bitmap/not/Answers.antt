use Rattle.arrow_memory.proofs.Common.{◌≡◌, ℕ, ◌<◌, ◌++◌, false, not, map, length, get_or, take, drop, ap, ◌∙◌, arith, take_at, bits_in, is_set}
use Rattle.arrow_memory.proofs.LogicLemmas.{bits_in-turned}
use Rattle.arrow_memory.proofs.bitmap.Bitmap.not.Goals as goal

pub returns-clause-ok : goal.returns-clause-ok
returns-clause-ok c =
    let new = c.turn.new.words in
    let written = take_at new (drop (length new) c.in_ok-words.words.items) c.in_ok-words.words.len (c.turn.ensures.long ∙ c.deref_mut.ensures.len) in
    let each : (i : ℕ) → i < length c.args.self.now → is_set new i ≡ not (get_or c.args.self.now i false) =
    λ i within. c.turn.ensures.each i (omega (arith, within, ap length c.deref_mut.ensures.value, c.in_ok-words.ensures.full)) ∙ ap not (ap (λ words. is_set words i) c.deref_mut.ensures.value ∙ c.in_ok-words.ensures.ok.each i) in
    let seen : bits_in (take c.in_ok-words.words.len (new ++ drop (length new) c.in_ok-words.words.items)) 0 c.len.result ≡ map not c.args.self.now = rw (written, c.len.ensures) (bits_in-turned new c.args.self.now each) in
    rw seen at c.from_words.ensures.ok
