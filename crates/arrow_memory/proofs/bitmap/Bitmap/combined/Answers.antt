use Rattle.arrow_memory.proofs.Common.{◌≡◌, ℕ, ◌+◌, ◌<◌, ◌++◌, false, length, get_or, take, drop, ap, sym, ◌∙◌, arith, take_at, paired, bits_in, is_set}
use Rattle.arrow_memory.proofs.LogicLemmas.{bits_in-paired}
use Rattle.arrow_memory.proofs.WordLemmas.{length-bits_in, get_or-bits_in}
use Rattle.arrow_memory.proofs.bitmap.Bitmap.combined.Goals as goal

pub combine-requires-clause-part : goal.combine-requires-clause-part
combine-requires-clause-part g c =
    let map = c.other.inside in
    let words = ap length (c.deref-2.ensures.value ∙ ap (λ v. v.items) c.deref.ensures) in
    let long = ap length c.deref_mut.ensures.value in
    omega (arith, words, long, c.in_ok-words.ensures.full, c.requires, ap length c.other.view_is, length-bits_in map.words.value.items map.offset map.len, c.other.invariant.within)

pub combine-requires-clause-fits : goal.combine-requires-clause-fits
combine-requires-clause-fits g c =
    let map = c.other.inside in
    let long = ap length c.deref_mut.ensures.value in
    omega (arith, long, c.in_ok-words.ensures.full, c.requires, ap length c.other.view_is, length-bits_in map.words.value.items map.offset map.len, c.other.invariant.fits)

pub returns-clause-ok : goal.returns-clause-ok
returns-clause-ok g c =
    let map = c.other.inside in
    let new = c.combine.new.words in
    let others = c.deref-2.ensures.value ∙ ap (λ v. v.items) c.deref.ensures in
    let written = take_at new (drop (length new) c.in_ok-words.words.items) c.in_ok-words.words.len (c.combine.ensures.long ∙ c.deref_mut.ensures.len) in
    let own : (i : ℕ) → is_set c.deref_mut.result.now i ≡ get_or c.args.self.now i false = λ i. ap (λ words. is_set words i) c.deref_mut.ensures.value ∙ c.in_ok-words.ensures.ok.each i in
    let other : (i : ℕ) → i < length c.args.self.now → is_set c.deref-2.result.now (map.offset + i) ≡ get_or c.args.other.now i false =
    λ i within.
    let below : i < map.len = omega (arith, within, c.requires, ap length c.other.view_is, length-bits_in map.words.value.items map.offset map.len) in
    ap (λ words. is_set words (map.offset + i)) others ∙ (sym (get_or-bits_in map.words.value.items map.offset map.len i false below) ∙ ap (λ bits. get_or bits i false) c.other.view_is) in
    let each : (i : ℕ) → i < length c.args.self.now → is_set new i ≡ g.L.Logic.bits (get_or c.args.self.now i false) (get_or c.args.other.now i false) =
    λ i within. c.combine.ensures.each i (omega (arith, within, ap length c.deref_mut.ensures.value, c.in_ok-words.ensures.full)) ∙ (λ t. g.L.Logic.bits (own i t) (other i within t)) in
    let seen : bits_in (take c.in_ok-words.words.len (new ++ drop (length new) c.in_ok-words.words.items)) 0 c.len.result ≡ paired g.L.Logic.bits c.args.self.now c.args.other.now = rw (written, c.len.ensures) (bits_in-paired g.L.Logic.bits new c.args.self.now c.args.other.now c.requires each) in
    rw seen at c.from_words.ensures.ok
