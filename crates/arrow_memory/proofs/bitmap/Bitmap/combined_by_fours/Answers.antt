use Rattle.arrow_memory.proofs.Common.{◌≡◌, ℕ, ◌<◌, ◌++◌, false, length, get_or, take, drop, ap, ◌∙◌, arith, take_at, by_fours, bits_in, is_set}
use Rattle.arrow_memory.proofs.FoursLemmas.{bit_behind, bits_in-by_fours}
use Rattle.arrow_memory.proofs.WordLemmas.{length-bits_in}
use Rattle.arrow_memory.proofs.bitmap.Bitmap.combined_by_fours.Goals as goal

pub combine_by_fours-requires-clause-second : goal.combine_by_fours-requires-clause-second
combine_by_fours-requires-clause-second g c =
    let map = c.second.inside in
    let words = ap length (c.deref-2.ensures.value ∙ ap (λ v. v.items) c.deref.ensures) in
    let long = ap length c.deref_mut.ensures.value in
    omega (arith, words, long, c.in_ok-words.ensures.full, c.requires.second, ap length c.second.view_is, length-bits_in map.words.value.items map.offset map.len, c.second.invariant.within)

pub combine_by_fours-requires-clause-third : goal.combine_by_fours-requires-clause-third
combine_by_fours-requires-clause-third g c =
    let map = c.third.inside in
    let words = ap length (c.deref-4.ensures.value ∙ ap (λ v. v.items) c.deref-3.ensures) in
    let long = ap length c.deref_mut.ensures.value in
    omega (arith, words, long, c.in_ok-words.ensures.full, c.requires.third, ap length c.third.view_is, length-bits_in map.words.value.items map.offset map.len, c.third.invariant.within)

pub combine_by_fours-requires-clause-fourth : goal.combine_by_fours-requires-clause-fourth
combine_by_fours-requires-clause-fourth g c =
    let map = c.fourth.inside in
    let words = ap length (c.deref-6.ensures.value ∙ ap (λ v. v.items) c.deref-5.ensures) in
    let long = ap length c.deref_mut.ensures.value in
    omega (arith, words, long, c.in_ok-words.ensures.full, c.requires.fourth, ap length c.fourth.view_is, length-bits_in map.words.value.items map.offset map.len, c.fourth.invariant.within)

pub combine_by_fours-requires-clause-second_fits : goal.combine_by_fours-requires-clause-second_fits
combine_by_fours-requires-clause-second_fits g c =
    let map = c.second.inside in
    let long = ap length c.deref_mut.ensures.value in
    omega (arith, long, c.in_ok-words.ensures.full, c.requires.second, ap length c.second.view_is, length-bits_in map.words.value.items map.offset map.len, c.second.invariant.fits)

pub combine_by_fours-requires-clause-third_fits : goal.combine_by_fours-requires-clause-third_fits
combine_by_fours-requires-clause-third_fits g c =
    let map = c.third.inside in
    let long = ap length c.deref_mut.ensures.value in
    omega (arith, long, c.in_ok-words.ensures.full, c.requires.third, ap length c.third.view_is, length-bits_in map.words.value.items map.offset map.len, c.third.invariant.fits)

pub combine_by_fours-requires-clause-fourth_fits : goal.combine_by_fours-requires-clause-fourth_fits
combine_by_fours-requires-clause-fourth_fits g c =
    let map = c.fourth.inside in
    let long = ap length c.deref_mut.ensures.value in
    omega (arith, long, c.in_ok-words.ensures.full, c.requires.fourth, ap length c.fourth.view_is, length-bits_in map.words.value.items map.offset map.len, c.fourth.invariant.fits)

pub returns-clause-ok : goal.returns-clause-ok
returns-clause-ok g c =
    let new = c.combine_by_fours.new.words in
    let bits = g.L.QuaternaryLogic.bits in
    let xs = c.args.self.now in
    let written = take_at new (drop (length new) c.in_ok-words.words.items) c.in_ok-words.words.len (c.combine_by_fours.ensures.long ∙ c.deref_mut.ensures.len) in
    let own : (i : ℕ) → is_set c.deref_mut.result.now i ≡ get_or xs i false = λ i. ap (λ words. is_set words i) c.deref_mut.ensures.value ∙ c.in_ok-words.ensures.ok.each i in
    let second = bit_behind c.deref-2.result.now xs c.args.second.now c.second.inside.words.value.items c.second.inside.offset c.second.inside.len (c.deref-2.ensures.value ∙ ap (λ v. v.items) c.deref.ensures) c.second.view_is c.requires.second in
    let third = bit_behind c.deref-4.result.now xs c.args.third.now c.third.inside.words.value.items c.third.inside.offset c.third.inside.len (c.deref-4.ensures.value ∙ ap (λ v. v.items) c.deref-3.ensures) c.third.view_is c.requires.third in
    let fourth = bit_behind c.deref-6.result.now xs c.args.fourth.now c.fourth.inside.words.value.items c.fourth.inside.offset c.fourth.inside.len (c.deref-6.ensures.value ∙ ap (λ v. v.items) c.deref-5.ensures) c.fourth.view_is c.requires.fourth in
    let each : (i : ℕ) → i < length xs → is_set new i ≡ bits (get_or xs i false) (get_or c.args.second.now i false) (get_or c.args.third.now i false) (get_or c.args.fourth.now i false) =
    λ i within. c.combine_by_fours.ensures.each i (omega (arith, within, ap length c.deref_mut.ensures.value, c.in_ok-words.ensures.full)) ∙ (λ t. bits (own i t) (second i within t) (third i within t) (fourth i within t)) in
    let seen : bits_in (take c.in_ok-words.words.len (new ++ drop (length new) c.in_ok-words.words.items)) 0 c.len.result ≡ by_fours bits xs c.args.second.now c.args.third.now c.args.fourth.now = rw (written, c.len.ensures) (bits_in-by_fours bits new xs c.args.second.now c.args.third.now c.args.fourth.now c.requires.second c.requires.third c.requires.fourth each) in
    rw seen at c.from_words.ensures.ok
