use Rattle.arrow_memory.proofs.Common.{◌≡◌, pos, ◌+◌, ◌++◌, [], ◌∷◌, length, map, unsigned_abs, slice_index, ap, ◌∙◌, arith, valid_ends, with_valid_rows, bits_in, low_bits}
use Rattle.arrow_memory.proofs.OffsetLemmas.{StoredAs}
use Rattle.arrow_memory.proofs.ValidLemmas.{stored_valid_rows, valid_items-within}
use Rattle.arrow_memory.proofs.WordLemmas.{length-bits_in, low_bits_in}
use Rattle.arrow_memory.proofs.offset.Offsets.extend_from_word.Given.{Over}
use Rattle.arrow_memory.proofs.offset.Offsets.extend_from_word.Goals as goal

pub append_word_of_rows-requires-clause-fits : goal.append_word_of_rows-requires-clause-fits
append_word_of_rows-requires-clause-fits g c =
    let bits = bits_in (c.args.word ∷ []) 0 c.args.len in
    let long : length bits ≡ c.args.len = length-bits_in (c.args.word ∷ []) 0 c.args.len in
    let items = valid_items-within bits c.args.other.now c.args.start c.len.ensures.sound (omega (arith, c.requires.part, long)) in
    omega (arith, items, ap (λ n. slice_index c.args.other.now (c.args.start + n)) long, ap unsigned_abs c.last-last.ensures, c.requires.room)

stored : (g : Over) (c : goal.After-append_word_of_rows g) → StoredAs g.O.NativeOrd.number c.append_word_of_rows.new.offsets.items (with_valid_rows c.args.self.now (low_bits c.args.word c.args.len) c.args.other.now c.args.start)
stored g c =
    let number = g.O.NativeOrd.number in
    let place = unsigned_abs (number c.last-last.result.now) in
    let ends = c.append_word_of_rows.ensures.ends ∙ ap (λ bits. map number c.reserve.new.self.items ++ map pos (valid_ends place bits c.args.other.now c.args.start)) (low_bits_in c.args.word c.args.len c.requires.in_word) in
    stored_valid_rows number c.self.inside.offsets.items c.reserve.new.self.items c.append_word_of_rows.new.offsets.items c.args.self.now (low_bits c.args.word c.args.len) c.args.other.now place c.args.start c.self.invariant c.self.view_is c.reserve.ensures.items ends (ap unsigned_abs c.last-last.ensures)

pub invariant_of-self-2 : goal.invariant_of-self-2
invariant_of-self-2 g c = (stored g c).held

pub returns-clause-ok : goal.returns-clause-ok
returns-clause-ok g c = (stored g c).seen
