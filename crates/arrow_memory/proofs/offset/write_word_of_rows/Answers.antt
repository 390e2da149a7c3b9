use Rattle.arrow_memory.proofs.Common.{◌≡◌, pos, ◌+◌, length, map, unsigned_abs, ap, sym, ◌∙◌, arith, sum, ends_from, word_lengths}
use Rattle.arrow_memory.proofs.LengthLemmas.{word_ends_by_lengths, word_items_by_lengths}
use Rattle.arrow_memory.proofs.OffsetLemmas.{as_seen}
use Rattle.arrow_memory.proofs.offset.write_word_of_rows.Given.{Over}
use Rattle.arrow_memory.proofs.offset.write_word_of_rows.Goals as goal
use Rattle.arrow_memory.proofs.offset.write_word_of_rows.Goals.{After-write_lengths}

seen : (g : Over) (c : After-write_lengths g) → map unsigned_abs (map g.O.NativeOrd.number c.write_lengths.new.lengths) ≡ word_lengths c.args.word c.args.other.now c.args.start (length c.args.ends.now)
seen g c = as_seen (map g.O.NativeOrd.number c.write_lengths.new.lengths) _ c.write_lengths.ensures.lengths

pub count_on-requires-clause-lengths : goal.count_on-requires-clause-lengths
count_on-requires-clause-lengths g c = ap (map pos) (seen g (goal.at.count_on-requires-clause-lengths g c).After-write_lengths) ∙ sym c.write_lengths.ensures.lengths

pub count_on-requires-clause-fits : goal.count_on-requires-clause-fits
count_on-requires-clause-fits g c =
    omega (arith, ap sum (seen g (goal.at.count_on-requires-clause-fits g c).After-write_lengths), word_items_by_lengths c.args.word c.args.other.now c.args.start (length c.args.ends.now) c.requires.in_word, c.requires.fits)

pub returns-clause-ends : goal.returns-clause-ends
returns-clause-ends g c =
    let place = unsigned_abs (g.O.NativeOrd.number c.args.last) in
    c.count_on.ensures.ends ∙ ap (map pos) (ap (ends_from place) (seen g (goal.at.returns-clause-ends g c).After-write_lengths) ∙ sym (word_ends_by_lengths c.args.word c.args.other.now c.args.start place (length c.args.ends.now) c.requires.in_word))

pub returns-clause-last : goal.returns-clause-last
returns-clause-last g c =
    let place = unsigned_abs (g.O.NativeOrd.number c.args.last) in
    c.count_on.ensures.last ∙ ap (λ n. pos (place + n)) (ap sum (seen g (goal.at.returns-clause-last g c).After-write_lengths) ∙ sym (word_items_by_lengths c.args.word c.args.other.now c.args.start (length c.args.ends.now) c.requires.in_word))
