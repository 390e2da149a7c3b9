use Rattle.arrow_memory.proofs.Common.{◌+◌, ◌≤◌, map, unsigned_abs, ap, arith, ints}
use Rattle.arrow_memory.proofs.ValidLemmas.{word_items, word_ends}
use Rattle.arrow_memory.proofs.offset.append_valid_rows.Goals as goal

pub append_word_of_rows-last-requires-clause-fits : goal.append_word_of_rows-last-requires-clause-fits
append_word_of_rows-last-requires-clause-fits g c =
    let end = c.args.start + c.args.len in
    let row = c.loop-row.row in
    let count = c.min-count.result in
    let within : row + count ≤ end = omega (arith, c.min-count.ensures, c.loop-row.invariant.within) in
    let small : count ≤ 64 = omega (arith, c.min-count.ensures) in
    let items = word_items c.args.validity.now row count end c.bits_from-word.result c.bits_from-word.ensures within c.requires.covered small c.args.other.now in
    omega (arith, items, c.loop-row.invariant.total, c.requires.fits)

pub loop-row-preserved : goal.loop-row-preserved
loop-row-preserved g c =
    let number = g.O.NativeOrd.number in
    let end = c.args.start + c.args.len in
    let row = c.loop-row.row in
    let count = c.min-count.result in
    let bits = c.args.validity.now in
    let word = c.bits_from-word.result in
    let os = c.args.other.now in
    let within : row + count ≤ end = omega (arith, c.min-count.ensures, c.loop-row.invariant.within) in
    let small : count ≤ 64 = omega (arith, c.min-count.ensures) in
    let more = c.append_word_of_rows-last.ensures in
    let counted = ap unsigned_abs more.last in
    let items = word_items bits row count end word c.bits_from-word.ensures within c.requires.covered small os in
    record {
      order = omega (arith, c.loop-row.invariant.order);
      within = within;
      room = omega (arith, more.len, more.capacity, c.loop-row.invariant.room, within);
      not_negative = omega (arith, ints, more.last);
      total = omega (arith, counted, items, c.loop-row.invariant.total);
      ends = word_ends bits row count end word c.bits_from-word.ensures within c.requires.covered small os (map number c.loop-row.offsets.items) (map number c.append_word_of_rows-last.new.offsets.items) _ (unsigned_abs (number c.loop-row.last)) (unsigned_abs (number c.append_word_of_rows-last.result)) more.ends counted c.loop-row.invariant.ends;
    }
